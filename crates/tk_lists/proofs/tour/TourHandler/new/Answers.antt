use Rattle.std.proofs.Common.{refl}
use Rattle.tk_lines.specs.Lists.{list_entries}
use Rattle.tk_lists.proofs.tour.TourHandler.new.Goals as goal

pub returns : goal.returns
unfolding list_entries
returns c =
    record {
      seen = record { name = refl; kind = refl; dimension = refl };
      section = refl;
      cities = c.new.ensures.items;
    }
