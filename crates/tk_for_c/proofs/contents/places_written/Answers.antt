use Rattle.std.proofs.Common.{ap}
use Rattle.std.specs.Prelude.{option_map}
use Rattle.tk_for_c.proofs.contents.places_written.Goals as goal

pub returns-clause-given : goal.returns-clause-given
returns-clause-given c = λ _.
    (c.in-Some.points.now, ap (option_map (λ points. points.now)) c.in-Some.is, c.fill_places.ensures)
