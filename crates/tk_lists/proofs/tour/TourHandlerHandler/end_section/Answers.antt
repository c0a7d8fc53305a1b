use Rattle.std.proofs.Common.{refl}
use Rattle.tk_lists.proofs.Tours.{early_ended}
use Rattle.tk_lists.proofs.tour.TourHandlerHandler.end_section.Goals as goal

pub returns-clause-ok : goal.returns-clause-ok
returns-clause-ok c = λ before word n toks line w. early_ended c.args.self.now c.args.self.now before word n toks w
    refl refl line
