use Rattle.std.proofs.Common.{Bool, refl, ap}
use Rattle.std.proofs.lemmas.Result.{IfOk-weaker}
use Rattle.tk_lists.proofs.Tours.{wants_none}
use Rattle.tk_lists.proofs.tour.TourHandlerHandler.section.Goals as goal

pub returns-in-TourSection-clause-ok : goal.returns-in-TourSection-clause-ok
returns-in-TourSection-clause-ok c = λ before n h.
    IfOk-weaker c.once.result
    _ _ (λ x p. rw c.in-TourSection.is
    (wants_none c.args.self.now before n
    (record c.args.self.now { seen = record c.args.self.now.seen { section = c.once.new.seen } }) h p.0
    (ap (λ (t : Bool). record c.args.self.now.seen { section = t }) p.1) refl)) c.once.ensures.ok
