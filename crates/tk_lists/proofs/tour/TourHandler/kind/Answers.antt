use Rattle.std.proofs.Common.{◌∙◌, sym}
use Rattle.tk_lists.proofs.Tours.{kind_ok}
use Rattle.tk_lists.proofs.tour.TourHandler.kind.Goals as goal

pub returns-then-is-clause-ok : goal.returns-then-is-clause-ok
returns-then-is-clause-ok c = λ before v n h scans.
    let p = c.in_ok-once.ensures.ok in
    kind_ok c.args.self.now c.once.new.seen before v n h p.1 p.0 (sym (c.is.ensures v scans) ∙ c.if-is.true)
