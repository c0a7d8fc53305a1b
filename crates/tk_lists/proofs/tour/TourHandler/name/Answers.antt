use Rattle.std.proofs.Common.{arith}
use Rattle.std.proofs.lemmas.Result.{IfOk-weaker}
use Rattle.tk_lists.proofs.Tours.{name_ok}
use Rattle.tk_lists.proofs.tour.TourHandler.name.Goals as goal

pub returns-clause-ok : goal.returns-clause-ok
returns-clause-ok c = λ before v n h scans.
    IfOk-weaker c.once.result
    _ _ (λ x p. name_ok c.args.self.now c.once.new.seen before v n h p.1 p.0
    (omega (arith, scans.trimmed, c.if-value-gt1024.false))) c.once.ensures.ok
