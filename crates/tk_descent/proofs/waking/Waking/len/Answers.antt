use Rattle.std.proofs.Common.{ap, arith, refl}
use Rattle.tk_descent.proofs.WakeExecutions.Queue.{few_awake}
use Rattle.tk_descent.proofs.waking.Waking.len.Goals as goal

pub returns-clause-limit : goal.returns-clause-limit
returns-clause-limit c =
    let inside = c.self.inside in
    few_awake inside.queue.items inside.queue.items inside.awake.items c.args.self.now.size c.len.result
    c.self.invariant.2 (omega (arith, inside.awake.ok.0, c.self.invariant.1)) refl
    (omega (arith, inside.awake.ok.0, ap (λ z. z.size) c.self.view_is)) c.len.ensures.len
