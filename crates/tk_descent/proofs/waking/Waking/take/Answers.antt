use Rattle.std.proofs.Common.{arith, ap, ◌∙◌}
use Rattle.tk_descent.proofs.WakeExecutions.Queue.{taken}
use Rattle.tk_descent.proofs.waking.Waking.take.Goals as goal

pub index_mut-requires : goal.index_mut-requires
index_mut-requires c =
    let t = taken c.self.inside.queue.items c.self.inside.awake.items c.in-Some.x c.self.invariant.2
    c.in-Some.ensures.value in
    omega (arith, t.0.1, c.self.inside.awake.ok.0)

pub invariant_of-self : goal.invariant_of-self
invariant_of-self c =
    let t = taken c.self.inside.queue.items c.self.inside.awake.items c.in-Some.x c.self.invariant.2
    c.in-Some.ensures.value in (
      ap (λ z. z.capacity) c.pop_front.ensures.items ∙ c.self.invariant.0,
      c.self.invariant.1,
      rw c.pop_front.ensures.items t.1,
      c.self.invariant.3,
    )

pub returns-in-Some-clause-city : goal.returns-in-Some-clause-city
returns-in-Some-clause-city c =
    let t = taken c.self.inside.queue.items c.self.inside.awake.items c.in-Some.x c.self.invariant.2
    c.in-Some.ensures.value in
    (t.0.0, omega (arith, t.0.1, c.self.inside.awake.ok.0, ap (λ z. z.size) c.self.view_is))
