use Rattle.std.proofs.lemmas.Grind.{common_steps}
use Rattle.std.proofs.Common.{arith, ap, ◌∙◌, ◌<◌, length}
use Rattle.tk_descent.proofs.WakeExecutions.Queue.{pushed_ring, IsWaking-wake}
use Rattle.tk_descent.proofs.waking.Waking.wake.Goals as goal

pub invariant_of-self : goal.invariant_of-self
invariant_of-self c =
    let inside = c.self.inside in
    let in' : c.args.city < length inside.awake.items =
    omega (arith, inside.awake.ok.0, ap (λ z. z.size) c.self.view_is) in
    let p = pushed_ring inside.queue.items c.args.self.now.queue inside.awake.items c.args.city inside.queue.capacity
    c.push_back-dropped.new.self c.index.result.now c.self.invariant.2 in' c.index.ensures c.if-not-index.true
    (c.self.invariant.0 ∙ inside.awake.ok.0) (ap (λ z. z.queue) c.self.view_is) c.push_back-dropped.ensures.items in (
      ap (λ z. z.capacity) c.push_back-dropped.ensures.items ∙ c.self.invariant.0,
      c.self.invariant.1,
      rw p.1 (IsWaking-wake inside.queue.items inside.awake.items c.args.city c.self.invariant.2 in' c.requires.0
          p.2),
      c.self.invariant.3,
    )

pub returns-then-not-index-clause-queue : goal.returns-then-not-index-clause-queue
returns-then-not-index-clause-queue c =
    let inside = c.self.inside in
    let in' : c.args.city < length inside.awake.items =
    omega (arith, inside.awake.ok.0, ap (λ z. z.size) c.self.view_is) in
    (pushed_ring inside.queue.items c.args.self.now.queue inside.awake.items c.args.city inside.queue.capacity
    c.push_back-dropped.new.self c.index.result.now c.self.invariant.2 in' c.index.ensures c.if-not-index.true
    (c.self.invariant.0 ∙ inside.awake.ok.0) (ap (λ z. z.queue) c.self.view_is) c.push_back-dropped.ensures.items).0

pub returns-else-not-index-clause-queue : goal.returns-else-not-index-clause-queue
returns-else-not-index-clause-queue c = grind (arith, common_steps)
