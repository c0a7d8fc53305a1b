use Rattle.std.proofs.Common.{ap, ◌∙◌, get_or, rules}
use Rattle.tk_descent.specs.Awake.{woken}
use Rattle.tk_descent.proofs.WakeExecutions.WokenQueue.{wake_more}
use Rattle.tk_descent.proofs.waking.Waking.wake_each.Goals as goal

pub loop-c-preserved : goal.loop-c-preserved
loop-c-preserved c = record {
  queue = c.wake.ensures.queue
      ∙ ap (λ z. woken z (get_or c.args.cities.now c.loop-c.c-index 0)) c.loop-c.invariant.queue
      ∙ wake_more _ c.args.cities.now c.loop-c.c-index 0 c.loop-c-test.true;
  size = c.wake.ensures.size ∙ c.loop-c.invariant.size;
}

pub loop-c-init : goal.loop-c-init
loop-c-init = search rules
