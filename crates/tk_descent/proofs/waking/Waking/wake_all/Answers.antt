use Rattle.std.proofs.Common.{ap, ◌∙◌, ◌+◌, rules}
use Rattle.tk_descent.specs.Awake.{woken}
use Rattle.tk_descent.proofs.WakeExecutions.WokenQueue.{wake_next}
use Rattle.tk_descent.proofs.waking.Waking.wake_all.Goals as goal

pub loop-k-preserved : goal.loop-k-preserved
loop-k-preserved c = record {
  queue = c.wake.ensures.queue ∙ ap (λ z. woken z (c.loop-k.k + 1)) c.loop-k.invariant.queue ∙ wake_next _ c.loop-k.k;
  size = c.wake.ensures.size ∙ c.loop-k.invariant.size;
}

pub loop-k-init : goal.loop-k-init
loop-k-init = search rules
