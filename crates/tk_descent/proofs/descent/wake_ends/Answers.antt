use Rattle.std.proofs.Common.{◌∙◌, ap, sym}
use Rattle.tk_descent.specs.Awake.{woken, woken_each}
use Rattle.tk_descent.specs.Offers.{ends}
use Rattle.tk_descent.proofs.descent.wake_ends.Goals as goal

pub returns-in-Two-clause-queue : goal.returns-in-Two-clause-queue
returns-in-Two-clause-queue c =
    let o = c.in-Two in
    c.wake-in-Two-3.ensures.queue ∙ ap (λ q. woken q o.d) (c.wake-in-Two-2.ensures.queue
    ∙ ap (λ q. woken q o.c) (c.wake-in-Two.ensures.queue ∙ ap (λ q. woken q o.b) c.wake.ensures.queue))
    ∙ ap (λ z. woken_each c.args.waking.now.queue (ends z)) (sym o.is)

pub returns-in-Or-clause-queue : goal.returns-in-Or-clause-queue
returns-in-Or-clause-queue c =
    let o = c.in-Or in
    c.wake-in-Or-6.ensures.queue ∙ ap (λ q. woken q o.w) (c.wake-in-Or-5.ensures.queue
    ∙ ap (λ q. woken q o.y) (c.wake-in-Or-4.ensures.queue ∙ ap (λ q. woken q o.b) (c.wake-in-Or-3.ensures.queue
    ∙ ap (λ q. woken q o.e) (c.wake-in-Or-2.ensures.queue ∙ ap (λ q. woken q o.a) c.wake-in-Or.ensures.queue))))
    ∙ ap (λ z. woken_each c.args.waking.now.queue (ends z)) (sym o.is)
