use Rattle.tk_descent.proofs.WakeExecutions.Passes.{all_awake}
use Rattle.tk_routes.proofs.solving.one_route.wake_each_city.Goals as goal

pub returns-clause-queue : goal.returns-clause-queue
returns-clause-queue c =
    let asleep = c.in_ok-waking.ensures in
    all_awake c.wake_all.new.self.queue c.in_ok-waking.waking.queue c.in_ok-waking.waking.size c.args.n
    c.wake_all.ensures.queue asleep.0 asleep.1
