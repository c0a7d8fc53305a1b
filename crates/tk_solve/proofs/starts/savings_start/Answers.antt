use Rattle.tk_solve.proofs.OutcomeFacts.{IfOk-both}
use Rattle.tk_solve.proofs.starts.savings_start.Goals as goal

pub returns-in-Planes : goal.returns-in-Planes
returns-in-Planes c =
    rw (c.in-Savings.is, c.in-Planes.is)
    (IfOk-both c.savings_tour.result _ _ c.savings_tour.ensures.lists c.savings_tour.ensures.tour)

pub returns-in-Triangle : goal.returns-in-Triangle
returns-in-Triangle c =
    rw (c.in-Savings.is, c.in-Triangle.is)
    (IfOk-both c.savings_tour-in-Triangle.result _ _ c.savings_tour-in-Triangle.ensures.lists
    c.savings_tour-in-Triangle.ensures.tour)
