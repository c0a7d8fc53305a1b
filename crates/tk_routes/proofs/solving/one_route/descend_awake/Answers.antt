use Rattle.std.proofs.Common.{◌≡◌, ◌+◌, ◌*◌, ◌/◌, ◌≤◌, ◌∙◌, length, sym, ap, subst, ℕ}
use Rattle.tk_near.specs.Near.{near_of}
use Rattle.tk_tour.specs.Tour.{IsTour}
use Rattle.tk_tour.specs.ArrayTours.{order_of}
use Rattle.tk_descent.specs.Awake.{one_to}
use Rattle.tk_descent.proofs.WakeExecutions.WokenQueue.{one_to-length}
use Rattle.tk_routes.proofs.Improving.DescendedRoutes.{IsFlipped-counted, Pass-from, few_moves}
use Rattle.tk_routes.proofs.Improving.Renumbered.{All-one_to}
use Rattle.tk_routes.proofs.solving.one_route.descend_awake.Given.{Over}
use Rattle.tk_routes.proofs.solving.one_route.descend_awake.Goals as goal
use Rattle.tk_routes.proofs.solving.one_route.descend_awake.Goals.{In-Ok}

pub length-before-requires-clause-cities : goal.length-before-requires-clause-cities
length-before-requires-clause-cities g c =
    All-one_to (g.M.Metric.size_of c.args.metric.now) c.deref-2.result.now (c.deref-2.ensures.value
    ∙ c.in_ok-places.ensures ∙ ap one_to c.size-n.ensures)

-- the tour at the start is 1, 2, .. n
start : (g : Over) (c : In-Ok g) → order_of c.in-Ok.tour ≡ one_to (g.M.Metric.size_of c.args.metric.now)
start g c =
    c.in-Ok.ensures.order ∙ c.deref.ensures.value ∙ c.in_ok-places.ensures ∙ ap one_to c.size-n.ensures

long : (g : Over) (c : In-Ok g) → length (order_of c.in-Ok.tour) ≡ g.M.Metric.size_of c.args.metric.now
long g c = ap length (start g c) ∙ one_to-length _

pub descend-report-requires-clause-fits : goal.descend-report-requires-clause-fits
descend-report-requires-clause-fits g c =
    let size = sym (long g (goal.at.descend-report-requires-clause-fits g c).In-Ok) in (
      c.new-gains.ensures.size ∙ size,
      c.requires.fits ∙ size,
      c.in_ok-waking.ensures.size ∙ c.size-n.ensures ∙ size,
    )

pub returns-clause-pass : goal.returns-clause-pass
returns-clause-pass g c =
    Pass-from (g.M.Metric.distance c.args.metric.now) _ (near_of c.args.near.now) c.args.m
    (g.M.Metric.size_of c.args.metric.now) (order_of c.in-Ok.tour) (order_of c.descend-report.new.tour)
    c.in_ok-waking.waking.queue _ _ c.descend-report.result.tests c.new-gains.ensures.table
    (start g (goal.at.returns-clause-pass g c).In-Ok)
    (c.in_ok-waking.ensures.queue ∙ ap one_to c.size-n.ensures)
    (c.descend-report.ensures.descent.fresh c.new-gains.ensures.count)

pub returns-clause-tour : goal.returns-clause-tour
returns-clause-tour g c =
    subst (λ (v : ℕ). IsTour v (order_of c.descend-report.new.tour)) (long g (goal.at.returns-clause-tour g c).In-Ok)
    c.descend-report.ensures.descent.tour

pub returns-clause-tests : goal.returns-clause-tests
returns-clause-tests g c =
    let queue : length c.in_ok-waking.waking.queue ≡ g.M.Metric.size_of c.args.metric.now =
    ap length (c.in_ok-waking.ensures.queue ∙ ap one_to c.size-n.ensures) ∙ one_to-length _ in
    subst (λ (v : ℕ). c.descend-report.result.tests ≤ 4 * c.args.m * c.args.near.now.width *
    (v + 6 * c.descend-report.result.moves)) queue c.descend-report.ensures.descent.reported.tests_most

pub returns-clause-swaps : goal.returns-clause-swaps
returns-clause-swaps g c =
    subst (λ (v : ℕ). c.descend-report.result.swaps ≤ 3 * (v / 4) * c.descend-report.result.moves)
    (long g (goal.at.returns-clause-swaps g c).In-Ok) c.descend-report.ensures.descent.reported.swaps_most

pub returns-clause-flipped : goal.returns-clause-flipped
returns-clause-flipped g c =
    let n : ℕ = g.M.Metric.size_of c.args.metric.now in
    let here = (goal.at.returns-clause-flipped g c).In-Ok in
    let moves : ℕ = c.descend-report.result.moves in
    let swaps : ℕ = c.descend-report.result.swaps in
    let made = c.descend-report.ensures.descent.reported in
    let small = few_moves (g.M.Metric.distance c.args.metric.now) _ n moves (order_of c.in-Ok.tour)
    (order_of c.descend-report.new.tour) c.new-gains.ensures.table (long g here) c.requires.few
    (g.met.M.Metric.distance_limit c.args.metric.now) made.moves in
    IsFlipped-counted n moves swaps c.in-Ok.tour c.descend-report.new.tour (start g here)
    c.descend-report.ensures.flips_only c.in-Ok.ensures.counts.2 c.in-Ok.ensures.counts.0 made.flips_most made.swaps
    (subst (λ (v : ℕ). swaps ≤ 3 * (v / 4) * moves) (long g here) made.swaps_most) c.requires.few small
