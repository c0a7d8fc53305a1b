-- What is known of the search of a run.
use Rattle.std.proofs.Common.{◌≡◌, ℕ, ◌<◌, ◌≤◌, List, length, refl, sym, ap, ◌∙◌, subst, arith}
use Rattle.rand_core.specs.Stream.{Stream}
use Rattle.tk_rings.specs.Capacities.{IsFitting}
use Rattle.tk_routes.specs.Instance.{Instance}
use Rattle.tk_ring_search.specs.Given.{Given}
use Rattle.tk_ring_search.specs.Searching.{RingSearching, IsBegun, RingRun, begin, trial}
use Rattle.tk_ring_search.proofs.TrialRuns.{counted_run, given_run, rings_run}
use Rattle.tk_route_search.specs.Tasks.{RouteTask, IsInput, IsRing}

-- its best ring is a ring that fits
pub best_stands : (task : RouteTask) (given : Given) (ring : List ℕ) {begun search : RingSearching}
    {words rest : Stream} {t : ℕ} → IsInput task ring given → IsBegun given ring begun →
    RingRun begun words t search rest → IsRing task.instance (length ring) search.best
best_stands task given ring {search = search} input begins run =
    let is = (rings_run given ring begins run).1 in
    let capacity : IsFitting task.instance.capacity given.demands search.best =
    subst (λ q. IsFitting q given.demands search.best) input.capacity is.1 in
    record {
      tour = is.0;
      few = input.stands.few;
      copies = input.stands.copies;
      fits = subst (λ d. IsFitting task.instance.capacity d search.best) input.demands capacity;
    }

-- not all trials have been made while fewer have been made than there are
pub has_left : (task : RouteTask) (given : Given) (ring : List ℕ) {begun search : RingSearching} {words rest : Stream}
    {t : ℕ} → IsInput task ring given → IsBegun given ring begun → RingRun begun words t search rest →
    t < task.trials → search.given.trials ≤ search.totals.trials → ⊥
has_left task given ring {t = t} input begins run lt all =
    let same = ap (λ (g : Given). g.trials) (given_run run ∙ begins.given_is) in
    absurd (omega (arith, (counted_run given ring begins run).0, input.trials, same, lt, all))

-- the cost that it began with
pub start_after : {begun : RingSearching} {words : Stream} {t : ℕ} {search : RingSearching} {rest : Stream} →
    RingRun begun words t search rest →
    search.totals.start ≡ begun.totals.start
start_after begin = refl
start_after (trial run next) = next.adds.start ∙ start_after run

-- a ring that fits has its own size
pub own_size : (i : Instance) (n : ℕ) (ring : List ℕ) → IsRing i n ring → IsRing i (length ring) ring
own_size i n ring is = subst (λ v. IsRing i v ring) (sym is.tour.0) is
