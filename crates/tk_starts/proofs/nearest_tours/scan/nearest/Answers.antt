use Rattle.std.proofs.Common.{arith, ◌≡◌, ℕ, ◌+◌, ◌-◌, ◌≤◌, ◌<◌, List, [], ◌∷◌, ◌++◌, length}
use Rattle.std.proofs.lemmas.Grind.{common_steps}
use Rattle.std.specs.Prelude.{slice_index}
use Rattle.tk_starts.specs.NearestTour.{IsNearestTo}
use Rattle.tk_starts.proofs.NearestCities.NearestTours.{IsNearestTo-start, IsTour-nearest, IsNearestTour-from}
use Rattle.tk_starts.proofs.nearest_tours.scan.nearest.Given.{Over}
use Rattle.tk_starts.proofs.nearest_tours.scan.nearest.Goals as goal
use Rattle.tk_starts.proofs.nearest_tours.scan.nearest.Goals.{After-swap}

one_more : (xs ys : List ℕ) (c : ℕ) → 1 ≤ c → ys ≡ xs ++ c ∷ [] →
    (length xs ≡ c - 1) × ((i : ℕ) → i < c - 1 → slice_index xs i ≡ i + 1) →
    (length ys ≡ c + 1 - 1) × ((i : ℕ) → i < c + 1 - 1 → slice_index ys i ≡ i + 1)
one_more xs ys c low is before = (grind (arith, common_steps), λ i lt. grind (arith, common_steps, before.1 i))

-- the start stands first, once it has changed places with city 1
start_first : (g : Over) (c : After-swap g) →
    IsNearestTo (g.M.Metric.distance c.args.metric.now) (g.M.Metric.size_of c.args.metric.now) c.args.start 1
    c.swap.new.self.items
start_first g c =
    let m = c.args.metric.now in
    let end : c.loop-c.c - 1 ≡ g.M.Metric.size_of m =
    omega (arith, c.size-c-end.ensures, c.loop-c-test.false, c.loop-c.auto.c-end) in
    let h = rw end at c.loop-c.invariant in
    rw c.swap.ensures.items
    (IsNearestTo-start (g.M.Metric.distance m) (g.M.Metric.size_of m) c.args.start c.loop-c.cities.items c.requires
    h.0 h.1)

pub loop-c-preserved : goal.loop-c-preserved
loop-c-preserved g c =
    one_more c.loop-c.cities.items _ c.loop-c.c c.loop-c.auto.c c.in_ok-push.ensures.items c.loop-c.invariant

pub place_nearest-requires-clause-tour : goal.place_nearest-requires-clause-tour
place_nearest-requires-clause-tour g c =
    let s = start_first g (goal.at.place_nearest-requires-clause-tour g c).After-swap in
    rw s.first s

pub returns-clause-nearest : goal.returns-clause-nearest
returns-clause-nearest g c =
    let s = start_first g (goal.at.returns-clause-nearest g c).After-swap in
    IsNearestTour-from _ _ _ _ (rw s.first at c.place_nearest.ensures)

pub returns-clause-tour : goal.returns-clause-tour
returns-clause-tour g c = IsTour-nearest c.requires (returns-clause-nearest g c)
