-- Descents over the positions of a list.
use Rattle.std.proofs.Common.{◌≡◌, ℕ, ◌+◌, ◌-◌, ◌*◌, ◌/◌, ◌≤◌, List, [], length, sym, ap, ◌∙◌, subst, arith}
use Rattle.std.specs.Prelude.{min}
use Rattle.std.proofs.Math.Nat.{mul-le-mul_left, mul-le-mul_right}
use Rattle.tk_problem.specs.declared.limits.TheConstants.{DISTANCE_LIMIT, TABLE_LIMIT}
use Rattle.tk_distance.specs.Cities.{IsCity}
use Rattle.tk_near.specs.Near.{NearLists, near_of, AreNearest, IsNear}
use Rattle.tk_tour.specs.Reversal.{AreReversed}
use Rattle.tk_tour.specs.Tour.{SameCycle, tour_length}
use Rattle.tk_tour.proofs.Cycle.{SameCycle-trans}
use Rattle.tk_tour.proofs.Lengths.{tour_length-limit}
use Rattle.tk_tour.specs.ArrayTours.{FlipsAlone, order_of, flips_of, swaps_of}
use Rattle.tk_tour.specs.declared.stores.array.ArrayTour.{ArrayTour}
use Rattle.tk_descent.specs.Awake.{one_to}
use Rattle.tk_descent.specs.Machine.{Execution}
use Rattle.tk_descent.specs.Sweeps.{Pass}
use Rattle.tk_descent.proofs.WakeExecutions.Passes.{pass_of}
use Rattle.tk_descent.proofs.WakeExecutions.WokenQueue.{one_to-length}
use Rattle.tk_routes.specs.Instance.{Instance}
use Rattle.tk_routes.specs.Routes.{route_nodes}
use Rattle.tk_routes.specs.ImprovedRoutes.{IsImproved, IsFlipped, IsReadOff, place_distance}

-- a descent from the tour 1 to n with all cities awake
pub Pass-from : (d e : ℕ → ℕ → ℕ) (near : ℕ → List ℕ) (m n : ℕ) (C T Q : List ℕ) (looks moves tests : ℕ) → e ≡ d →
    C ≡ one_to n → Q ≡ one_to n → Execution e near m C Q T [] looks moves tests →
    Pass d near m (one_to n) T looks moves tests
Pass-from d e near m n C T Q looks moves tests table start queue run =
    let all : Q ≡ one_to (length C) = queue ∙ ap one_to (sym (ap length start ∙ one_to-length n)) in
    subst (λ (v : List ℕ). Pass d near m v T looks moves tests) start
    (pass_of d e near m C T Q looks moves tests table all run)

-- each move shortens the tour, so there are not many
pub few_moves : (d e : ℕ → ℕ → ℕ) (n moves : ℕ) (C T : List ℕ) → e ≡ d → length C ≡ n → n ≤ TABLE_LIMIT →
    ((a b : ℕ) → d a b ≤ DISTANCE_LIMIT) → moves + tour_length e T ≤ tour_length e C → moves ≤ 20000000000000
few_moves d e n moves C T table size few limit goes =
    let long : tour_length d C ≤ DISTANCE_LIMIT * length C = tour_length-limit d DISTANCE_LIMIT C limit in
    let made : moves + tour_length d T ≤ tour_length d C =
    subst (λ (v : ℕ → ℕ → ℕ). moves + tour_length v T ≤ tour_length v C) table goes in
    omega (arith, long, made, size, few)

-- the effect of the flips, whose counters have not reached their maximum
pub IsFlipped-counted : (n moves swaps : ℕ) (old new : ArrayTour) → order_of old ≡ one_to n → FlipsAlone old new →
    flips_of old ≡ 0 → swaps_of old ≡ 0 → flips_of new ≤ flips_of old + 3 * moves →
    swaps ≡ swaps_of new - swaps_of old →
    swaps ≤ 3 * (n / 4) * moves → n ≤ TABLE_LIMIT → moves ≤ 20000000000000 →
    IsFlipped (one_to n) (order_of new) moves swaps
IsFlipped-counted n moves swaps old new start alone no_flips no_swaps flips taken most few small =
    let wide : 3 * (n / 4) * moves ≤ 3750 * moves = mul-le-mul_right moves (omega (arith, few)) in
    let swaps_are : alone.swaps ≡ swaps = omega (arith, alone.swaps_are, no_swaps, taken, most, wide, small) in
    record {
      flips = alone.flips;
      few = omega (arith, alone.flips_are, no_flips, flips, small);
      reversed = subst (λ (v : List ℕ). AreReversed v (order_of new) alone.flips swaps) start
          (subst (λ (v : ℕ). AreReversed (order_of old) (order_of new) alone.flips v) swaps_are alone.reversed);
    }

pub IsReadOff-cycle : (route T cycle new : List ℕ) → SameCycle T cycle → IsReadOff route cycle new →
    IsReadOff route T new
IsReadOff-cycle route T cycle new same read =
    record { places = read.places; same = SameCycle-trans same read.same; read = read.read; turned = read.turned }

-- the route of such a descent over its positions
pub IsImproved-read : (i : Instance) (k m : ℕ) (route new T : List ℕ) (d : ℕ → ℕ → ℕ) (n : ℕ) (v : NearLists)
    (looks moves tests swaps : ℕ) →
    d ≡ place_distance i.distance (route_nodes i route) → n ≡ length route + 1 → v.size ≡ n →
    v.width ≡ min k (length route) → AreNearest d v →
    Pass d (near_of v) m (one_to n) T looks moves tests → IsFlipped (one_to n) T moves swaps →
    swaps ≤ 3 * (n / 4) * moves → IsReadOff route T new → IsImproved i k m route new moves tests swaps
IsImproved-read i k m route new T d n v looks moves tests swaps table size lists width nearest pass flipped most read =
    let e : ℕ → ℕ → ℕ = place_distance i.distance (route_nodes i route) in
    let whole : v.size ≡ length route + 1 = lists ∙ size in
    let near : (c : ℕ) → IsCity (length route + 1) c →
    IsNear e (length route + 1) (min k (length route)) c (near_of v c) = λ c city.
    let given : IsNear d v.size v.width c (near_of v c) =
    nearest.each c (subst (λ (u : ℕ). IsCity u c) (sym whole) city) in
    subst (λ (u : ℕ). IsNear e (length route + 1) u c (near_of v c)) width
    (subst (λ (u : ℕ). IsNear e u v.width c (near_of v c)) whole
    (subst (λ (u : ℕ → ℕ → ℕ). IsNear u v.size v.width c (near_of v c)) table given)) in
    record {
      near = near_of v;
      nearest = near;
      cycle = T;
      looks = looks;
      descent = subst (λ (u : ℕ). Pass e (near_of v) m (one_to u) T looks moves tests) size
          (subst (λ (u : ℕ → ℕ → ℕ). Pass u (near_of v) m (one_to n) T looks moves tests) table pass);
      flipped = subst (λ (u : ℕ). IsFlipped (one_to u) T moves swaps) size flipped;
      most = subst (λ (u : ℕ). swaps ≤ 3 * (u / 4) * moves) size most;
      read = read;
    }

-- with fewer candidates, the bound on the tests stays true
pub tests_within : (m w k n l moves tests : ℕ) → w ≤ k → n ≡ l → tests ≤ 4 * m * w * (n + 6 * moves) →
    tests ≤ 4 * m * k * (l + 6 * moves)
tests_within m w k n l moves tests le same h =
    let wide : 4 * m * w * (n + 6 * moves) ≤ 4 * m * k * (n + 6 * moves) =
    mul-le-mul_right (n + 6 * moves) (mul-le-mul_left (4 * m) le) in
    subst (λ (v : ℕ). tests ≤ 4 * m * k * (v + 6 * moves)) same (omega (arith, h, wide))
