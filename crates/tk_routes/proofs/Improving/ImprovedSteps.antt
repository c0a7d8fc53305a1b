-- Routes of which the first are improved.
use Rattle.std.proofs.Common.{◌≡◌, ℕ, ◌+◌, ◌-◌, ◌*◌, ◌/◌, ◌<◌, ◌≤◌, List, [], ◌∷◌, ◌++◌, length, get_or, set, refl, sym}
use Rattle.std.proofs.Common.{ap, ◌∙◌, subst, arith, length-append, append_assoc, append-nil}
use Rattle.std.specs.List.{All, concat}
use Rattle.std.proofs.Math.Nat.{mul-le-mul_left, mul-le-mul_right}
use Rattle.std.proofs.lemmas.List.{get_or_at, set_at}
use Rattle.std.proofs.lemmas.List.Folds.{concat-append}
use Rattle.tk_problem.specs.declared.limits.TheConstants.{CANDIDATE_LIMIT, DISTANCE_LIMIT, TABLE_LIMIT}
use Rattle.tk_distance.specs.Cities.{IsCity}
use Rattle.tk_descent.specs.declared.descent.Report.{Report}
use Rattle.tk_descent.proofs.WakeExecutions.DescentSteps.{saved_is}
use Rattle.tk_routes.specs.Instance.{Instance, customer_count}
use Rattle.tk_routes.specs.Routes.{AreRoutes, route_length, routes_cost}
use Rattle.tk_routes.specs.ImprovedRoutes.{IsImprovement, AreImproved, AreImprovements, IsImprovedPart}
use Rattle.tk_routes.specs.ImprovedRoutes.{MovesSave, fall_of, most_tests, place_count}
use Rattle.tk_routes.specs.declared.solving.route_report.RouteReport.{RouteReport}
use Rattle.tk_routes.specs.ImprovedRoutes.AreImproved.{none, more}
use Rattle.tk_routes.proofs.RouteCosts.{routes_cost-limit}
use Rattle.tk_routes.proofs.CutLists.{All-front}
use Rattle.tk_routes.proofs.Improving.Exchanged.{AreRoutes-exchanged, routes_cost-at, route_known, few_routes}

-- the first j routes are improved, and the others have not changed
pub record IsImprovedTo (i : Instance) (k m : ℕ) (olds now : List (List ℕ)) (j moves swaps tests : ℕ) : Type 0 where
  pub front : List (List ℕ)
  pub done : List (List ℕ)
  pub back : List (List ℕ)
  pub before : olds ≡ front ++ back
  pub after : now ≡ done ++ back
  pub improved : AreImproved i k m front done moves tests swaps
  pub count : length done ≡ j
  pub olds_are : AreRoutes i olds
  pub routes : AreRoutes i now
  pub cost : MovesSave i olds now moves
  pub most : swaps ≤ 3750 * moves
  pub tested : tests ≤ most_tests k m (length (concat front) + length front) moves

pub IsImprovedTo-none : {i : Instance} {k m : ℕ} {olds : List (List ℕ)} → AreRoutes i olds →
    IsImprovedTo i k m olds olds 0 0 0 0
IsImprovedTo-none {olds = olds} h = record {
  front = [];
  done = [];
  back = olds;
  before = refl;
  after = refl;
  improved = none;
  count = refl;
  olds_are = h;
  routes = h;
  cost = omega arith;
  most = omega arith;
  tested = omega arith;
}

-- the next route, which is the first of those that have not changed
record IsAtRoute (front back : List (List ℕ)) (old : List ℕ) : Type 0 where
  pub rest : List (List ℕ)
  pub is : back ≡ old ∷ rest

next_route : (done back : List (List ℕ)) (j : ℕ) (old : List ℕ) → length done ≡ j → j < length (done ++ back) →
    old ≡ get_or (done ++ back) j [] → IsAtRoute done back old
next_route done [] j old count lt at = absurd (omega (arith, length-append {A = List ℕ} done [], lt, count))
next_route done (x ∷ back) j old count lt at =
    record { rest = back; is = ap (λ v. v ∷ back) (sym (at ∙ get_or_at done x back [] j count)) }

more_tests : (b l f moves q made t u : ℕ) → t ≤ b * (l + f + 6 * moves) → u ≤ b * (q + 1 + 6 * made) →
    t + u ≤ b * (l + q + (f + 1) + 6 * (moves + made))
more_tests b l f moves q made t u h g = omega arith

scaled : (m k y : ℕ) → m ≤ 3 → k ≤ CANDIDATE_LIMIT → 4 * m * k * y ≤ 1200 * y
scaled m k y hm hk =
    let one : 4 * m * k ≤ 12 * k = mul-le-mul_right k (omega arith) in
    mul-le-mul_right y (omega (arith, one))

nil_end : (done back : List (List ℕ)) (j : ℕ) → length done ≡ j → length (done ++ back) ≤ j → back ≡ []
nil_end done [] j count le = refl
nil_end done (x ∷ back) j count le = absurd (omega (arith, length-append done (x ∷ back), le, count))

module _ {i : Instance} {k m : ℕ} {olds now : List (List ℕ)} {j moves swaps tests : ℕ}
    (h : IsImprovedTo i k m olds now j moves swaps tests) where
  pub improved_part : IsImprovedPart i k m olds now
  improved_part = record {
    front = h.front;
    done = h.done;
    back = h.back;
    moves = moves;
    tests = tests;
    swaps = swaps;
    before = h.before;
    after = h.after;
    improved = h.improved;
  }

  -- the next route, and another one at its position
  module _ {old : List ℕ} (lt : j < length now) (at : old ≡ get_or now j []) where
    place : IsAtRoute h.done h.back old
    place = next_route h.done h.back j old h.count (omega (arith, lt, ap length h.after))
        (at ∙ ap (λ v. get_or v j []) h.after)

    now_is : now ≡ h.done ++ old ∷ place.rest
    now_is = h.after ∙ ap (λ v. h.done ++ v) place.is

    new_is : (new : List ℕ) → set now j new ≡ h.done ++ new ∷ place.rest
    new_is new = ap (λ v. set v j new) now_is ∙ set_at h.done old place.rest new j h.count

    routes : AreRoutes i (h.done ++ old ∷ place.rest)
    routes = subst (λ (v : List (List ℕ)). AreRoutes i v) now_is h.routes

    -- the cost after this
    pub cost_step : (new : List ℕ) →
        routes_cost i (set now j new) + route_length i old ≡ routes_cost i now + route_length i new
    cost_step new =
        omega (
          arith,
          routes_cost-at i h.done place.rest old,
          routes_cost-at i h.done place.rest new,
          ap (routes_cost i) now_is,
          ap (routes_cost i) (new_is new),
        )

    pub next_known : All (IsCity (customer_count i)) old × (1 ≤ length old) × (length old ≤ customer_count i)
    next_known = route_known i h.done place.rest old routes

    pub IsImprovedTo-more : i.size ≤ TABLE_LIMIT → {new : List ℕ} {report : Report} →
        IsImprovement i k m old new report →
        IsImprovedTo i k m olds (set now j new) (j + 1) (moves + report.moves) (swaps + report.swaps)
        (tests + report.tests)
    IsImprovedTo-more few {new} {report} made =
        let q : 3 * ((length old + 1) / 4) ≤ 3750 = omega (arith, next_known.2, few) in
        let each : 3 * ((length old + 1) / 4) * report.moves ≤ 3750 * report.moves = mul-le-mul_right report.moves q in
        let lengths : length (concat (h.front ++ old ∷ [])) ≡ length (concat h.front) + length old =
        ap length (concat-append h.front (old ∷ []) ∙ ap (λ v. concat h.front ++ v) (append-nil old))
        ∙ length-append (concat h.front) old in
        let whole : length (concat h.front) + length old + (length h.front + 1) + 6 * (moves + report.moves) ≡ length
        (concat (h.front ++ old ∷ [])) + length (h.front ++ old ∷ []) + 6 * (moves + report.moves) =
        omega (arith, lengths, length-append h.front (old ∷ [])) in
        record {
          front = h.front ++ old ∷ [];
          done = h.done ++ new ∷ [];
          back = place.rest;
          before = h.before ∙ ap (λ v. h.front ++ v) place.is ∙ sym (append_assoc h.front (old ∷ []) place.rest);
          after = new_is new ∙ sym (append_assoc h.done (new ∷ []) place.rest);
          improved = more h.improved made.improved;
          count = length-append h.done (new ∷ []) ∙ omega (arith, h.count);
          olds_are = h.olds_are;
          routes =
              subst (λ (v : List (List ℕ)). AreRoutes i v) (sym (new_is new))
              (AreRoutes-exchanged i h.done place.rest old new routes made.same);
          cost = omega (arith, h.cost, made.moves, cost_step new);
          most = omega (arith, h.most, each, made.swaps);
          tested =
              subst (λ (v : ℕ). tests + report.tests ≤ 4 * m * k * v) whole
              (more_tests (4 * m * k) (length (concat h.front)) (length h.front) moves (length old) report.moves tests
              report.tests h.tested made.tests);
        }

  -- the number of routes, and of their customers, is at most that of all customers
  front_short : (length (concat h.front) ≤ customer_count i) × (length h.front ≤ customer_count i)
  front_short =
      let whole : length (concat olds) ≡ length (concat h.front) + length (concat h.back) =
      ap (λ v. length (concat v)) h.before ∙ ap length (concat-append h.front h.back)
      ∙ length-append (concat h.front) (concat h.back) in
      let filled : All (λ (v : List ℕ). 1 ≤ length v) h.front =
      All-front (λ (v : List ℕ). 1 ≤ length v) h.front h.back
      (subst (λ (u : List (List ℕ)). All (λ (v : List ℕ). 1 ≤ length v) u) h.before h.olds_are.filled) in
      let least = few_routes h.front filled in
      (omega (arith, whole, h.olds_are.once.0), omega (arith, whole, h.olds_are.once.0, least))

  pub small_counts : i.size ≤ TABLE_LIMIT → k ≤ CANDIDATE_LIMIT → m ≤ 3 → ((a : ℕ) → i.distance a a ≡ 0) →
      ((a b : ℕ) → i.distance a b ≤ DISTANCE_LIMIT) →
      (routes_cost i olds ≤ 40000000000000) × (moves ≤ 40000000000000) × (swaps ≤ 150000000000000000)
      × (tests ≤ 300000000000000000)
  small_counts few hk hm diagonal limit =
      let y : ℕ = length (concat h.front) + length h.front + 6 * moves in
      let cost : routes_cost i olds ≤ 40000000000000 =
      omega (arith, routes_cost-limit i olds diagonal limit, h.olds_are.once.0, few) in
      let moved : moves ≤ 40000000000000 = omega (arith, cost, h.cost) in
      let wide : 4 * m * k * y ≤ 1200 * y = scaled m k y hm hk in (
        cost,
        moved,
        omega (arith, moved, h.most),
        omega (arith, moved, h.tested, wide, front_short.0, front_short.1, few),
      )

  -- after the last route
  module _ (le : length now ≤ j) where
    none_left : h.back ≡ []
    none_left = nil_end h.done h.back j h.count (omega (arith, le, ap length h.after))

    all_before : h.front ≡ olds
    all_before = sym (h.before ∙ ap (λ v. h.front ++ v) none_left ∙ append-nil h.front)

    pub improved_all : AreImproved i k m olds now moves tests swaps
    improved_all =
        let after : h.done ≡ now = sym (h.after ∙ ap (λ v. h.done ++ v) none_left ∙ append-nil h.done) in
        subst (λ (v : List (List ℕ)). AreImproved i k m olds v moves tests swaps) after
        (subst (λ (v : List (List ℕ)). AreImproved i k m v h.done moves tests swaps) all_before h.improved)

    pub tested_all : tests ≤ most_tests k m (place_count i olds) moves
    tested_all =
        let whole : length (concat h.front) + length h.front ≡ place_count i olds =
        omega (arith, ap (λ v. length (concat v)) all_before, ap length all_before, h.olds_are.once.0) in
        subst (λ (v : ℕ). tests ≤ most_tests k m v moves) whole h.tested

-- the bound on the tests by the decrease of the cost, which is at least one for each move
pub tests_by_fall : {i : Instance} {k m : ℕ} {olds news : List (List ℕ)} {report : RouteReport} →
    AreImprovements i k m olds news report → report.tests ≤ most_tests k m (place_count i olds) (fall_of report)
tests_by_fall {i} {k} {m} {olds} {news} {report} h =
    let fall : fall_of report ≡ routes_cost i olds - routes_cost i news =
    saved_is _ _ _ _ h.before h.after (omega (arith, h.moves)) in
    let wide : most_tests k m (place_count i olds) report.moves ≤ most_tests k m (place_count i olds) (fall_of report) =
    mul-le-mul_left (4 * m * k) (omega (arith, h.moves, fall)) in
    omega (arith, h.tests, wide)
