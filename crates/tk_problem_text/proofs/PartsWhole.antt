-- Parts with no fault at the end make the problem that the pieces say.
use Rattle.std.proofs.Common.{◌≡◌, ◌≤◌, ◌-◌, ℕ, suc, Bool, true, false, cond, not, eqb, ltb, leb, ◌&&◌, List, [], ◌∷◌}
use Rattle.std.proofs.Common.{◌++◌, length, get_or, Option, Some, None, is_some, All, ℤ, pos, refl, sym, ap}
use Rattle.std.proofs.Common.{subst, ◌∙◌, arith}
use Rattle.std.specs.Prelude.{IfSome, Vec, unwrap_or, option_and_then}
use Rattle.std.specs.declared.alloc.Global.{Global}
use Rattle.std.proofs.lemmas.List.FromFn.{length-map-range_with_len}
use Rattle.std.proofs.lemmas.List.Elements.{All-nil, All-cons}
use Rattle.tk_words.specs.declared.fault.TextKind.TheVariants as faults
use Rattle.std.proofs.lemmas.Bool.{leb-true, eqb-true, ltb-false, and_parts}
use Rattle.tk_problem.specs.declared.limits.TheConstants.{CAPACITY_LIMIT, CITY_LIMIT, TABLE_LIMIT}
use Rattle.tk_words.specs.declared.fault.TextKind.{TextKind}
use Rattle.tk_words.specs.declared.keyword.Keyword.TheVariants as words
use Rattle.tk_problem_text.specs.declared.header_values.ProblemType.{ProblemType}
use Rattle.tk_problem_text.specs.declared.header_values.ProblemType.TheVariants as kinds
use Rattle.tk_problem_text.specs.declared.header_values.WeightType.{WeightType}
use Rattle.tk_problem_text.specs.declared.header_values.WeightType.TheVariants as types
use Rattle.tk_problem.specs.declared.point.Point.{Point}
use Rattle.tk_problem.specs.declared.weights.PlaneKind.{PlaneKind}
use Rattle.tk_problem_text.specs.declared.parts.Parts.{Parts}
use Rattle.tk_problem.specs.declared.weights.Weights.TheVariants.{Lower}
use Rattle.tk_words.specs.Lex.{integer}
use Rattle.tk_lines.specs.HeaderValue.{first_word}
use Rattle.tk_problem_text.specs.HeaderValues.{header_number, between}
use Rattle.tk_problem.specs.Shape.{WeightsFit, IsRouting}
use Rattle.tk_lines.specs.Pieces.{Piece, has, value_of, tokens_in}
use Rattle.tk_problem_text.specs.Sections.Rows.{row_of, place_rows, demand_rows}
use Rattle.tk_problem.specs.Places.{origin}
use Rattle.tk_problem_text.specs.Reader.Parts.{HasParts, IsWhole, MakesWeights, MakesRouting, weights_in, routing_in}
use Rattle.tk_problem_text.specs.Reader.Parts.{problem_in}
use Rattle.tk_problem_text.specs.Problem.{first_kind, over_capacity, weights_ends, routing_ends, routing_ends_of}
use Rattle.tk_problem_text.specs.Problem.{problem_end, problem_value, problem_type, weight_type, size_of, points_of}
use Rattle.tk_problem_text.specs.Problem.{lower_in, demands_of, depot_of, capacity_of, is_explicit}
use Rattle.tk_problem_text.specs.Problem as value

-- ---- one by one

pub some_of : {A : Type 0} (o : Option A) → is_some o ≡ true → (a : A) × (o ≡ Some a)
some_of None h = absurd cc
some_of (Some a) h = (a, refl)

no_test : (t : Bool) (kind : TextKind) (rest : List (Bool × TextKind)) → first_kind ((t, kind) ∷ rest) ≡ None →
    (t ≡ false) × (first_kind rest ≡ None)
no_test true kind rest h = absurd cc
no_test false kind rest h = (refl, h)

two_tests : (s t : Bool) (a b : TextKind) → first_kind ((not s, a) ∷ (not t, b) ∷ []) ≡ None → (s ≡ true) × (t ≡ true)
two_tests true true a b h = (refl, refl)
two_tests _ _ a b h = absurd cc

four_tests : (s t u v : Bool) (a b c d : TextKind) (rest : List (Bool × TextKind)) →
    first_kind ((not s, a) ∷ (not t, b) ∷ (not u, c) ∷ (not v, d) ∷ rest) ≡ None → (s ≡ true) × (t ≡ true) × (u ≡ true)
    × (v ≡ true) × (first_kind rest ≡ None)
four_tests true true true true a b c d rest h = (refl, refl, refl, refl, h)
four_tests _ _ _ _ a b c d rest h = absurd cc

none_before : (xs ys : List (Bool × TextKind)) → first_kind (xs ++ ys) ≡ None →
    (first_kind xs ≡ None) × (first_kind ys ≡ None)
none_before [] ys h = (refl, h)
none_before (x ∷ xs) ys h = by_test x.0 refl h (none_before xs ys)
  where
    by_test : (t : Bool) → x.0 ≡ t → cond t (Some x.1) (first_kind (xs ++ ys)) ≡ None →
        (first_kind (xs ++ ys) ≡ None → (first_kind xs ≡ None) × (first_kind ys ≡ None)) →
        (first_kind (x ∷ xs) ≡ None) × (first_kind ys ≡ None)
    by_test true e h before = absurd cc
    by_test false e h before = (rw e (before h).0, (before h).1)

in_between : (low high n : ℕ) (z : Option ℤ) → between low high z ≡ Some n → (low ≤ n) × (n ≤ high)
in_between low high n (Some (pos m)) h = by_test (leb low m && leb m high) refl h
  where
    by_test : (t : Bool) → (leb low m && leb m high) ≡ t → cond t (Some m) None ≡ Some n → (low ≤ n) × (n ≤ high)
    by_test false e h = absurd cc
    by_test true e h =
        let b = and_parts (leb low m) (leb m high) e in
        let same : m ≡ n = ap (λ (o : Option ℕ). unwrap_or o 0) h in
        (omega (arith, leb-true _ _ b.0, same), omega (arith, leb-true _ _ b.1, same))
in_between low high n _ h = absurd cc

pub number_in_limits : (low high n : ℕ) (v : Option (List ℕ)) → option_and_then (header_number low high) v ≡ Some n →
    (low ≤ n) × (n ≤ high)
number_in_limits low high n None h = absurd cc
number_in_limits low high n (Some bs) h = in_between low high n (integer (first_word bs)) h

all_within : (capacity k : ℕ) (d : List ℕ) → first_kind (over_capacity capacity k d) ≡ None → All (λ q. q ≤ capacity) d
all_within capacity k [] h = All-nil (λ q. q ≤ capacity)
all_within capacity k (q ∷ qs) h =
    let t = no_test (ltb capacity q) (faults.DemandOverCapacity k) (over_capacity capacity (suc k) qs) h in
    All-cons (λ x. x ≤ capacity) q qs (ltb-false _ _ t.0) (all_within capacity (suc k) qs t.1)

-- ---- the whole

module _ (p : Parts) (ps : List Piece) (k : HasParts p ps) (n : ℕ) (size : size_of ps ≡ n) where
  points_fit : length (points_of ps) ≡ n
  points_fit = length-map-range_with_len (row_of origin (place_rows (tokens_in words.NodeCoordSection ps))) 1
      (size_of ps) ∙ size

  demands_fit : length (demands_of ps) ≡ n
  demands_fit = length-map-range_with_len (row_of 0 (demand_rows (tokens_in words.DemandSection ps))) 1 (size_of ps)
      ∙ size

  abbrev WeightsDone : Type 0
  WeightsDone = MakesWeights n p.headers.weight_type p.places p.lower
      × (weights_in p.headers.weight_type p.places p.lower ≡ (problem_value ps).weights)

  explicit_with : (lower : Vec ℕ Global) → p.headers.weight_type ≡ Some types.Explicit → p.lower ≡ Some lower →
      weight_type ps ≡ Some types.Explicit → WeightsFit n (Lower lower) → lower.items ≡ lower_in ps → WeightsDone
  explicit_with lower is kept so fits items = rw (is, kept, so) (fits, ap value.Lower items)

  explicit_done : p.headers.weight_type ≡ Some types.Explicit → first_kind (weights_ends ps) ≡ None → WeightsDone
  explicit_done is none =
      let so : weight_type ps ≡ Some types.Explicit = k.headers.weight_type.says ∙ is in
      let ends : first_kind (value.missing ps words.EdgeWeightType ∷ value.missing ps words.EdgeWeightSection
      ∷ []) ≡ None = (rw so at none) in
      let came : has words.EdgeWeightSection ps ≡ true =
      (two_tests (has words.EdgeWeightType ps) (has words.EdgeWeightSection ps) _ _ ends).1 in
      let lower = some_of p.lower (sym k.lower.came ∙ came) in
      explicit_with lower.0 is lower.1 so
      (subst (λ m. WeightsFit m (Lower lower.0)) size
      (subst (λ o. IfSome o (λ x. WeightsFit (size_of ps) (Lower x))) lower.1 k.lower_fits))
      (subst (λ o. IfSome o (λ x. x.items ≡ lower_in ps)) lower.1 k.lower.is)

  plane_with : (kind : PlaneKind) (places : List Point) → p.headers.weight_type ≡ Some (types.Plane kind) →
      p.places ≡ Some places → weight_type ps ≡ Some (types.Plane kind) → places ≡ points_of ps → WeightsDone
  plane_with kind places is kept so items =
      rw (is, kept, so) (ap length items ∙ points_fit, ap (value.Points kind) items)

  plane_done : (kind : PlaneKind) → p.headers.weight_type ≡ Some (types.Plane kind) →
      first_kind (weights_ends ps) ≡ None → WeightsDone
  plane_done kind is none =
      let so : weight_type ps ≡ Some (types.Plane kind) = k.headers.weight_type.says ∙ is in
      let ends : first_kind (value.missing ps words.EdgeWeightType ∷ value.missing ps words.NodeCoordSection
      ∷ []) ≡ None = (rw so at none) in
      let came : has words.NodeCoordSection ps ≡ true =
      (two_tests (has words.EdgeWeightType ps) (has words.NodeCoordSection ps) _ _ ends).1 in
      let places = some_of p.places (sym k.places.came ∙ came) in
      plane_with kind places.0 is places.1 so (subst (λ o. IfSome o (λ x. x ≡ points_of ps)) places.1 k.places.is)

  weights_done : first_kind (weights_ends ps) ≡ None → WeightsDone
  weights_done none = by_type p.headers.weight_type refl
    where
      by_type : (o : Option WeightType) → p.headers.weight_type ≡ o → WeightsDone
      by_type None is =
          let missing : has words.EdgeWeightType ps ≡ false = k.headers.weight_type.came ∙ ap is_some is in
          let came : not (has words.EdgeWeightType ps) ≡ false =
          (no_test (not (has words.EdgeWeightType ps)) (faults.Missing words.EdgeWeightType)
          (value.missing ps (cond (is_explicit (weight_type ps)) words.EdgeWeightSection words.NodeCoordSection)
          ∷ []) none).0 in
          let e : not false ≡ false = ap not (sym missing) ∙ came in
          absurd (let f : true ≡ false = e in cc)
      by_type (Some types.Explicit) is = explicit_done is none
      by_type (Some (types.Plane kind)) is = plane_done kind is none

  abbrev RoutingDone : Type 0
  RoutingDone = MakesRouting n p.headers.problem_type p.headers.capacity p.demand p.depot
      × (routing_in p.headers.problem_type p.headers.capacity p.demand p.depot ≡ (problem_value ps).routing)

  cvrp_with : (capacity : ℕ) (demand : Vec ℕ Global) (depot : ℕ) → p.headers.problem_type ≡ Some kinds.Cvrp
      → problem_type ps ≡ Some kinds.Cvrp → p.headers.capacity ≡ Some capacity → p.demand ≡ Some demand
      → p.depot ≡ Some depot
      → capacity_of ps ≡ capacity → demand.items ≡ demands_of ps → depot ≡ depot_of ps →
      IsRouting n (record { capacity = capacity; demand = demand; depot = depot }) → RoutingDone
  cvrp_with capacity demand depot is so c d t capacity_so items depot_so routing =
      rw (is, c, d, t, so) (routing, rw (capacity_so, items, depot_so) refl)

  routing_so : (capacity : ℕ) (demand : Vec ℕ Global) (depot : ℕ) → capacity_of ps ≡ capacity
      → capacity ≤ CAPACITY_LIMIT → demand.items ≡ demands_of ps → depot ≡ depot_of ps → n ≤ TABLE_LIMIT
      → (1 ≤ depot) × (depot ≤ n)
      → eqb (get_or (demands_of ps) (depot_of ps - 1) 0) 0 ≡ true →
      first_kind (over_capacity (capacity_of ps) 1 (demands_of ps)) ≡ None →
      IsRouting n (record { capacity = capacity; demand = demand; depot = depot })
  routing_so capacity demand depot capacity_so limit items depot_so small inside rests none =
      let loads : All (λ q. q ≤ capacity) demand.items =
      rw (items, ← capacity_so) (all_within (capacity_of ps) 1 (demands_of ps) none) in
      let rest : get_or demand.items (depot - 1) 0 ≡ 0 = rw (items, depot_so) (eqb-true _ _ rests) in
      record {
        few = small;
        demands = ap length items ∙ demands_fit;
        loads = loads;
        capacity = limit;
        depot = inside;
        rests = rest;
      }

  cvrp_done : p.headers.problem_type ≡ Some kinds.Cvrp → first_kind (routing_ends ps) ≡ None → RoutingDone
  cvrp_done is none =
      let four = four_tests (has words.Capacity ps) (has words.DemandSection ps) (has words.DepotSection ps)
      (eqb (get_or (demands_of ps) (depot_of ps - 1) 0) 0)
      _ _ _ _ (over_capacity (capacity_of ps) 1 (demands_of ps)) none in
      let capacity = some_of p.headers.capacity (sym k.headers.capacity.came ∙ four.0) in
      let demand = some_of p.demand (sym k.demand.came ∙ four.1) in
      let depot = some_of p.depot (sym k.depot.came ∙ four.2) in
      let limits = number_in_limits 1 CAPACITY_LIMIT capacity.0 (value_of words.Capacity ps) (k.headers.capacity.says
      ∙ capacity.1) in
      let capacity_so : capacity_of ps ≡ capacity.0 =
      ap (λ (o : Option ℕ). unwrap_or o 0) (k.headers.capacity.says ∙ capacity.1) in
      let items : demand.0.items ≡ demands_of ps =
      subst (λ o. IfSome o (λ x. x.items ≡ demands_of ps)) demand.1 k.demand.is in
      let depot_so : depot.0 ≡ depot_of ps = subst (λ o. IfSome o (λ d. d ≡ depot_of ps)) depot.1 k.depot.is in
      let inside =
      subst (λ m. (1 ≤ depot.0) × (depot.0 ≤ m)) size
      (subst (λ o. IfSome o (λ d. (1 ≤ d) × (d ≤ size_of ps))) depot.1 k.depot_in) in
      let small : n ≤ TABLE_LIMIT =
      subst (λ m. m ≤ TABLE_LIMIT) size
      (subst (λ o. IfSome o (λ _. size_of ps ≤ TABLE_LIMIT)) demand.1 k.demand_small) in
      cvrp_with capacity.0 demand.0 depot.0 is (k.headers.problem_type.says ∙ is) capacity.1 demand.1 depot.1
      capacity_so items depot_so
      (routing_so capacity.0 demand.0 depot.0 capacity_so limits.1 items depot_so small inside four.3 four.4)

  routing_done : first_kind (routing_ends_of ps) ≡ None → RoutingDone
  routing_done none = by_type p.headers.problem_type refl
    where
      by_type : (o : Option ProblemType) → p.headers.problem_type ≡ o → RoutingDone
      by_type None is =
          let so : problem_type ps ≡ None = k.headers.problem_type.says ∙ is in
          rw (is, so) (tt, refl)
      by_type (Some kinds.Tsp) is =
          let so : problem_type ps ≡ Some kinds.Tsp = k.headers.problem_type.says ∙ is in
          rw (is, so) (tt, refl)
      by_type (Some kinds.Cvrp) is =
          let so : problem_type ps ≡ Some kinds.Cvrp = k.headers.problem_type.says ∙ is in
          cvrp_done is (rw so at none)

is_not : (t : Bool) → not t ≡ false → t ≡ true
is_not true h = refl
is_not false h = absurd cc

same_problem : (x y : value.ProblemIs) → x.name ≡ y.name → x.n ≡ y.n → x.weights ≡ y.weights →
    x.routing ≡ y.routing → x ≡ y
same_problem x y e f g h = rw (e, f, g, h) refl

-- parts with no fault at the end
pub whole_parts : (p : Parts) (ps : List Piece) → HasParts p ps → problem_end ps ≡ None →
    IsWhole p × (problem_in p ≡ problem_value ps)
whole_parts p ps k none =
    let first =
    no_test (not (has words.Type ps)) (faults.Missing words.Type)
    (value.missing ps words.Dimension ∷ (weights_ends ps ++ routing_ends_of ps)) none in
    let second =
    no_test (not (has words.Dimension ps)) (faults.Missing words.Dimension)
    (weights_ends ps ++ routing_ends_of ps) first.1 in
    let rest = none_before (weights_ends ps) (routing_ends_of ps) second.1 in
    let dimension =
    some_of p.headers.dimension (sym k.headers.dimension.came ∙ is_not (has words.Dimension ps) second.0) in
    let size : size_of ps ≡ dimension.0 =
    ap (λ (o : Option ℕ). unwrap_or o 0) (k.headers.dimension.says ∙ dimension.1) in
    let limits = number_in_limits 2 CITY_LIMIT dimension.0 (value_of words.Dimension ps) (k.headers.dimension.says
    ∙ dimension.1) in
    let weights = weights_done p ps k dimension.0 size rest.0 in
    let routing = routing_done p ps k dimension.0 size rest.1 in
    let w : IsWhole p =
    record {
      short = k.headers.short;
      n = dimension.0;
      size = dimension.1;
      low = limits.0;
      high = limits.1;
      weights = weights.0;
      routing = routing.0;
    } in
    let sized : unwrap_or p.headers.dimension 0 ≡ size_of ps =
    ap (λ (o : Option ℕ). unwrap_or o 0) (sym k.headers.dimension.says) in
    (w, same_problem (problem_in p) (problem_value ps) k.headers.name sized weights.1 routing.1)
