-- The checks at the end of a problem's text.
use Rattle.std.proofs.Common.{◌≡◌, ◌≤◌, ◌<◌, ◌+◌, ◌-◌, ℕ, Bool, true, false, cond, List, [], ◌∷◌, ◌++◌, length, drop}
use Rattle.std.proofs.Common.{get_or, is_some, subst, Option, Some, None, refl, sym, ap, ◌∙◌, arith}
use Rattle.std.proofs.lemmas.List.{at_drop_more}
use Rattle.std.proofs.lemmas.Bool.{le-ltb}
use Rattle.std.proofs.lemmas.List.FromFn.{length-map-range_with_len}
use Rattle.std.specs.Prelude.{IfSome, is_none, Vec, unwrap_or, ◌^◌}
use Rattle.std.specs.declared.alloc.Global.{Global}
use Rattle.tk_problem.specs.declared.limits.TheConstants.{TABLE_LIMIT}
use Rattle.tk_words.specs.declared.fault.TextKind.{TextKind}
use Rattle.tk_words.specs.declared.keyword.Keyword.TheVariants as words
use Rattle.tk_problem_text.specs.declared.header_values.ProblemType.TheVariants as types
use Rattle.tk_problem_text.specs.declared.parts.Parts.{Parts}
use Rattle.tk_lines.specs.Pieces.{Piece, has, tokens_in}
use Rattle.tk_problem_text.specs.Reader.Parts.{HasParts}
use Rattle.tk_problem_text.specs.Sections.Rows.{row_of, demand_rows}
use Rattle.tk_problem_text.specs.Problem.{first_kind, over_capacity, weights_ends, routing_ends_of, problem_end}
use Rattle.tk_problem_text.specs.Problem.{size_of, demands_of, depot_of, capacity_of, problem_type}

-- a node whose demand a vehicle holds
pub over_step : (capacity k i : ℕ) (d : List ℕ) → i < length d → get_or d i 0 ≤ capacity →
    first_kind (over_capacity capacity k (drop i d)) ≡ first_kind (over_capacity capacity (k + 1) (drop (i + 1) d))
over_step capacity k i d within fits =
    at_drop_more (λ (xs : List ℕ). first_kind (over_capacity capacity k xs)) d i 0 within
    ∙ rw (le-ltb _ _ fits) (ap (λ (m : ℕ). first_kind (over_capacity capacity m (drop (i + 1) d))) (omega arith))

pub first_kind-append : (xs ys : List (Bool × TextKind)) → first_kind xs ≡ None → first_kind (xs ++ ys) ≡ first_kind ys
first_kind-append [] ys h = refl
first_kind-append (x ∷ xs) ys h = by_test x.0 refl h (first_kind-append xs ys)
  where
    by_test : (t : Bool) → x.0 ≡ t → cond t (Some x.1) (first_kind xs) ≡ None →
        (first_kind xs ≡ None → first_kind (xs ++ ys) ≡ first_kind ys) → first_kind ((x ∷ xs) ++ ys) ≡ first_kind ys
    by_test true e h before = absurd cc
    by_test false e h before = rw e (before h)

pub first_kind-stops : (xs ys : List (Bool × TextKind)) (k : TextKind) → first_kind xs ≡ Some k →
    first_kind (xs ++ ys) ≡ Some k
first_kind-stops [] ys k h = absurd cc
first_kind-stops (x ∷ xs) ys k h = by_test x.0 refl h (first_kind-stops xs ys k)
  where
    by_test : (t : Bool) → x.0 ≡ t → cond t (Some x.1) (first_kind xs) ≡ Some k →
        (first_kind xs ≡ Some k → first_kind (xs ++ ys) ≡ Some k) → first_kind ((x ∷ xs) ++ ys) ≡ Some k
    by_test true e h before = rw e h
    by_test false e h before = rw e (before h)

-- a CVRP with a capacity, demands and a depot
pub record IsRouting (p : Parts) (capacity : ℕ) (demand : Vec ℕ Global) (depot : ℕ) : Type 0 where
  pub type_is : p.headers.problem_type ≡ Some types.Cvrp
  pub capacity_is : p.headers.capacity ≡ Some capacity
  pub demand_is : p.demand ≡ Some demand
  pub depot_is : p.depot ≡ Some depot

module _ {p : Parts} {ps : List Piece} {capacity : ℕ} {demand : Vec ℕ Global} {depot : ℕ} (k : HasParts p ps)
    (r : IsRouting p capacity demand depot) where
  same_demands : demands_of ps ≡ demand.items
  same_demands = sym (subst (λ o. IfSome o (λ v. v.items ≡ demands_of ps)) r.demand_is k.demand.is)

  same_depot : depot_of ps ≡ depot
  same_depot = sym (subst (λ o. IfSome o (λ d. d ≡ depot_of ps)) r.depot_is k.depot.is)

  pub first_node : 1 ≤ depot
  first_node = (subst (λ o. IfSome o (λ d. (1 ≤ d) × (d ≤ size_of ps))) r.depot_is k.depot_in).0

  pub few : length demand.items < 2 ^ 32
  few =
      let n : length (demands_of ps) ≡ size_of ps =
      length-map-range_with_len (row_of 0 (demand_rows (tokens_in words.DemandSection ps))) 1 (size_of ps) in
      let small = subst (λ o. IfSome o (λ _. size_of ps ≤ TABLE_LIMIT)) r.demand_is k.demand_small in
      omega (arith, n, small, ap length same_demands)

  -- where the depot has no demand, what is left is that no node has too much
  pub rest_of_routing : get_or demand.items (depot - 1) 0 ≡ 0 →
      first_kind (routing_ends_of ps) ≡ first_kind (over_capacity capacity 1 demand.items)
  rest_of_routing rests =
      let has_capacity : has words.Capacity ps ≡ true = k.headers.capacity.came ∙ ap is_some r.capacity_is in
      let has_demand : has words.DemandSection ps ≡ true = k.demand.came ∙ ap is_some r.demand_is in
      let has_depot : has words.DepotSection ps ≡ true = k.depot.came ∙ ap is_some r.depot_is in
      let type_so : problem_type ps ≡ Some types.Cvrp = k.headers.problem_type.says ∙ r.type_is in
      let capacity_so : capacity_of ps ≡ capacity =
      ap (λ (o : Option ℕ). unwrap_or o 0) (k.headers.capacity.says ∙ r.capacity_is) in
      rw (type_so, has_capacity, has_demand, has_depot, same_depot, same_demands, rests)
      (ap (λ (c : ℕ). first_kind (over_capacity c 1 demand.items)) capacity_so)

-- ---- the whole end

there : {A : Type 0} (o : Option A) → is_none o ≡ false → is_some o ≡ true
there None h = absurd cc
there (Some a) h = refl

module _ (p : Parts) (ps : List Piece) (k : HasParts p ps) (typed : is_none p.headers.problem_type ≡ false)
    (sized : is_none p.headers.dimension ≡ false) where
  has_type : has words.Type ps ≡ true
  has_type = k.headers.problem_type.came ∙ there p.headers.problem_type typed

  has_size : has words.Dimension ps ≡ true
  has_size = k.headers.dimension.came ∙ there p.headers.dimension sized

  pub end_stops : (kind : TextKind) → first_kind (weights_ends ps) ≡ Some kind → problem_end ps ≡ Some kind
  end_stops kind h = rw (has_type, has_size) (first_kind-stops (weights_ends ps) (routing_ends_of ps) kind h)

  pub end_goes : first_kind (weights_ends ps) ≡ None → problem_end ps ≡ first_kind (routing_ends_of ps)
  end_goes h = rw (has_type, has_size) (first_kind-append (weights_ends ps) (routing_ends_of ps) h)
