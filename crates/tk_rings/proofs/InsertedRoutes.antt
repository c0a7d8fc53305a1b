-- A route that is put among others, at an index found step by step.
use Rattle.std.proofs.Common.{◌≡◌, ℕ, ◌+◌, ◌<◌, ◌≤◌, List, [], ◌∷◌, ◌++◌, length, take, drop, get_or, sym, ap, ◌∙◌}
use Rattle.std.proofs.Common.{arith}
use Rattle.std.proofs.Common.{append_assoc, Vec, Global}
use Rattle.std.specs.List.{All, insert}
use Rattle.std.proofs.lemmas.List.{drop_more, get_or-map, length-map, map-append, take_all, drop_all, get_or_default}
use Rattle.std.proofs.lemmas.List.Elements.{All-get_or}
use Rattle.tk_lists.specs.Solution.{lists_of}
use Rattle.tk_near.specs.Keeping.{insert_by}
use Rattle.tk_near.proofs.SortedInsertion.{insert_before, insert_after}
use Rattle.tk_routes.proofs.CutLists.{map-take_more}
use Rattle.tk_rings.specs.RingRoutes.{first_of}

-- the first customer, as an index gives it
pub first_is : (route : List ℕ) (c : ℕ) → 1 ≤ length route → c ≡ get_or route 0 c → c ≡ first_of route
first_is route c some is = is ∙ get_or_default route 0 c 0 (omega (arith, some))

module _ (routes : List (Vec ℕ Global)) (route : Vec ℕ Global) (k : ℕ) (lt : k < length routes) (other : Vec ℕ Global)
    (is : other ≡ get_or routes k other) where
  cut : lists_of (drop k routes) ≡ other.items ∷ lists_of (drop (k + 1) routes)
  cut = ap lists_of (drop_more routes k other lt)
      ∙ ap (λ (v : Vec ℕ Global). v.items ∷ lists_of (drop (k + 1) routes)) (sym is)

  pub filled_at : All (λ (r : List ℕ). 1 ≤ length r) (lists_of routes) → 1 ≤ length other.items
  filled_at h =
      let at : get_or (lists_of routes) k [] ≡ other.items =
      get_or-map (λ (r : Vec ℕ Global). r.items) routes k other [] lt
      ∙ ap (λ (v : Vec ℕ Global). v.items) (sym is) in
      omega (
        arith,
        All-get_or (λ (r : List ℕ). 1 ≤ length r) (lists_of routes) k []
            (omega (arith, lt, length-map routes (λ (r : Vec ℕ Global). r.items))) h,
        ap (λ (v : List ℕ). length v) at,
      )

  pub goes_after : first_of other.items ≤ first_of route.items →
      lists_of (take k routes) ++ insert_by first_of route.items (lists_of (drop k routes))
      ≡ lists_of (take (k + 1) routes) ++ insert_by first_of route.items (lists_of (drop (k + 1) routes))
  goes_after le =
      let rest : List (List ℕ) = insert_by first_of route.items (lists_of (drop (k + 1) routes)) in
      ap (λ (v : List (List ℕ)). lists_of (take k routes) ++ insert_by first_of route.items v) cut
      ∙ ap (λ (v : List (List ℕ)). lists_of (take k routes) ++ v)
      (insert_after first_of route.items other.items (lists_of (drop (k + 1) routes)) le)
      ∙ sym (append_assoc (lists_of (take k routes)) (other.items ∷ []) rest)
      ∙ ap (λ (v : List (List ℕ)). v ++ rest)
      (sym (map-take_more (λ (r : Vec ℕ Global). r.items) routes k other lt is))

  pub goes_before : first_of route.items < first_of other.items →
      lists_of (insert routes k route)
      ≡ lists_of (take k routes) ++ insert_by first_of route.items (lists_of (drop k routes))
  goes_before l =
      map-append (λ (r : Vec ℕ Global). r.items) (take k routes) (route ∷ drop k routes)
      ∙ ap (λ (v : List (List ℕ)). lists_of (take k routes) ++ v)
      (sym (ap (insert_by first_of route.items) cut
      ∙ insert_before first_of route.items other.items (lists_of (drop (k + 1) routes)) l
      ∙ ap (λ (v : List (List ℕ)). route.items ∷ v) (sym cut)))

pub goes_last : (routes : List (Vec ℕ Global)) (route : Vec ℕ Global) (k : ℕ) → length routes ≤ k →
    lists_of (routes ++ route ∷ [])
    ≡ lists_of (take k routes) ++ insert_by first_of route.items (lists_of (drop k routes))
goes_last routes route k le =
    map-append (λ (r : Vec ℕ Global). r.items) routes (route ∷ [])
    ∙ ap (λ (v : List (Vec ℕ Global)). lists_of v ++ route.items ∷ []) (sym (take_all k routes le))
    ∙ ap (λ (v : List (Vec ℕ Global)). lists_of (take k routes) ++ insert_by first_of route.items (lists_of v))
    (sym (drop_all k routes le))
