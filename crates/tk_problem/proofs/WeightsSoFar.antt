-- One more weight is read.
use Rattle.std.proofs.Common.{replicate, ◌≡◌, ◌≢◌, ℕ, ◌<◌, ◌≤◌, Some, List, [], ◌∷◌, ◌++◌, length, get_or, set}
use Rattle.std.proofs.Common.{drop, All, IfSome, arith, sym, ap, subst, ◌∙◌, refl, length-drop}
use Rattle.std.specs.List.{zip, slice_get}
use Rattle.std.proofs.lemmas.Option.{slice_get_within, slice_get-get_or}
use Rattle.std.proofs.lemmas.List.{drop_more, drop-drop, length_push, get_or_read, length-replicate}
use Rattle.std.proofs.lemmas.List.Elements.{All-get_or, All-weaker, All-replicate}
use Rattle.tk_problem.specs.declared.limits.TheConstants.{DISTANCE_LIMIT}
use Rattle.tk_problem.specs.declared.cell.Cell.{Cell}
use Rattle.tk_problem.specs.declared.weights.Format.{Format}
use Rattle.tk_problem.specs.WeightOrder.{order, weight_of, lower_of, entries, lower_index}
use Rattle.tk_problem.specs.WeightsSoFar.{Filling, IsSoFar}
use Rattle.tk_problem.proofs.LowerTriangle.{pairs}
use Rattle.tk_problem.proofs.PairWeights.{length-lower_of, lower_index-lt, origin, order-within, lower_of-push}
use Rattle.tk_problem.proofs.PairWeights.{lower_of-diagonal, lower_of-none, weight_at}

zip_push : (ps : List Cell) (ws : List ℕ) (w : ℕ) → length ws < length ps → zip ps (ws ++ w ∷ []) ≡ zip ps ws
    ++ (get_or ps (length ws) origin, w) ∷ []
zip_push [] ws w less = absurd (omega arith)
zip_push (p ∷ []) [] w less = refl
zip_push (p ∷ q ∷ ps) [] w less = refl
zip_push (p ∷ ps) (v ∷ ws) w less = ap (λ es. (p, v) ∷ es) (zip_push ps ws w (omega arith))

-- p is the next cell, and it is within the matrix
pub record IsNext (f : Format) (n : ℕ) (ws : List ℕ) (p : Cell) : Type 0 where
  pub inside : length ws < length (order f n)
  pub here : get_or (order f n) (length ws) origin ≡ p
  pub row : p.row < n
  pub column : p.column < n

pub next_place : (s : Filling) (f : Format) (n : ℕ) (ws : List ℕ) (p : Cell) → IsSoFar s f n ws →
    slice_get s.places 0 ≡ Some p → IsNext f n ws p
next_place s f n ws p h first =
    let some : 0 < length s.places = slice_get_within s.places 0 p first in
    let short : length ws < length (order f n) =
    omega (arith, ap length h.places, length-drop (length ws) (order f n)) in
    let next : Cell = get_or (order f n) (length ws) origin in
    let both : Some next ≡ Some p =
    ap (λ ps. slice_get ps 0) (sym (h.places ∙ drop_more (order f n) (length ws) origin short)) ∙ first in
    let same : next ≡ p = cc in
    let within : (next.row < n) × (next.column < n) =
    All-get_or (λ p. (p.row < n) × (p.column < n)) (order f n) (length ws) origin short (order-within f n) in
    let moved : (p.row < n) × (p.column < n) = subst (λ q. (q.row < n) × (q.column < n)) same within in
    record { inside = short; here = same; row = moved.0; column = moved.1 }

entries-push : (f : Format) (n : ℕ) (ws : List ℕ) (w : ℕ) (p : Cell) → IsNext f n ws p →
    entries f n (ws ++ w ∷ []) ≡ entries f n ws ++ (p, w) ∷ []
entries-push f n ws w p h = zip_push (order f n) ws w h.inside ∙ ap (λ q. entries f n ws ++ (q, w) ∷ []) h.here

places_push : (s : Filling) (f : Format) (n : ℕ) (ws : List ℕ) (w : ℕ) → IsSoFar s f n ws →
    drop 1 s.places ≡ drop (length (ws ++ w ∷ [])) (order f n)
places_push s f n ws w h = ap (drop 1) h.places ∙ drop-drop 1 (length ws) (order f n)
    ∙ ap (λ k. drop k (order f n)) (sym (length_push ws w))

-- p is the next cell, and it is not on the diagonal
pub record IsNextPair (s : Filling) (f : Format) (n : ℕ) (ws : List ℕ) (p : Cell) : Type 0 where
  pub so_far : IsSoFar s f n ws
  pub next : IsNext f n ws p
  pub apart : p.row ≢ p.column

pub next_pair : (s : Filling) (f : Format) (n : ℕ) (ws : List ℕ) (p : Cell) → IsSoFar s f n ws →
    slice_get s.places 0 ≡ Some p → IfSome (slice_get s.places 0) (λ q. q.row ≢ q.column) → IsNextPair s f n ws p
next_pair s f n ws p h first pair = record {
  so_far = h;
  next = next_place s f n ws p h first;
  apart = subst (λ o. IfSome o (λ q. q.row ≢ q.column)) first pair;
}

pub so_far_push : (s : Filling) (f : Format) (n : ℕ) (ws : List ℕ) (w : ℕ) (p : Cell) → IsNextPair s f n ws p
    → IsSoFar (record { places = drop 1 s.places; weights = set s.weights (lower_index p) w }) f n (ws ++ w ∷ [])
so_far_push s f n ws w p h = record {
  few = omega (arith, length_push ws w, h.next.inside);
  places = places_push s f n ws w h.so_far;
  weights = ap (λ vs. set vs (lower_index p) w) h.so_far.weights
      ∙ sym (ap (lower_of n) (entries-push f n ws w p h.next)
      ∙ lower_of-push n (entries f n ws) p w h.next.row h.next.column h.apart);
}

pub so_far_skip : (s : Filling) (f : Format) (n : ℕ) (ws : List ℕ) (w : ℕ) → IsSoFar s f n ws → 0 < length s.places
    → IfSome (slice_get s.places 0) (λ p. p.row ≡ p.column)
    → IsSoFar (record { places = drop 1 s.places; weights = s.weights }) f n (ws ++ w ∷ [])
so_far_skip s f n ws w h some diagonal =
    let p : Cell = get_or s.places 0 origin in
    let first : slice_get s.places 0 ≡ Some p = slice_get-get_or s.places 0 origin some in
    let next = next_place s f n ws p h first in
    let on : p.row ≡ p.column = subst (λ o. IfSome o (λ q. q.row ≡ q.column)) first diagonal in
    record {
      few = omega (arith, length_push ws w, next.inside);
      places = places_push s f n ws w h;
      weights = h.weights
          ∙ sym (ap (lower_of n) (entries-push f n ws w p next) ∙ lower_of-diagonal n (entries f n ws) p w on);
    }

pub weight_read : (s : Filling) (f : Format) (n : ℕ) (ws : List ℕ) (p : Cell) (w : ℕ) → IsNextPair s f n ws p
    → w ≡ get_or s.weights (lower_index p) w → w ≡ weight_of p.row p.column (entries f n ws)
weight_read s f n ws p w h read =
    let short : lower_index p < length s.weights =
    omega (
      arith,
      ap length h.so_far.weights,
      length-lower_of n (entries f n ws),
      lower_index-lt n p h.next.row h.next.column h.apart,
    ) in
    get_or_read s.weights (lower_index p) w short read 0 ∙ ap (λ vs. get_or vs (lower_index p) 0) h.so_far.weights
    ∙ weight_at n (entries f n ws) p h.next.row h.next.column h.apart

-- ---- no weight yet

zip_none : (ps : List Cell) → zip {X = ℕ} ps [] ≡ []
zip_none [] = refl
zip_none (p ∷ ps) = refl

pub so_far_none : (f : Format) (n : ℕ) (places : List Cell) (weights : List ℕ) → places ≡ order f n →
    weights ≡ replicate (pairs n) 0 → IsSoFar (record { places = places; weights = weights }) f n []
so_far_none f n places weights all zeros = record {
  few = omega arith;
  places = all;
  weights = zeros ∙ sym (ap (lower_of n) (zip_none (order f n)) ∙ lower_of-none n);
}

pub indices_within : (f : Format) (n : ℕ) (places : List Cell) (weights : List ℕ) → places ≡ order f n
    → weights ≡ replicate (pairs n) 0
    → All (λ p. p.row ≢ p.column → lower_index p < length weights) places
indices_within f n places weights all zeros =
    let size : length weights ≡ pairs n = ap length zeros ∙ length-replicate (pairs n) 0 in
    subst (All (λ p. p.row ≢ p.column → lower_index p < length weights)) (sym all)
    (All-weaker (λ p. (p.row < n) × (p.column < n)) (λ p. p.row ≢ p.column → lower_index p < length weights)
    (λ p within apart. omega (arith, size, lower_index-lt n p within.0 within.1 apart)) (order f n)
    (order-within f n))

pub zeros_small : (n : ℕ) (weights : List ℕ) → weights ≡ replicate n 0 → All (λ w. w ≤ DISTANCE_LIMIT) weights
zeros_small n weights zeros =
    subst (All (λ w. w ≤ DISTANCE_LIMIT)) (sym zeros) (All-replicate (λ w. w ≤ DISTANCE_LIMIT) n 0 (omega arith))
