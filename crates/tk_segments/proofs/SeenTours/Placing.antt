-- Segments placed one after another.
use Rattle.std.proofs.Common.{◌≡◌, ℕ, ◌+◌, ◌<◌, suc, List, [], ◌∷◌, ◌++◌, length, take, drop, set, refl, sym, ap, ◌∙◌}
use Rattle.std.proofs.Common.{arith, get_or}
use Rattle.std.specs.Prelude.{sum_by}
use Rattle.std.proofs.lemmas.List.{take_more, drop_more, append_assoc, set_at, get_or_at, take-append-drop}
use Rattle.std.proofs.lemmas.List.{length-take-le}
use Rattle.std.proofs.lemmas.List.Sums.{sum_by-cons, sum_by-append, sum_by_push}
use Rattle.tk_segments.specs.Segments.{shown_by, shown, segment_size, placed}
use Rattle.tk_segments.specs.declared.segment.Segment.{Segment}

pub placed-append : (v : ℕ) (xs ys : List Segment) → placed v (xs ++ ys) ≡ placed v xs ++ placed
    (v + sum_by segment_size xs) ys
placed-append v [] ys = ap (λ w. placed w ys) (omega arith)
placed-append v (x ∷ xs) ys =
    ap (λ w. record x { start = v } ∷ w) (placed-append (v + segment_size x) xs ys
    ∙ ap (λ w. placed (v + segment_size x) xs ++ placed w ys) (omega (arith, sum_by-cons segment_size x xs)))

pub length-placed : (v : ℕ) (xs : List Segment) → length (placed v xs) ≡ length xs
length-placed v [] = refl
length-placed v (x ∷ xs) = ap suc (length-placed (v + segment_size x) xs)

-- one step of a loop that places them
pub placed-more : (v w k : ℕ) (xs ys : List Segment) (x d : Segment) → k < length xs → ys ≡ placed v (take k xs) ++ drop
    k xs →
    w ≡ v + sum_by segment_size (take k xs) →
    x ≡ get_or xs k d → set ys k (record x { start = w }) ≡ placed v (take (k + 1) xs) ++ drop (k + 1) xs
placed-more v w k xs ys x d lt e f g =
    let y : Segment = get_or xs k d in
    let A : List Segment = placed v (take k xs) in
    let la : length A ≡ k = length-placed v (take k xs) ∙ length-take-le k xs (omega arith) in
    let front : placed v (take (k + 1) xs) ≡ A ++ record y { start = w } ∷ [] =
    ap (placed v) (take_more xs k d lt) ∙ placed-append v (take k xs) (y ∷ [])
    ∙ ap (λ u. A ++ record y { start = u } ∷ []) (sym f) in
    ap (λ u. set u k (record x { start = w })) (e ∙ ap (λ u. A ++ u) (drop_more xs k d lt))
    ∙ set_at A y (drop (k + 1) xs) (record x { start = w }) k la
    ∙ ap (λ (u : Segment). A ++ record u { start = w } ∷ drop (k + 1) xs) g
    ∙ sym (ap (λ u. u ++ drop (k + 1) xs) front ∙ append_assoc A (record y { start = w } ∷ []) (drop (k + 1) xs))

-- what segments show does not depend on their starts
pub shown-placed : (order : List ℕ) (v : ℕ) (xs : List Segment) → shown order (placed v xs) ≡ shown order xs
shown-placed order v [] = refl
shown-placed order v (x ∷ xs) = ap (λ w. shown_by order x ++ w) (shown-placed order (v + segment_size x) xs)

pub sum_sizes-placed : (v : ℕ) (xs : List Segment) → sum_by segment_size (placed v xs) ≡ sum_by segment_size xs
sum_sizes-placed v [] = refl
sum_sizes-placed v (x ∷ xs) = sum_by-cons segment_size (record x { start = v }) (placed (v + segment_size x) xs)
    ∙ ap (λ w. segment_size x + w) (sum_sizes-placed (v + segment_size x) xs) ∙ sym (sum_by-cons segment_size x xs)

pub placed-placed : (v w : ℕ) (xs : List Segment) → placed v (placed w xs) ≡ placed v xs
placed-placed v w [] = refl
placed-placed v w (x ∷ xs) = ap (λ u. record x { start = v } ∷ u)
    (placed-placed (v + segment_size x) (w + segment_size x) xs)

pub sum_sizes-more : (k : ℕ) (xs ys : List Segment) (v : ℕ) (d : Segment) → k < length xs →
    ys ≡ placed v (take k xs) ++ drop k xs →
    (get_or ys k d ≡ get_or xs k d)
    × (sum_by segment_size (take (k + 1) xs) ≡ sum_by segment_size (take k xs) + segment_size (get_or xs k d))
sum_sizes-more k xs ys v d lt e = (
  ap (λ u. get_or u k d) (e ∙ ap (λ u. placed v (take k xs) ++ u) (drop_more xs k d lt))
      ∙ get_or_at (placed v (take k xs)) (get_or xs k d) (drop (k + 1) xs) d k (length-placed v (take k xs)
      ∙ length-take-le k xs (omega arith)),
  ap (sum_by segment_size) (take_more xs k d lt) ∙ sum_by_push segment_size (take k xs) (get_or xs k d),
)

pub sum_sizes-part : (k : ℕ) (xs : List Segment) →
    sum_by segment_size (take k xs) + sum_by segment_size (drop k xs) ≡ sum_by segment_size xs
sum_sizes-part k xs = sym (sum_by-append segment_size (take k xs) (drop k xs))
    ∙ ap (sum_by segment_size) (take-append-drop k xs)
