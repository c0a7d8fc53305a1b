-- The starts of segments, and the entry at a position of the sequence.
use Rattle.std.proofs.Common.{◌≡◌, ℕ, ◌+◌, ◌-◌, ◌<◌, ◌≤◌, suc, zero, List, [], ◌∷◌, ◌++◌, length, take, drop, sym, ap}
use Rattle.std.proofs.Common.{◌∙◌, subst, arith, get_or, ⊎_elim}
use Rattle.std.specs.Prelude.{sum_by}
use Rattle.std.proofs.lemmas.Bool.{cases_lt}
use Rattle.std.proofs.lemmas.List.{take_more, take_all, take-append-drop, take-take, take-append-le, length-take-le}
use Rattle.std.proofs.lemmas.List.{length-append, append_assoc, take_at}
use Rattle.std.proofs.lemmas.List.Sums.{sum_by-cons, sum_by-append, sum_by_push}
use Rattle.std.proofs.lemmas.List.Concat.{get_or-flat_map}
use Rattle.tk_segments.specs.Segments.{shown_by, shown, segment_size, shown_place, placed, IsWithin, AreLaidOut}
use Rattle.tk_segments.specs.Segments.{IsSplit}
use Rattle.tk_segments.specs.declared.segment.Segment.{Segment}
use Rattle.tk_segments.proofs.SeenTours.SeenPlaces.{AreWithin, length-shown_by, get_or-shown_by}
use Rattle.tk_segments.proofs.SeenTours.Turning.{within_of, within_left, length-shown-sum}
use Rattle.tk_segments.proofs.SeenTours.Splitting.{part_facts}

start-placed : (v k : ℕ) (xs : List Segment) (d : Segment) → k < length xs →
    (get_or (placed v xs) k d).start ≡ v + sum_by segment_size (take k xs)
start-placed v k [] d lt = absurd (omega arith)
start-placed v zero (x ∷ xs) d lt = omega arith
start-placed v (suc k) (x ∷ xs) d lt = start-placed (v + segment_size x) k xs d (omega arith)
    ∙ omega (arith, sum_by-cons segment_size x (take k xs))

-- the start of the k-th segment
pub start_is : (n k : ℕ) (xs : List Segment) (d : Segment) → AreLaidOut n xs → k < length xs →
    (get_or xs k d).start ≡ sum_by segment_size (take k xs)
start_is n k xs d h lt = ap (λ u. (get_or u k d).start) h.starts ∙ start-placed 0 k xs d lt ∙ omega arith

pub sum_all : (n : ℕ) (xs : List Segment) → AreLaidOut n xs → sum_by segment_size (take (length xs) xs) ≡ n
sum_all n xs h = ap (sum_by segment_size) (take_all (length xs) xs (omega arith)) ∙ h.whole

pub sum_more : (k : ℕ) (xs : List Segment) (d : Segment) → k < length xs →
    sum_by segment_size (take (k + 1) xs) ≡ sum_by segment_size (take k xs) + segment_size (get_or xs k d)
sum_more k xs d lt = ap (sum_by segment_size) (take_more xs k d lt) ∙ sum_by_push segment_size (take k xs)
    (get_or xs k d)

-- the entry at position v of the sequence, which is in the k-th segment
pub shown_at : (n k v : ℕ) (xs : List Segment) (d : Segment) (order : List ℕ) → AreLaidOut n xs → k < length xs →
    n ≤ length order →
    sum_by segment_size (take k xs) ≤ v → v < sum_by segment_size (take (k + 1) xs) →
    get_or (shown order xs) v 0 ≡ get_or order (shown_place (get_or xs k d) (v - (get_or xs k d).start)) 0
shown_at n k v xs d order h lt le from to =
    let segment : Segment = get_or xs k d in
    let s = start_is n k xs d h lt in
    let j : ℕ = v - segment.start in
    let w : IsWithin n segment = h.within k d lt in
    let lj : j < segment_size segment = omega (arith, sum_more k xs d lt, s, from, to) in
    let P : List Segment → Type 0 = λ u. AreWithin n u in
    let front : AreWithin n (take k xs) =
    within_left n (take k xs) (drop k xs) (subst P (sym (take-append-drop k xs)) (within_of n xs h.within)) in
    let l : length (shown order (take k xs)) ≡ segment.start = length-shown-sum n order (take k xs) front le ∙ sym s in
    ap (λ u. get_or (shown order xs) u 0) (omega (arith, l, from, s))
    ∙ get_or-flat_map (shown_by order) xs k j d 0 lt (omega (arith, length-shown_by n order segment w le))
    ∙ get_or-shown_by n order segment j w le lj

pub sum_mono : (i j : ℕ) (xs : List Segment) → i ≤ j → sum_by segment_size (take i xs) ≤ sum_by segment_size (take j xs)
sum_mono i j xs le =
    let a = sum_by-append segment_size (take i (take j xs)) (drop i (take j xs)) in
    let b : sum_by segment_size (take i (take j xs) ++ drop i (take j xs)) ≡ sum_by segment_size (take j xs) =
    ap (sum_by segment_size) (take-append-drop i (take j xs)) in
    let c : sum_by segment_size (take i (take j xs)) ≡ sum_by segment_size (take i xs) =
    ap (sum_by segment_size) (take-take i j xs le) in
    omega (arith, a, b, c)

-- the segments that start before a split
pub split_before : (old new : List Segment) (k d i v : ℕ) (x : Segment) → k < length old → IsSplit old new k d →
    v < sum_by segment_size (take (k + 1) old) → i ≤ length old → sum_by segment_size (take i old) ≤ v →
    sum_by segment_size (take i new) ≡ sum_by segment_size (take i old)
split_before old new k d i v x lt h to li le =
    let lk : i ≤ k = ⊎_elim (λ (a : k < i). absurd (omega (arith, sum_mono (k + 1) i old (omega arith))))
    (λ (a : i ≤ k). a) (cases_lt k i) in
    let rest : List Segment = h.one ∷ h.two ∷ drop (k + 1) old in
    ap (sum_by segment_size) (ap (take i) h.list
    ∙ take-append-le i (take k old) rest (omega (arith, length-take-le k old (omega arith))) ∙ take-take i k old lk)

pub split_begins : (n v d : ℕ) (old new : List Segment) (k : ℕ) → k < length old → AreLaidOut n old →
    (s : IsSplit old new k d) → d < segment_size s.segment → v ≡ sum_by segment_size (take k old) + d →
    sum_by segment_size (take (k + 1) new) ≡ v
split_begins n v d old new k lt h s ld e =
    let us : List Segment = take k old in
    let ws : List Segment = drop (k + 1) old in
    let w : IsWithin n s.segment = let P : Segment → Type 0 = λ r. IsWithin n r in
    subst P (sym s.segment_is) (h.within k s.segment lt) in
    let p = part_facts n d (length old) s.segment s.one s.two s.parts w ld in
    let f : us ++ (s.one ∷ s.two ∷ ws) ≡ (us ++ s.one ∷ []) ++ (s.two ∷ ws) =
    sym (append_assoc us (s.one ∷ []) (s.two ∷ ws)) in
    let l : length (us ++ s.one ∷ []) ≡ k + 1 =
    omega (arith, length-append us (s.one ∷ []), length-take-le k old (omega arith)) in
    let g : take (k + 1) new ≡ us ++ s.one ∷ [] = ap (take (k + 1)) (s.list ∙ f)
    ∙ take_at (us ++ s.one ∷ []) (s.two ∷ ws) (k + 1) l in
    omega (arith, ap (sum_by segment_size) g, sum_by_push segment_size us s.one, p.sizes, e)
