-- Reversed segments between others: what they show, and that all of them are still laid out.
use Rattle.std.proofs.Common.{◌≡◌, ℕ, ◌+◌, ◌-◌, ◌≤◌, suc, zero, List, [], ◌∷◌, ◌++◌, length, take, drop, map, refl, sym}
use Rattle.std.proofs.Common.{ap, ◌∙◌, subst, arith}
use Rattle.std.specs.Prelude.{reverse, sum_by}
use Rattle.std.specs.List.{All}
use Rattle.std.proofs.lemmas.List.{length-append, take-append-drop, drop-drop, take_at, drop_at, length-take-le}
use Rattle.std.proofs.lemmas.List.{length-drop, reverse-append}
use Rattle.std.proofs.lemmas.List.Sums.{sum_by-cons, sum_by-append, sum_by_push}
use Rattle.std.proofs.lemmas.List.Concat.{flat_map-append}
use Rattle.tk_tour.specs.Reversal.{reversed_places}
use Rattle.tk_segments.specs.Segments.{shown_by, shown, segment_size, placed, turned_segment, IsWithin, AreLaidOut}
use Rattle.tk_segments.specs.declared.segment.Segment.{Segment}
use Rattle.tk_segments.proofs.SeenTours.Showing.{AreTurned, shown-turn}
use Rattle.tk_segments.proofs.SeenTours.SeenPlaces.{AreWithin, length-shown_by}
use Rattle.tk_segments.proofs.SeenTours.Placing.{placed-append, length-placed, shown-placed, sum_sizes-placed}
use Rattle.tk_segments.proofs.SeenTours.Placing.{placed-placed, sum_sizes-part}

pub turned_all : (xs : List Segment) → AreTurned xs (map turned_segment xs)
turned_all [] = AreTurned.none
turned_all (x ∷ xs) = AreTurned.more (record { low = refl; high = refl; back = refl }) (turned_all xs)

pub within_of : (n : ℕ) (xs : List Segment) → All (IsWithin n) xs → AreWithin n xs
within_of n [] h = AreWithin.none
within_of n (x ∷ xs) h = AreWithin.more (h zero x (omega arith)) (within_of n xs (λ k d lt. h (suc k) d (omega arith)))

pub all_within : (n : ℕ) (xs : List Segment) → AreWithin n xs → All (IsWithin n) xs
all_within n _ AreWithin.none k d lt = absurd (omega arith)
all_within n _ (AreWithin.more {r} {rs} h t) zero d lt = h
all_within n _ (AreWithin.more {r} {rs} h t) (suc k) d lt = all_within n rs t k d (omega arith)

pub within-append : (n : ℕ) (xs ys : List Segment) → AreWithin n xs → AreWithin n ys → AreWithin n (xs ++ ys)
within-append n _ ys AreWithin.none k = k
within-append n _ ys (AreWithin.more {r} {rs} h t) k = AreWithin.more h (within-append n rs ys t k)

pub within_left : (n : ℕ) (xs ys : List Segment) → AreWithin n (xs ++ ys) → AreWithin n xs
within_left n [] ys h = AreWithin.none
within_left n (x ∷ xs) ys (AreWithin.more h t) = AreWithin.more h (within_left n xs ys t)

pub within_right : (n : ℕ) (xs ys : List Segment) → AreWithin n (xs ++ ys) → AreWithin n ys
within_right n [] ys h = h
within_right n (x ∷ xs) ys (AreWithin.more h t) = within_right n xs ys t

pub within-placed : (n v : ℕ) (xs : List Segment) → AreWithin n xs → AreWithin n (placed v xs)
within-placed n v _ AreWithin.none = AreWithin.none
within-placed n v _ (AreWithin.more {r} {rs} h t) = AreWithin.more h (within-placed n (v + segment_size r) rs t)

pub within-turned : (n : ℕ) (xs : List Segment) → AreWithin n xs → AreWithin n (map turned_segment xs)
within-turned n _ AreWithin.none = AreWithin.none
within-turned n _ (AreWithin.more {r} {rs} h t) = AreWithin.more h (within-turned n rs t)

pub within-reverse : (n : ℕ) (xs : List Segment) → AreWithin n xs → AreWithin n (reverse xs)
within-reverse n _ AreWithin.none = AreWithin.none
within-reverse n _ (AreWithin.more {r} {rs} h t) =
    let P : List Segment → Type 0 = λ v. AreWithin n v in
    subst P (sym (reverse-append (r ∷ []) rs))
    (within-append n (reverse rs) (r ∷ []) (within-reverse n rs t) (AreWithin.more h AreWithin.none))

pub length-shown-sum : (n : ℕ) (order : List ℕ) (xs : List Segment) → AreWithin n xs → n ≤ length order →
    length (shown order xs) ≡ sum_by segment_size xs
length-shown-sum n order _ AreWithin.none le = refl
length-shown-sum n order _ (AreWithin.more {r} {rs} h t) le =
    omega (
      arith,
      length-append (shown_by order r) (shown order rs),
      length-shown_by n order r h le,
      length-shown-sum n order rs t le,
      sum_by-cons segment_size r rs,
    )

sum_sizes-turned : (xs : List Segment) → sum_by segment_size (map turned_segment xs) ≡ sum_by segment_size xs
sum_sizes-turned [] = refl
sum_sizes-turned (x ∷ xs) = sum_by-cons segment_size (turned_segment x) (map turned_segment xs)
    ∙ ap (λ v. segment_size x + v) (sum_sizes-turned xs) ∙ sym (sum_by-cons segment_size x xs)

sum_sizes-reverse : (xs : List Segment) → sum_by segment_size (reverse xs) ≡ sum_by segment_size xs
sum_sizes-reverse [] = refl
sum_sizes-reverse (x ∷ xs) =
    let e : reverse (x ∷ xs) ≡ reverse xs ++ x ∷ [] = reverse-append (x ∷ []) xs in
    omega (
      arith,
      ap (sum_by segment_size) e,
      sum_by_push segment_size (reverse xs) x,
      sum_sizes-reverse xs,
      sum_by-cons segment_size x xs,
    )

-- the three parts of segments that are laid out
pub record Parts (n : ℕ) (old us rs ws : List Segment) : Type 0 where
  pub whole : old ≡ us ++ (rs ++ ws)
  pub within_us : AreWithin n us
  pub within_rs : AreWithin n rs
  pub within_ws : AreWithin n ws
  pub starts_us : us ≡ placed 0 us
  pub starts_ws : ws ≡ placed (sum_by segment_size us + sum_by segment_size rs) ws
  pub sum : sum_by segment_size us + (sum_by segment_size rs + sum_by segment_size ws) ≡ n

pub take-placed : (v k : ℕ) (xs : List Segment) → k ≤ length xs → take k (placed v xs) ≡ placed v (take k xs)
take-placed v k xs le =
    ap (λ u. take k (placed v u)) (sym (take-append-drop k xs)) ∙ ap (take k) (placed-append v (take k xs) (drop k xs))
    ∙ take_at (placed v (take k xs)) (placed (v + sum_by segment_size (take k xs)) (drop k xs)) k
    (length-placed v (take k xs) ∙ length-take-le k xs le)

pub drop-placed : (v k : ℕ) (xs : List Segment) → k ≤ length xs →
    drop k (placed v xs) ≡ placed (v + sum_by segment_size (take k xs)) (drop k xs)
drop-placed v k xs le =
    ap (λ u. drop k (placed v u)) (sym (take-append-drop k xs)) ∙ ap (drop k) (placed-append v (take k xs) (drop k xs))
    ∙ drop_at (placed v (take k xs)) (placed (v + sum_by segment_size (take k xs)) (drop k xs)) k
    (length-placed v (take k xs) ∙ length-take-le k xs le)

pub parts : (n i j : ℕ) (old : List Segment) → AreLaidOut n old → i ≤ j → j ≤ length old →
    Parts n old (take i old) (take (j - i) (drop i old)) (drop (j - i) (drop i old))
parts n i j old h le lj =
    let us : List Segment = take i old in
    let rs : List Segment = take (j - i) (drop i old) in
    let ws : List Segment = drop (j - i) (drop i old) in
    let e : old ≡ us ++ (rs ++ ws) = sym (take-append-drop i old)
    ∙ ap (λ v. us ++ v) (sym (take-append-drop (j - i) (drop i old))) in
    let P : List Segment → Type 0 = λ v. AreWithin n v in
    let all : AreWithin n (us ++ (rs ++ ws)) = subst P e (within_of n old h.within) in
    let rest : AreWithin n (rs ++ ws) = within_right n us (rs ++ ws) all in
    let s1 : sum_by segment_size us + sum_by segment_size (rs ++ ws) ≡ n = sym
    (sum_by-append segment_size us (rs ++ ws))
    ∙ ap (sum_by segment_size) (sym e) ∙ h.whole in
    let d1 : drop i old ≡ placed (sum_by segment_size us) (drop i old) = ap (drop i) h.starts
    ∙ drop-placed 0 i old (omega arith) ∙ ap (λ v. placed v (drop i old)) (omega arith) in
    let d2 : ws ≡ placed (sum_by segment_size us + sum_by segment_size rs) ws = ap (drop (j - i)) d1
    ∙ drop-placed (sum_by segment_size us) (j - i) (drop i old) (omega (arith, length-drop i old)) in
    record {
      whole = e;
      within_us = within_left n us (rs ++ ws) all;
      within_rs = within_left n rs ws rest;
      within_ws = within_right n rs ws rest;
      starts_us = ap (take i) h.starts ∙ take-placed 0 i old (omega arith);
      starts_ws = d2;
      sum = omega (arith, s1, sum_by-append segment_size rs ws);
    }

pub turned_shows : (n first m : ℕ) (order : List ℕ) (old us rs ws part : List Segment) → Parts n old us rs ws →
    n ≤ length order → first ≡ sum_by segment_size us → m ≡ sum_by segment_size rs →
    part ≡ placed first (map turned_segment (reverse rs)) →
    shown order (us ++ (part ++ ws)) ≡ reversed_places first m (shown order old)
turned_shows n first m order old us rs ws part h le ef em ep =
    let ss : List Segment = map turned_segment (reverse rs) in
    let f = shown_by order in
    let e1 : shown order part ≡ shown order ss = ap (shown order) ep ∙ shown-placed order first ss in
    let e2 : shown order (us ++ (part ++ ws)) ≡ shown order (us ++ (ss ++ ws)) =
    flat_map-append f us (part ++ ws)
    ∙ ap (λ v. shown order us ++ v) (flat_map-append f part ws ∙ ap (λ v. v ++ shown order ws) e1
    ∙ sym (flat_map-append f ss ws)) ∙ sym (flat_map-append f us (ss ++ ws)) in
    let l1 : length (shown order us) ≡ first = length-shown-sum n order us h.within_us le ∙ sym ef in
    let l2 : length (shown order rs) ≡ m = length-shown-sum n order rs h.within_rs le ∙ sym em in
    e2 ∙ shown-turn order us rs ss ws (turned_all (reverse rs))
    ∙ ap (λ v. reversed_places v (length (shown order rs)) (shown order (us ++ (rs ++ ws)))) l1
    ∙ ap (λ v. reversed_places first v (shown order (us ++ (rs ++ ws)))) l2
    ∙ ap (λ v. reversed_places first m (shown order v)) (sym h.whole)

pub turned_laid : (n first : ℕ) (old us rs ws part : List Segment) → Parts n old us rs ws → first ≡ sum_by segment_size
    us →
    part ≡ placed first (map turned_segment (reverse rs)) → AreLaidOut n (us ++ (part ++ ws))
turned_laid n first old us rs ws part h ef ep =
    let ss : List Segment = map turned_segment (reverse rs) in
    let P : List Segment → Type 0 = λ v. AreWithin n v in
    let w : AreWithin n part =
    subst P (sym ep) (within-placed n first ss (within-turned n (reverse rs) (within-reverse n rs h.within_rs))) in
    let s : sum_by segment_size part ≡ sum_by segment_size rs = ap (sum_by segment_size) ep ∙ sum_sizes-placed first ss
    ∙ sum_sizes-turned (reverse rs) ∙ sum_sizes-reverse rs in
    let again : placed first part ≡ part = ap (placed first) ep ∙ placed-placed first first ss ∙ sym ep in
    let e3 : placed (0 + sum_by segment_size us) (part ++ ws) ≡ part ++ ws =
    ap (λ v. placed v (part ++ ws)) (omega arith) ∙ placed-append first part ws
    ∙ ap (λ v. v ++ placed (first + sum_by segment_size part) ws) again
    ∙ ap (λ v. part ++ placed v ws) (omega (arith, s, ef)) ∙ ap (λ v. part ++ v) (sym h.starts_ws) in
    record {
      within =
          all_within n (us ++ (part ++ ws))
          (within-append n us (part ++ ws) h.within_us (within-append n part ws w h.within_ws));
      starts =
          sym (placed-append 0 us (part ++ ws)
          ∙ ap (λ v. v ++ placed (0 + sum_by segment_size us) (part ++ ws)) (sym h.starts_us) ∙ ap (λ v. us ++ v) e3);
      whole = omega (arith, sum_by-append segment_size us (part ++ ws), sum_by-append segment_size part ws, s, h.sum);
    }

pub sum_sizes-range : (i j : ℕ) (xs : List Segment) → i ≤ j → j ≤ length xs →
    sum_by segment_size (take (j - i) (drop i xs)) ≡ sum_by segment_size (take j xs) - sum_by segment_size (take i xs)
sum_sizes-range i j xs le lj =
    let a = sum_sizes-part i xs in
    let b = sum_sizes-part j xs in
    let c = sum_sizes-part (j - i) (drop i xs) in
    let d : sum_by segment_size (drop (j - i) (drop i xs)) ≡ sum_by segment_size (drop j xs) =
    ap (sum_by segment_size) (drop-drop (j - i) i xs ∙ ap (λ v. drop v xs) (omega arith)) in
    omega (arith, a, b, c, d)

pub turned_sizes : (n first : ℕ) (old us rs ws part : List Segment) → Parts n old us rs ws → first ≡ sum_by segment_size
    us →
    n ≤ 100000 → part ≡ map turned_segment (reverse rs) →
    (All (λ r. r.low ≤ r.high) part) × (first + sum_by segment_size part ≤ 100000)
turned_sizes n first old us rs ws part h ef small ep =
    let P : List Segment → Type 0 = λ v. AreWithin n v in
    let w : AreWithin n part = subst P (sym ep) (within-turned n (reverse rs) (within-reverse n rs h.within_rs)) in
    let s : sum_by segment_size part ≡ sum_by segment_size rs = ap (sum_by segment_size) ep ∙ sum_sizes-turned
    (reverse rs)
    ∙ sum_sizes-reverse rs in (
      (λ k d lt. let z = all_within n part w k d lt in omega (arith, z.0)),
      omega (arith, s, h.sum, ef),
    )
