-- The reversal of positions of a list that do not continue from its end to its beginning.
use Rattle.std.proofs.Common.{◌≡◌, ℕ, ◌+◌, ◌-◌, ◌<◌, ◌≤◌, ◌⊎◌, ⊎_elim, inl, inr, List, ◌++◌, length, take, drop, refl}
use Rattle.std.proofs.Common.{sym, ap, ◌∙◌, arith, get_or}
use Rattle.std.specs.Prelude.{reverse}
use Rattle.std.proofs.lemmas.List.{append_assoc, length-append, length-take, length-take-le, length-drop}
use Rattle.std.proofs.lemmas.List.{length-reverse, take_at, drop_at, take-append-le, drop-append-le, get_or-take}
use Rattle.std.proofs.lemmas.List.{get_or-drop, get_or_append_left, get_or-append_right, get_or-reverse}
use Rattle.std.proofs.lemmas.Bool.{cases_lt}
use Rattle.tk_tour.specs.Reversal.{IsInverse, begun_at, reversed_front, reversed_places}
use Rattle.tk_tour.proofs.StoredTours.Places.{reversed_places-from}
use Rattle.tk_tour.proofs.StoredTours.Renumbering.{Renumbering}

-- xs with `count` positions from `first` on reversed
abbrev pub turned_within : ℕ → ℕ → List ℕ → List ℕ
turned_within first count xs = take first xs ++ (reverse (take count (drop first xs)) ++ drop count (drop first xs))

pub length-turned_within : (first count : ℕ) (xs : List ℕ) → first + count ≤ length xs →
    length (turned_within first count xs) ≡ length xs
length-turned_within first count xs le = simp (length-append, length-drop, length-reverse, length-take) (omega arith)

-- it is the reversal modulo the length, since the positions do not continue past the end
pub turned_within-is : (first count : ℕ) (xs : List ℕ) → first + count ≤ length xs →
    turned_within first count xs ≡ reversed_places first count xs
turned_within-is first count xs le =
    let back : List ℕ = drop first xs in
    let front : List ℕ = take first xs in
    let turned : List ℕ = reverse (take count back) in
    let rest : List ℕ = drop count back in
    let size : length front ≡ first = length-take-le first xs (omega arith) in
    let room : count ≤ length back = omega (arith, length-drop first xs) in
    let begun : begun_at first (turned_within first count xs) ≡ turned ++ rest ++ front =
    ap (λ v. v ++ take first (turned_within first count xs)) (drop_at front (turned ++ rest) first size)
    ∙ ap (λ v. turned ++ rest ++ v) (take_at front (turned ++ rest) first size) in
    let there : reversed_front count (begun_at first xs) ≡ turned ++ (rest ++ front) =
    ap (λ v. reverse v ++ drop count (back ++ front)) (take-append-le count back front room)
    ∙ ap (λ v. turned ++ v) (drop-append-le count back front room) in
    reversed_places-from first count xs (turned_within first count xs) (omega arith)
    (length-turned_within first count xs le)
    (begun ∙ append_assoc turned rest front ∙ sym there)

turned_at : (first count : ℕ) (xs : List ℕ) (i : ℕ) → first + count ≤ length xs → first ≤ i → i < first + count →
    get_or (turned_within first count xs) i 0 ≡ get_or xs (first + (first + count - 1 - i)) 0
turned_at first count xs i le from to =
    let back : List ℕ = drop first xs in
    let part : List ℕ = take count back in
    let size : length (take first xs) ≡ first = length-take-le first xs (omega arith) in
    let many : length part ≡ count = length-take-le count back (omega (arith, length-drop first xs)) in
    let long : length (reverse part) ≡ count = length-reverse part ∙ many in
    get_or-append_right (take first xs) (reverse part ++ drop count back) first i 0 size from
    ∙ get_or_append_left (reverse part) (drop count back) 0 (i - first) (omega (arith, long))
    ∙ get_or-reverse part (i - first) 0 (omega (arith, many))
    ∙ get_or-take count back (length part - 1 - (i - first)) 0 (omega (arith, many))
    ∙ get_or-drop first xs (length part - 1 - (i - first)) 0
    ∙ ap (λ v. get_or xs v 0) (omega (arith, many))

kept_at : (first count : ℕ) (xs : List ℕ) (i : ℕ) → first + count ≤ length xs → (i < first) ⊎ (first + count ≤ i) →
    get_or (turned_within first count xs) i 0 ≡ get_or xs i 0
kept_at first count xs i le side =
    let back : List ℕ = drop first xs in
    let turned : List ℕ = reverse (take count back) in
    let size : length (take first xs) ≡ first = length-take-le first xs (omega arith) in
    let long : length turned ≡ count = length-reverse (take count back)
    ∙ length-take-le count back (omega (arith, length-drop first xs)) in
    ⊎_elim
    (λ (below : i < first). get_or_append_left (take first xs) (turned ++ drop count back) 0 i (omega (arith, size))
    ∙ get_or-take first xs i 0 below)
    (λ (above : first + count ≤ i).
    get_or-append_right (take first xs) (turned ++ drop count back) first i 0 size (omega arith)
    ∙ get_or-append_right turned (drop count back) count (i - first) 0 long (omega arith)
    ∙ get_or-drop count back (i - first - count) 0
    ∙ get_or-drop first xs (count + (i - first - count)) 0
    ∙ ap (λ v. get_or xs v 0) (omega arith))
    side

-- the position before the reversal of the entry that is at i now
record StoodAt (first count : ℕ) (xs : List ℕ) (i : ℕ) : Type 0 where
  pub place : ℕ
  pub within : place < length xs
  pub same : get_or (turned_within first count xs) i 0 ≡ get_or xs place 0
  pub stands : (((i < first) ⊎ (first + count ≤ i)) × (place ≡ i))
      ⊎ ((first ≤ i) × (i < first + count) × (place + i + 1 ≡ first + first + count))

stood_at : (first count : ℕ) (xs : List ℕ) (i : ℕ) → first + count ≤ length xs → i < length xs →
    StoodAt first count xs i
stood_at first count xs i le lt =
    let kept : (i < first) ⊎ (first + count ≤ i) → StoodAt first count xs i = λ side. record {
      place = i;
      within = lt;
      same = kept_at first count xs i le side;
      stands = inl (side, refl);
    } in
    ⊎_elim
    (λ (below : i < first). kept (inl below))
    (λ (from : first ≤ i). ⊎_elim
    (λ (to : i < first + count). record {
      place = first + (first + count - 1 - i);
      within = omega arith;
      same = turned_at first count xs i le from to;
      stands = inr (from, to, omega arith);
    })
    (λ (above : first + count ≤ i). kept (inr above))
    (cases_lt i (first + count)))
    (cases_lt i first)

-- the positions outside have been written, and each city occurs once
pub Renumbering-begin : (first count : ℕ) (xs place : List ℕ) → first + count ≤ length xs → IsInverse xs place →
    Renumbering (turned_within first count xs) place first (first + count)
Renumbering-begin first count xs place le inverse =
    let ys : List ℕ = turned_within first count xs in
    let size : length ys ≡ length xs = length-turned_within first count xs le in
    let at : (i : ℕ) → i < length ys → StoodAt first count xs i =
    λ i li. stood_at first count xs i le (omega (arith, li, size)) in
    record {
      size = inverse.0 ∙ sym size;
      cities = λ i li.
          let s = at i li in
          let city = inverse.1 s.place s.within in
          (omega (arith, city.0, s.same), omega (arith, city.1, s.same, size));
      apart = λ i j li lj same.
          let s = at i li in
          let t = at j lj in
          let one : s.place ≡ t.place = sym (inverse.1 s.place s.within).2
          ∙ ap (λ v. get_or place (v - 1) 0) (sym s.same ∙ same ∙ t.same) ∙ (inverse.1 t.place t.within).2 in
          omega (arith, one, s.stands, t.stands);
      reported = λ i li side.
          let s = at i li in
          ap (λ v. get_or place (v - 1) 0) s.same ∙ (inverse.1 s.place s.within).2 ∙ omega (arith, s.stands, side);
    }
