-- The flat list of near lists, filled one city at a time.
use Rattle.std.proofs.Common.{◌≡◌, ◌≢◌, ℕ, zero, suc, ◌+◌, ◌*◌, ◌-◌, ◌<◌, ◌≤◌, ⊎_elim, List, [], ◌∷◌, ◌++◌, length}
use Rattle.std.proofs.Common.{take, drop, set, get_or, sym, ap, ◌∙◌, arith, subst}
use Rattle.std.proofs.lemmas.Bool.{cases_eq, cases_lt}
use Rattle.std.proofs.lemmas.List.{take-append-drop, take-append-le, drop-append-le, take_at, drop_at, drop-drop}
use Rattle.std.proofs.lemmas.List.{drop_more, set_at, append_assoc, length-append, length-drop, length-take-le}
use Rattle.std.proofs.lemmas.List.{length-map, take_more, map-append}
use Rattle.std.proofs.Math.Nat.{mul-le-mul_right}
use Rattle.tk_near.specs.declared.candidates.Candidate.{Candidate}
use Rattle.tk_distance.specs.Cities.{IsCity}
use Rattle.tk_near.specs.Near.{IsNear, block}
use Rattle.tk_near.specs.Keeping.{cities_kept, overwritten, AreFilledAmong}

pub product_step : (a k : ℕ) → 1 ≤ a → (a - 1) * k + k ≡ a * k
product_step zero k l = absurd (omega arith)
product_step (suc b) k l =
    let e : suc b - 1 ≡ b = omega arith in
    let f : b * k + k ≡ suc b * k = omega arith in
    ap (λ v. v * k + k) e ∙ f

-- one more entry is written
pub written_more : (xs : List ℕ) (from i : ℕ) (kept : List Candidate) (d : Candidate) → from + i < length xs →
    i < length kept →
    set (take from xs ++ cities_kept (take i kept) ++ drop (from + i) xs) (from + i)
    (get_or kept i d).city ≡ take from xs
    ++ cities_kept (take (i + 1) kept) ++ drop (from + (i + 1)) xs
written_more xs from i kept d l m =
    let front : List ℕ = take from xs ++ cities_kept (take i kept) in
    let v : ℕ = (get_or kept i d).city in
    let size : length front ≡ from + i = length-append (take from xs) (cities_kept (take i kept))
    ∙ omega (
      arith,
      length-take-le from xs (omega arith),
      length-map (take i kept) (λ (x : Candidate). x.city),
      length-take-le i kept (omega arith),
    ) in
    let rest = drop_more xs (from + i) 0 l in
    let next : from + i + 1 ≡ from + (i + 1) = omega arith in
    let cities : cities_kept (take (i + 1) kept) ≡ cities_kept (take i kept) ++ v ∷ [] =
    ap cities_kept (take_more kept i d m)
    ∙ map-append (λ (x : Candidate). x.city) (take i kept) (get_or kept i d ∷ []) in
    ap (λ w. set (front ++ w) (from + i) v) rest
    ∙ set_at front (get_or xs (from + i) 0) (drop (from + i + 1) xs) v (from + i) size
    ∙ ap (λ w. front ++ v ∷ drop w xs) next
    ∙ sym (append_assoc front (v ∷ []) (drop (from + (i + 1)) xs))
    ∙ ap (λ w. w ++ drop (from + (i + 1)) xs) (append_assoc (take from xs) (cities_kept (take i kept)) (v ∷ []))
    ∙ ap (λ w. take from xs ++ w ++ drop (from + (i + 1)) xs) (sym cities)

pub within_front : (k s : ℕ) (front rest : List ℕ) → s + k ≤ length front →
    take k (drop s (front ++ rest)) ≡ take k (drop s front)
within_front k s front rest l =
    ap (take k) (drop-append-le s front rest (omega arith))
    ∙ take-append-le k (drop s front) rest (omega (arith, length-drop s front))

beyond_front : (n m : ℕ) (front rest : List ℕ) → length front ≡ n → drop (n + m) (front ++ rest) ≡ drop m rest
beyond_front n m front rest e = sym (drop-drop m n (front ++ rest)) ∙ ap (drop m) (drop_at front rest n e)

pub block_here : (k c : ℕ) (xs row : List ℕ) → 1 ≤ c → c * k ≤ length xs → length row ≡ k →
    block k (overwritten ((c - 1) * k) row xs) c ≡ row
block_here k c xs row one l e =
    let step = product_step c k one in
    let n : length (take ((c - 1) * k) xs) ≡ (c - 1) * k = length-take-le ((c - 1) * k) xs (omega arith) in
    let rest : List ℕ = drop ((c - 1) * k + length row) xs in
    ap (λ v. take k (drop ((c - 1) * k) v)) (append_assoc (take ((c - 1) * k) xs) row rest)
    ∙ ap (take k) (drop_at (take ((c - 1) * k) xs) (row ++ rest) ((c - 1) * k) n) ∙ take_at row rest k e

pub block_other : (k c b : ℕ) (xs row : List ℕ) → 1 ≤ c → 1 ≤ b → b ≢ c → c * k ≤ length xs → length row ≡ k →
    block k (overwritten ((c - 1) * k) row xs) b ≡ block k xs b
block_other k c b xs row one two ne l e =
    let from : ℕ = (c - 1) * k in
    let step = product_step c k one in
    let front : List ℕ = take from xs in
    let rest : List ℕ = drop (from + length row) xs in
    let n : length front ≡ from = length-take-le from xs (omega arith) in
    ⊎_elim
    (λ below.
    let up : b * k ≤ (c - 1) * k = mul-le-mul_right k (omega arith) in
    let fits : (b - 1) * k + k ≤ length front = omega (arith, product_step b k two) in
    ap (λ v. take k (drop ((b - 1) * k) v)) (append_assoc front row rest)
    ∙ within_front k ((b - 1) * k) front (row ++ rest) fits
    ∙ sym (within_front k ((b - 1) * k) front (drop from xs) fits)
    ∙ ap (λ v. take k (drop ((b - 1) * k) v)) (take-append-drop from xs))
    (λ above.
    let up : c * k ≤ (b - 1) * k = mul-le-mul_right k (omega arith) in
    let size : length (front ++ row) ≡ from + length row = length-append front row ∙ ap (λ v. v + length row) n in
    let m : from + length row + ((b - 1) * k - (from + length row)) ≡ (b - 1) * k = omega arith in
    let here : drop ((b - 1) * k) (front ++ row ++ rest) ≡ drop ((b - 1) * k) xs =
    ap (λ v. drop v (front ++ row ++ rest)) (sym m)
    ∙ beyond_front (from + length row) ((b - 1) * k - (from + length row)) (front ++ row) rest size
    ∙ drop-drop ((b - 1) * k - (from + length row)) (from + length row) xs ∙ ap (λ v. drop v xs) m in
    ap (take k) here)
    (cases_lt b c)

-- the list of one more city is written
pub AreFilledAmong-more : (dist : ℕ → ℕ → ℕ) (n m k c : ℕ) (Done Then : ℕ → Type 0) (xs row : List ℕ) →
    AreFilledAmong dist n m k Done xs → IsCity n c → IsNear dist m k c row → ((a : ℕ) → Then a → a ≢ c → Done a) →
    AreFilledAmong dist n m k Then (overwritten ((c - 1) * k) row xs)
AreFilledAmong-more dist n m k c Done Then xs row h city near only =
    let fits : c * k ≤ length xs = omega (arith, mul-le-mul_right k city.1, h.count) in
    let step = product_step c k city.0 in
    let front : List ℕ = take ((c - 1) * k) xs in
    let l : length front ≡ (c - 1) * k = length-take-le ((c - 1) * k) xs (omega arith) in
    record {
      count = length-append (front ++ row) (drop ((c - 1) * k + length row) xs)
          ∙ omega (arith, length-append front row, length-drop ((c - 1) * k + length row) xs, near.count, h.count);
      each = λ a there done. ⊎_elim
          (λ same. subst (λ v. IsNear dist m k v (block k (overwritten ((c - 1) * k) row xs) v)) (sym same)
          (subst (IsNear dist m k c) (sym (block_here k c xs row city.0 fits near.count)) near))
          (λ apart. subst (IsNear dist m k a) (sym (block_other k c a xs row city.0 there.0 apart fits near.count))
          (h.each a there (only a done apart)))
          (cases_eq a c);
    }

pub AreFilledAmong-none : (dist : ℕ → ℕ → ℕ) (n m k : ℕ) (Done : ℕ → Type 0) (xs : List ℕ) → length xs ≡ n * k →
    ((a : ℕ) → IsCity n a → Done a → ⊥) → AreFilledAmong dist n m k Done xs
AreFilledAmong-none dist n m k Done xs e none = record {
  count = e;
  each = λ a city done. absurd (none a city done);
}

pub AreFilledAmong-same : (dist : ℕ → ℕ → ℕ) (n m k : ℕ) (Done Then : ℕ → Type 0) (xs : List ℕ) →
    AreFilledAmong dist n m k Done xs → ((a : ℕ) → IsCity n a → Then a → Done a) → AreFilledAmong dist n m k Then xs
AreFilledAmong-same dist n m k Done Then xs h only = record {
  count = h.count;
  each = λ a city done. h.each a city (only a city done);
}

-- the same, as `write_cities` says it
-- lists that take the whole of a vector, over the front of which they are written
pub AreFilledAmong-front : (dist : ℕ → ℕ → ℕ) (n m k kept len : ℕ) (Done : ℕ → Type 0) (new rest : List ℕ) →
    length new ≡ len → kept ≡ k → AreFilledAmong dist n m kept Done new →
    AreFilledAmong dist n m k Done (take len (new ++ rest))
AreFilledAmong-front dist n m k kept len Done new rest size width filled =
    subst (λ lists. AreFilledAmong dist n m k Done lists) (sym (take_at new rest len size))
    (subst (λ wide. AreFilledAmong dist n m wide Done new) width filled)

pub AreFilledAmong-write : (dist : ℕ → ℕ → ℕ) (n m k c : ℕ) (Done Then : ℕ → Type 0) (xs new : List ℕ)
    (kept : List Candidate) → AreFilledAmong dist n m k Done xs → IsCity n c → length kept ≡ k →
    IsNear dist m k c (cities_kept kept) → ((a : ℕ) → Then a → a ≢ c → Done a) →
    new ≡ overwritten ((c - 1) * length kept) (cities_kept kept) xs → AreFilledAmong dist n m k Then new
AreFilledAmong-write dist n m k c Done Then xs new kept h city size near only e =
    subst (AreFilledAmong dist n m k Then) (sym (e ∙ ap (λ v. overwritten ((c - 1) * v) (cities_kept kept) xs) size))
    (AreFilledAmong-more dist n m k c Done Then xs (cities_kept kept) h city near only)
