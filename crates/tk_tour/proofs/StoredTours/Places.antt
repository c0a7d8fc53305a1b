-- Positions modulo the length: a list that begins at another position, and the reversal of positions from there on.
use Rattle.std.proofs.Common.{◌≡◌, ◌≢◌, ℕ, ◌+◌, ◌-◌, ◌<◌, ◌≤◌, suc, zero, ⊎_elim, inl, List, [], ◌∷◌, ◌++◌, length}
use Rattle.std.proofs.Common.{take, drop, set, refl, sym, ap, ◌∙◌, arith, get_or}
use Rattle.std.specs.Prelude.{reverse}
use Rattle.std.proofs.lemmas.List.{reverse-reverse, take-append-drop, length-take, length-take-le, length-drop}
use Rattle.std.proofs.lemmas.List.{length-append, length-reverse, length-set, take_at, drop_at, get_or-take}
use Rattle.std.proofs.lemmas.List.{get_or-drop, get_or_append_left, get_or-append_right, get_or-reverse, take-set-le}
use Rattle.std.proofs.lemmas.List.{drop-set-add, drop-set-lt, set-append_left, set-append_right, get_or-set_same}
use Rattle.std.proofs.lemmas.List.{get_or-set_other, ext_get_or, take_more, take_all}
use Rattle.std.proofs.lemmas.Bool.{cases_lt, cases_eq}
use Rattle.tk_tour.specs.Tour.{IsRotation, SameCycle, IsPath}
use Rattle.tk_tour.specs.Moves.{ReplacesSteps}
use Rattle.tk_tour.specs.Reversal.{begun_at, reversed_front, reversed_places}
use Rattle.tk_tour.proofs.Cycle.{IsRotation-append, IsRotation-sym, IsRotation-trans, SameCycle-trans, SameCycle-sym}
use Rattle.tk_tour.proofs.DistinctCycles.{HoldsOnce, HoldsOnce-cycle, same_pieces, ReplacesSteps-from_cut}

pub length-begun_at : (k : ℕ) (xs : List ℕ) → length (begun_at k xs) ≡ length xs
length-begun_at k xs = simp (length-append, length-drop, length-take) (omega arith)

pub IsRotation-begun_at : (k : ℕ) (xs : List ℕ) → IsRotation xs (begun_at k xs)
IsRotation-begun_at k xs =
    record { front = take k xs; back = drop k xs; before = sym (take-append-drop k xs); after = refl }

-- rotating a list to begin at k, and then to begin where it began before, restores it
pub begun_at-begun_at : (k : ℕ) (xs : List ℕ) → begun_at (length xs - k) (begun_at k xs) ≡ xs
begun_at-begun_at k xs =
    rw (
      drop_at (drop k xs) (take k xs) (length xs - k) (length-drop k xs),
      take_at (drop k xs) (take k xs) (length xs - k) (length-drop k xs),
    )
    (take-append-drop k xs)

pub begun_at-back : (n k : ℕ) (xs : List ℕ) → length xs ≡ n → k ≤ n → begun_at k (begun_at (n - k) xs) ≡ xs
begun_at-back n k xs e le =
    let j : length xs - (n - k) ≡ k = omega arith in
    ap (λ v. begun_at v (begun_at (n - k) xs)) (sym j) ∙ begun_at-begun_at (n - k) xs

pub length-reversed_front : (m : ℕ) (xs : List ℕ) → length (reversed_front m xs) ≡ length xs
length-reversed_front m xs = simp (length-append, length-drop, length-reverse, length-take) (omega arith)

pub reversed_front-twice : (m : ℕ) (xs : List ℕ) → m ≤ length xs → reversed_front m (reversed_front m xs) ≡ xs
reversed_front-twice m xs le =
    let l : length (reverse (take m xs)) ≡ m = length-reverse (take m xs) ∙ length-take-le m xs le in
    rw (
      take_at (reverse (take m xs)) (drop m xs) m l,
      drop_at (reverse (take m xs)) (drop m xs) m l,
      reverse-reverse (take m xs),
    ) (take-append-drop m xs)

pub length-reversed_places : (k m : ℕ) (xs : List ℕ) → length (reversed_places k m xs) ≡ length xs
length-reversed_places k m xs =
    length-begun_at (length xs - k) (reversed_front m (begun_at k xs)) ∙ length-reversed_front m (begun_at k xs)
    ∙ length-begun_at k xs

pub reversed_places-from : (k m : ℕ) (xs ys : List ℕ) → k ≤ length xs → length ys ≡ length xs →
    begun_at k ys ≡ reversed_front m (begun_at k xs) → ys ≡ reversed_places k m xs
reversed_places-from k m xs ys le l e =
    sym (begun_at-begun_at k ys) ∙ ap (λ v. begun_at (v - k) (begun_at k ys)) l ∙ ap (λ v. begun_at (length xs - k) v) e

-- reversing the same positions twice restores the list
pub reversed_places-twice : (k m : ℕ) (xs : List ℕ) → k ≤ length xs → m ≤ length xs →
    reversed_places k m (reversed_places k m xs) ≡ xs
reversed_places-twice k m xs le lm =
    let r : List ℕ = begun_at k xs in
    let l1 : length (reversed_front m r) ≡ length xs = length-reversed_front m r ∙ length-begun_at k xs in
    let e : begun_at k (reversed_places k m xs) ≡ reversed_front m r =
    begun_at-back (length xs) k (reversed_front m r) l1 le in
    let f : begun_at k xs ≡ reversed_front m (begun_at k (reversed_places k m xs)) =
    sym (reversed_front-twice m r (omega (arith, length-begun_at k xs))) ∙ ap (reversed_front m) (sym e) in
    sym (reversed_places-from k m (reversed_places k m xs) xs (omega (arith, length-reversed_places k m xs))
    (sym (length-reversed_places k m xs)) f)

pub reversed_places-undone : (k m : ℕ) (old new : List ℕ) → new ≡ reversed_places k m old → k ≤ length old →
    m ≤ length old → reversed_places k m new ≡ old
reversed_places-undone k m old new e le lm = ap (reversed_places k m) e ∙ reversed_places-twice k m old le lm

-- p is the position, in a list of n, of entry i of the rotation that begins at position f
abbrev pub AtPlace : ℕ → ℕ → ℕ → ℕ → Type 0
AtPlace n f i p = (f + i < n → p ≡ f + i) × (n ≤ f + i → p + n ≡ f + i)

pub get_or-begun_at : (xs : List ℕ) (f i p d : ℕ) → f ≤ length xs → i < length xs → AtPlace (length xs) f i p →
    get_or (begun_at f xs) i d ≡ get_or xs p d
get_or-begun_at xs f i p d le lt h =
    ⊎_elim
    (λ (low : f + i < length xs).
    get_or_append_left (drop f xs) (take f xs) d i (simp length-drop (omega arith)) ∙ get_or-drop f xs i d
    ∙ ap (λ v. get_or xs v d) (sym (h.0 low)))
    (λ (high : length xs ≤ f + i).
    let e : i - (length xs - f) ≡ p = omega (arith, h.1 high) in
    get_or-append_right (drop f xs) (take f xs) (length xs - f) i d (length-drop f xs) (omega arith)
    ∙ get_or-take f xs (i - (length xs - f)) d (omega arith) ∙ ap (λ v. get_or xs v d) e)
    (cases_lt (f + i) (length xs))

take-set-lt : (f : ℕ) (xs : List ℕ) (p y : ℕ) → p < f → take f (set xs p y) ≡ set (take f xs) p y
take-set-lt zero xs p y lt = absurd (omega arith)
take-set-lt (suc f) [] p y lt = refl
take-set-lt (suc f) (x ∷ xs) zero y lt = refl
take-set-lt (suc f) (x ∷ xs) (suc p) y lt = ap (λ v. x ∷ v) (take-set-lt f xs p y (omega arith))

pub begun_at-set : (xs : List ℕ) (f i p y : ℕ) → f ≤ length xs → i < length xs → AtPlace (length xs) f i p →
    begun_at f (set xs p y) ≡ set (begun_at f xs) i y
begun_at-set xs f i p y le lt h =
    ⊎_elim
    (λ (low : f + i < length xs).
    ap (λ v. begun_at f (set xs v y)) (h.0 low) ∙ ap (λ v. v ++ take f (set xs (f + i) y)) (drop-set-add f xs i y)
    ∙ ap (λ v. set (drop f xs) i y ++ v) (take-set-le f xs (f + i) y (omega arith))
    ∙ sym (set-append_left (drop f xs) (take f xs) i y (simp length-drop (omega arith))))
    (λ (high : length xs ≤ f + i).
    let e : i - (length xs - f) ≡ p = omega (arith, h.1 high) in
    ap (λ v. v ++ take f (set xs p y)) (drop-set-lt f xs p y (omega (arith, h.1 high)))
    ∙ ap (λ v. drop f xs ++ v) (take-set-lt f xs p y (omega (arith, h.1 high)))
    ∙ sym (set-append_right (drop f xs) (take f xs) (length xs - f) i y (length-drop f xs) (omega arith)
    ∙ ap (λ v. drop f xs ++ set (take f xs) v y) e))
    (cases_lt (f + i) (length xs))

-- ys is xs after t swaps of the reversal of its first m positions
pub record MirroredTo (t m : ℕ) (xs ys : List ℕ) : Type 0 where
  pub same_length : length ys ≡ length xs
  pub front : (k : ℕ) → k < t → get_or ys k 0 ≡ get_or xs (m - 1 - k) 0
  pub back : (k : ℕ) → m ≤ k + t → k < m → get_or ys k 0 ≡ get_or xs (m - 1 - k) 0
  pub middle : (k : ℕ) → t ≤ k → k + t < m → get_or ys k 0 ≡ get_or xs k 0
  pub beyond : (k : ℕ) → m ≤ k → get_or ys k 0 ≡ get_or xs k 0

exchanged_at : (ys : List ℕ) (i j x y : ℕ) → i < length ys → j < length ys → i ≢ j → (k : ℕ) →
    ((k ≡ i → get_or (set (set ys i y) j x) k 0 ≡ y) × (k ≡ j → get_or (set (set ys i y) j x) k 0 ≡ x)
    × (k ≢ i → k ≢ j → get_or (set (set ys i y) j x) k 0 ≡ get_or ys k 0))
exchanged_at ys i j x y li lj ne k = (
  (λ e. ap (λ v. get_or (set (set ys i y) j x) v 0) e ∙ get_or-set_other (set ys i y) j i x 0 ne
      ∙ get_or-set_same ys i y 0 li),
  (λ e. ap (λ v. get_or (set (set ys i y) j x) v 0) e ∙ get_or-set_same (set ys i y) j x 0 (rw (length-set ys i y) lj)),
  (λ ni nj. get_or-set_other (set ys i y) j k x 0 nj ∙ get_or-set_other ys i k y 0 ni),
)

pub MirroredTo-more : (t m : ℕ) (xs ys : List ℕ) (j x y : ℕ) → MirroredTo t m xs ys → t + t + 1 < m → m ≤ length xs →
    j ≡ m - 1 - t → x ≡ get_or ys t 0 → y ≡ get_or ys j 0 →
    MirroredTo (t + 1) m xs (set (set ys t y) j x)
MirroredTo-more t m xs ys j x y h lt le ej ex ey =
    let li : t < length ys = omega (arith, h.same_length) in
    let lj : j < length ys = omega (arith, h.same_length) in
    let ne : t ≢ j = omega arith in
    let at = exchanged_at ys t j x y li lj ne in
    let ex' : x ≡ get_or xs t 0 = ex ∙ h.middle t (omega arith) (omega arith) in
    let ey' : y ≡ get_or xs j 0 = ey ∙ h.middle j (omega arith) (omega arith) in
    record {
      same_length = length-set (set ys t y) j x ∙ length-set ys t y ∙ h.same_length;
      front = λ k lk.
          ⊎_elim (λ (e : k ≡ t). (at k).0 e ∙ ey' ∙ ap (λ v. get_or xs v 0) (omega arith))
          (λ (n : k ≢ t). (at k).2 n (omega arith) ∙ h.front k (omega (arith, n))) (cases_eq k t);
      back = λ k lk lm.
          ⊎_elim (λ (e : k ≡ j). (at k).1 e ∙ ex' ∙ ap (λ v. get_or xs v 0) (omega arith))
          (λ (n : k ≢ j). (at k).2 (omega arith) n ∙ h.back k (omega (arith, n)) lm) (cases_eq k j);
      middle = λ k lk lm. (at k).2 (omega arith) (omega arith) ∙ h.middle k (omega arith) (omega arith);
      beyond = λ k lk. (at k).2 (omega arith) (omega arith) ∙ h.beyond k lk;
    }

pub MirroredTo-all : (t m : ℕ) (xs ys : List ℕ) → MirroredTo t m xs ys → t + t ≤ m → m ≤ t + t + 1 → m ≤ length xs →
    ys ≡ reversed_front m xs
MirroredTo-all t m xs ys h low high le =
    let l : length (reverse (take m xs)) ≡ m = length-reverse (take m xs) ∙ length-take-le m xs le in
    ext_get_or 0 ys (reversed_front m xs) (h.same_length ∙ sym (length-reversed_front m xs))
    (λ k lk.
    ⊎_elim
    (λ (inside : k < m).
    let lt : k < length (take m xs) = omega (arith, length-take-le m xs le) in
    let e : get_or (reversed_front m xs) k 0 ≡ get_or xs (m - 1 - k) 0 =
    get_or_append_left (reverse (take m xs)) (drop m xs) 0 k (omega (arith, l)) ∙ get_or-reverse (take m xs) k 0 lt
    ∙ ap (λ v. get_or (take m xs) (v - 1 - k) 0) (length-take-le m xs le)
    ∙ get_or-take m xs (m - 1 - k) 0 (omega arith) in
    let f : get_or ys k 0 ≡ get_or xs (m - 1 - k) 0 =
    ⊎_elim (λ (a : k < t). h.front k a)
    (λ (a : t ≤ k). ⊎_elim (λ (b : k + t < m). h.middle k a b ∙ ap (λ v. get_or xs v 0) (omega arith))
    (λ (b : m ≤ k + t). h.back k b inside) (cases_lt (k + t) m))
    (cases_lt k t) in
    f ∙ sym e)
    (λ (out : m ≤ k).
    h.beyond k out ∙ sym (get_or-append_right (reverse (take m xs)) (drop m xs) m k 0 l out ∙ get_or-drop m xs (k - m) 0
    ∙ ap (λ v. get_or xs v 0) (omega arith)))
    (cases_lt k m))

-- a list with these two ends is a path
pub IsPath-from_ends : (from to : ℕ) (xs : List ℕ) → 0 < length xs → get_or xs 0 0 ≡ from →
    get_or xs (length xs - 1) 0 ≡ to → IsPath from xs to
IsPath-from_ends from to [] lt e f = absurd (omega arith)
IsPath-from_ends from to (x ∷ xs) lt e f =
    let n : ℕ = length (x ∷ xs) in
    let last : take (n - 1 + 1) (x ∷ xs) ≡ take (n - 1) (x ∷ xs) ++ get_or (x ∷ xs) (n - 1) 0 ∷ [] =
    take_more (x ∷ xs) (n - 1) 0 (omega arith) in
    let whole : take (n - 1 + 1) (x ∷ xs) ≡ x ∷ xs = take_all (n - 1 + 1) (x ∷ xs) (omega arith) in
    ((xs, ap (λ v. v ∷ xs) e), (take (n - 1) (x ∷ xs), sym whole ∙ last ∙ ap (λ v. take (n - 1) (x ∷ xs) ++ v ∷ []) f))

abbrev pub SidesAre : List ℕ → ℕ → ℕ → ℕ → ℕ → ℕ → ℕ → Type 0
SidesAre xs f m a b c d =
    (front back : List ℕ) → IsPath d front a → IsPath b back c → SameCycle xs (front ++ back) →
    (length front ≡ f) × (length back ≡ m)

-- the effect of reversing the path from b to c, at m positions from i on, and the number of cities on each side
pub path_reversed : (xs : List ℕ) (i m a b c d : ℕ) → HoldsOnce xs → 0 < m → m < length xs →
    get_or (begun_at i xs) 0 0 ≡ b → get_or (begun_at i xs) (m - 1) 0 ≡ c → get_or (begun_at i xs) m 0 ≡ d →
    get_or (begun_at i xs) (length xs - 1) 0 ≡ a →
    ReplacesSteps xs (reversed_places i m xs) a b c d × SidesAre xs (length xs - m) m a b c d
path_reversed xs i m a b c d once lo hi eb ec ed ea =
    let r : List ℕ = begun_at i xs in
    let lr : length r ≡ length xs = length-begun_at i xs in
    let lb : length (take m r) ≡ m = length-take-le m r (omega (arith, lr)) in
    let lf : length (drop m r) ≡ length xs - m = length-drop m r ∙ ap (λ v. v - m) lr in
    let back : IsPath b (take m r) c =
    IsPath-from_ends b c (take m r) (omega (arith, lb)) (get_or-take m r 0 0 lo ∙ eb)
    (ap (λ v. get_or (take m r) (v - 1) 0) lb ∙ get_or-take m r (m - 1) 0 (omega arith) ∙ ec) in
    let e0 : m + 0 ≡ m = omega arith in
    let e1 : m + (length xs - m - 1) ≡ length xs - 1 = omega arith in
    let front : IsPath d (drop m r) a =
    IsPath-from_ends d a (drop m r) (omega (arith, lf)) (get_or-drop m r 0 0 ∙ ap (λ v. get_or r v 0) e0 ∙ ed)
    (ap (λ v. get_or (drop m r) (v - 1) 0) lf ∙ get_or-drop m r (length xs - m - 1) 0
    ∙ ap (λ v. get_or r v 0) e1 ∙ ea) in
    let old : SameCycle xs (drop m r ++ take m r) =
    inl (IsRotation-trans (IsRotation-begun_at i xs) (IsRotation-begun_at m r)) in
    let turned : IsRotation (reversed_front m r) (reversed_places i m xs) =
    IsRotation-begun_at (length xs - i) (reversed_front m r) in
    let new : SameCycle (reversed_places i m xs) (drop m r ++ reverse (take m r)) =
    inl (IsRotation-trans (IsRotation-sym turned) (IsRotation-append (reverse (take m r)) (drop m r))) in (
      ReplacesSteps-from_cut a b c d xs (reversed_places i m xs) (drop m r) (take m r) once front back old new,
      λ us vs pu pv g.
          let s = same_pieces a b c d (drop m r) (take m r) us vs (HoldsOnce-cycle once old) front back pu pv
          (SameCycle-trans (SameCycle-sym old) g) in
          (ap length s.0 ∙ lf, ap length s.1 ∙ lb),
    )
