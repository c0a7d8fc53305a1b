-- The number of entries of a format, and how often it contains each pair.
use Rattle.std.proofs.Common.{◌≡◌, ◌≢◌, ℕ, zero, suc, ◌+◌, ◌-◌, ◌*◌, ◌/◌, ◌<◌, ◌≤◌, Bool, true, false, cond, eqb, List}
use Rattle.std.proofs.Common.{[], ◌∷◌, ◌++◌, length, map, arith, sym, ap, ◌∙◌, refl, inl, inr, length-append}
use Rattle.std.specs.List.{range_with_len, flat_map, count_by}
use Rattle.std.proofs.lemmas.Bool.{cases_eq, eq-eqb, ne_eqb}
use Rattle.std.proofs.lemmas.Bool.Decides.{nat_tests}
use Rattle.std.proofs.lemmas.List.{append-nil}
use Rattle.std.proofs.lemmas.List.Concat.{flat_map-append}
use Rattle.std.proofs.lemmas.List.FromFn.{length-map-range_with_len}
use Rattle.std.proofs.lemmas.List.Sums.{sum_by-append, sum_by-cons}
use Rattle.tk_problem.specs.declared.cell.Cell.{Cell}
use Rattle.tk_problem.specs.declared.weights.Format.{Format}
use Rattle.tk_problem.specs.declared.weights.Format.TheVariants.{FullMatrix, UpperRow, LowerRow, UpperDiagRow}
use Rattle.tk_problem.specs.declared.weights.Format.TheVariants.{LowerDiagRow, UpperCol, LowerCol, UpperDiagCol}
use Rattle.tk_problem.specs.declared.weights.Format.TheVariants.{LowerDiagCol}
use Rattle.tk_problem.specs.WeightOrder.{place, order, is_of, entry_count, times_written}
use Rattle.tk_problem.specs.WeightLines.{first_item, end_item, place_on, items}
use Rattle.tk_problem.proofs.WeightLines.{order-lines}
use Rattle.tk_problem.proofs.LowerTriangle.{pairs, pairs-suc, range_more}

-- ---- sums over lines

abbrev total : (ℕ → ℕ) → ℕ → ℕ
total v zero = 0
total v (suc c) = total v c + v c

pub flat_map-suc : (g : ℕ → List Cell) (c : ℕ) →
    flat_map g (range_with_len 0 (suc c)) ≡ flat_map g (range_with_len 0 c) ++ g c
flat_map-suc g c =
    let last : 0 + c ≡ c = omega arith in
    ap (flat_map g) (range_more 0 c) ∙ flat_map-append g (range_with_len 0 c) ((0 + c) ∷ [])
    ∙ ap (λ ps. flat_map g (range_with_len 0 c) ++ ps) (append-nil (g (0 + c)))
    ∙ ap (λ k. flat_map g (range_with_len 0 c) ++ g k) last

length-lines : (g : ℕ → List Cell) (c : ℕ) → length (flat_map g (range_with_len 0 c)) ≡ total (λ k. length (g k)) c
length-lines g zero = refl
length-lines g (suc c) = ap length (flat_map-suc g c) ∙ length-append (flat_map g (range_with_len 0 c)) (g c)
    ∙ ap (λ k. k + length (g c)) (length-lines g c)

count-lines : (p : Cell → Bool) (g : ℕ → List Cell) (c : ℕ) →
    count_by p (flat_map g (range_with_len 0 c)) ≡ total (λ k. count_by p (g k)) c
count-lines p g zero = refl
count-lines p g (suc c) =
    ap (count_by p) (flat_map-suc g c) ∙ sum_by-append (λ q. cond (p q) 1 0) (flat_map g (range_with_len 0 c)) (g c)
    ∙ ap (λ k. k + count_by p (g c)) (count-lines p g c)

total_none : (v : ℕ → ℕ) (c : ℕ) → ((k : ℕ) → k < c → v k ≡ 0) → total v c ≡ 0
total_none v zero none = refl
total_none v (suc c) none = omega (arith, total_none v c (λ k less. none k (omega arith)), none c (omega arith))

total_one : (v : ℕ → ℕ) (c r : ℕ) → r < c → v r ≡ 1 → ((k : ℕ) → k < c → k ≢ r → v k ≡ 0) → total v c ≡ 1
total_one v zero r inside one none = absurd (omega arith)
total_one v (suc c) r inside one none = elim (cases_eq c r) as (λ _. total v (suc c) ≡ 1) [
  | inl same ↦ omega (arith, total_none v c (λ k less. none k (omega arith) (λ e. omega arith)), ap v same)
  | inr apart ↦ omega (
    arith,
    total_one v c r (omega arith) one (λ k less. none k (omega arith)),
    none c (omega arith) apart,
  )
]

total_two : (v : ℕ → ℕ) (c i j : ℕ) → j < i → i < c → v i ≡ 1 → v j ≡ 1 → ((k : ℕ) → k ≢ i → k ≢ j → v k ≡ 0) →
    total v c ≡ 2
total_two v zero i j less inside one_i one_j none = absurd (omega arith)
total_two v (suc c) i j less inside one_i one_j none = elim (cases_eq c i) as (λ _. total v (suc c) ≡ 2) [
  | inl same ↦ omega
      (arith, total_one v c j (omega arith) one_j (λ k inside apart. none k (λ e. omega arith) apart), ap v same)
  | inr apart ↦ omega (arith, total_two v c i j less (omega arith) one_i one_j none, none c apart (λ e. omega arith))
]

-- a sum over lines, from the difference that each line makes
total_is : (v a b : ℕ → ℕ) (c : ℕ) → a 0 ≡ b 0 → ((k : ℕ) → k < c → v k + a (suc k) + b k ≡ a k + b (suc k)) →
    total v c + a c ≡ b c
total_is v a b zero start step = omega (arith, start)
total_is v a b (suc c) start step =
    omega (arith, total_is v a b c start (λ k less. step k (omega arith)), step c (omega arith))

-- ---- the number of entries

twice_pairs : (n : ℕ) → pairs n + pairs n + n ≡ n * n
twice_pairs zero = refl
twice_pairs (suc n) = omega (arith, twice_pairs n, pairs-suc n)

-- the length of an order, from the numbers of entries of its lines
order_is : (f : Format) (n : ℕ) (a b : ℕ → ℕ) → a 0 ≡ b 0
    → ((k : ℕ) → k < n → end_item f n k - first_item f k + a (suc k) + b k ≡ a k + b (suc k))
    → length (order f n) + a n ≡ b n
order_is f n a b start step =
    let lines = ap length (order-lines f n) ∙ length-lines (λ k. items f k (first_item f k) (end_item f n k)) n in
    let all = total_is (λ k. length (items f k (first_item f k) (end_item f n k))) a b n start (λ k less.
    omega (
      arith,
      step k less,
      length-map-range_with_len (place_on f k) (first_item f k) (end_item f n k - first_item f k),
    )) in
    omega (arith, lines, all)

-- formats whose lines are complete, end before the diagonal, begin after it, end on it or begin on it
full_count : (f : Format) (n : ℕ) → ((k : ℕ) → end_item f n k - first_item f k ≡ n) → length (order f n) ≡ n * n
full_count f n each =
    let all = order_is f n (λ c. 0) (λ c. c * n) (omega arith) (λ k less. omega (arith, each k)) in omega (arith, all)

below_count : (f : Format) (n : ℕ) → ((k : ℕ) → end_item f n k - first_item f k ≡ k) → length (order f n) ≡ pairs n
below_count f n each = omega (arith, order_is f n (λ c. 0) pairs refl (λ k less. omega (arith, pairs-suc k, each k)))

behind_count : (f : Format) (n : ℕ) → ((k : ℕ) → end_item f n k - first_item f k ≡ n - (k + 1)) →
    length (order f n) ≡ pairs n
behind_count f n each =
    let all = order_is f n (λ c. pairs c + c) (λ c. c * n) (omega arith) (λ k less.
    omega (arith, pairs-suc k, each k)) in
    omega (arith, all, twice_pairs n)

with_diagonal : (n : ℕ) → pairs n + n ≡ n * (n + 1) / 2
with_diagonal n =
    let e : suc n * (suc n - 1) ≡ n * (n + 1) = let less : suc n - 1 ≡ n = omega arith in rw less (omega arith) in
    sym (pairs-suc n) ∙ ap (λ x. x / 2) e

to_diagonal_count : (f : Format) (n : ℕ) → ((k : ℕ) → end_item f n k - first_item f k ≡ k + 1) →
    length (order f n) ≡ n * (n + 1) / 2
to_diagonal_count f n each =
    let all = order_is f n (λ c. 0) (λ c. pairs c + c) refl (λ k less. omega (arith, pairs-suc k, each k)) in
    omega (arith, all) ∙ with_diagonal n

from_diagonal_count : (f : Format) (n : ℕ) → ((k : ℕ) → end_item f n k - first_item f k ≡ n - k) →
    length (order f n) ≡ n * (n + 1) / 2
from_diagonal_count f n each =
    let all = order_is f n pairs (λ c. c * n) (omega arith) (λ k less. omega (arith, pairs-suc k, each k)) in
    omega (arith, all, twice_pairs n) ∙ with_diagonal n

pub length-order : (f : Format) (n : ℕ) → length (order f n) ≡ entry_count f n
length-order FullMatrix n = full_count FullMatrix n (λ k. omega arith)
length-order UpperRow n = behind_count UpperRow n (λ k. refl)
length-order LowerRow n = below_count LowerRow n (λ k. omega arith)
length-order UpperDiagRow n = from_diagonal_count UpperDiagRow n (λ k. refl)
length-order LowerDiagRow n = to_diagonal_count LowerDiagRow n (λ k. omega arith)
length-order UpperCol n = below_count UpperCol n (λ k. omega arith)
length-order LowerCol n = behind_count LowerCol n (λ k. refl)
length-order UpperDiagCol n = to_diagonal_count UpperDiagCol n (λ k. omega arith)
length-order LowerDiagCol n = from_diagonal_count LowerDiagCol n (λ k. refl)

-- ---- how often a pair is written

-- a line without an entry of the pair, and one whose only entry of the pair is at t
count_none : (p : Cell → Bool) (h : ℕ → Cell) (s c : ℕ) → ((m : ℕ) → s ≤ m → m < s + c → p (h m) ≡ false) →
    count_by p (map h (range_with_len s c)) ≡ 0
count_none p h s zero none = refl
count_none p h s (suc c) none =
    sum_by-cons (λ q. cond (p q) 1 0) (h s) (map h (range_with_len (s + 1) c))
    ∙ rw (none s (omega arith) (omega arith))
    (omega (arith, count_none p h (s + 1) c (λ m more less. none m (omega arith) (omega arith))))

count_one : (p : Cell → Bool) (h : ℕ → Cell) (s c t : ℕ) → s ≤ t → t < s + c → p (h t) ≡ true →
    ((m : ℕ) → m ≢ t → p (h m) ≡ false) → count_by p (map h (range_with_len s c)) ≡ 1
count_one p h s zero t low high one none = absurd (omega arith)
count_one p h s (suc c) t low high one none =
    elim (cases_eq s t) as (λ _. count_by p (map h (range_with_len s (suc c))) ≡ 1) [
      | inl same ↦
          let here : p (h s) ≡ true = ap (λ m. p (h m)) same ∙ one in
          sum_by-cons (λ q. cond (p q) 1 0) (h s) (map h (range_with_len (s + 1) c))
          ∙ rw here (omega (arith, count_none p h (s + 1) c (λ m more less. none m (λ e. omega arith))))
      | inr apart ↦
          sum_by-cons (λ q. cond (p q) 1 0) (h s) (map h (range_with_len (s + 1) c))
          ∙ rw (none s apart) (omega (arith, count_one p h (s + 1) c t (omega arith) (omega arith) one none))
    ]

-- the item of a line that belongs to the pair: j in line i, i in line j, none in other lines
in_line_i : (i j m : ℕ) → j < i → is_of i j (place i m) ≡ eqb m j
in_line_i i j m less = grind (arith, nat_tests)

in_line_j : (i j m : ℕ) → j < i → is_of i j (place j m) ≡ eqb m i
in_line_j i j m less = grind (arith, nat_tests)

in_other_line : (i j k m : ℕ) → k ≢ i → k ≢ j → is_of i j (place k m) ≡ false
in_other_line i j k m apart_i apart_j = grind (arith, nat_tests)

in_column : (i j k m : ℕ) → is_of i j (place m k) ≡ is_of i j (place k m)
in_column i j k m = grind (arith, nat_tests)

in_line : (f : Format) (i j k m : ℕ) → is_of i j (place_on f k m) ≡ is_of i j (place k m)
in_line UpperCol i j k m = in_column i j k m
in_line LowerCol i j k m = in_column i j k m
in_line UpperDiagCol i j k m = in_column i j k m
in_line LowerDiagCol i j k m = in_column i j k m
in_line _ i j k m = refl

abbrev count_in : Format → ℕ → ℕ → ℕ → ℕ → ℕ
count_in f n i j k = count_by (is_of i j) (items f k (first_item f k) (end_item f n k))

-- the item of line k that belongs to the pair is t, if the line has an entry there
abbrev IsAt : ℕ → ℕ → ℕ → ℕ → Type 0
IsAt i j k t = (m : ℕ) → is_of i j (place k m) ≡ eqb m t

hit : (f : Format) (n i j k t : ℕ) → IsAt i j k t → first_item f k ≤ t → t < end_item f n k → count_in f n i j k ≡ 1
hit f n i j k t at low high =
    count_one (is_of i j) (place_on f k) (first_item f k) (end_item f n k - first_item f k) t low (omega arith)
    (in_line f i j k t ∙ at t ∙ eq-eqb t t refl) (λ m apart. in_line f i j k m ∙ at m ∙ ne_eqb m t apart)

miss : (f : Format) (n i j k t : ℕ) → IsAt i j k t → ((m : ℕ) → first_item f k ≤ m → m < end_item f n k → m ≢ t) →
    count_in f n i j k ≡ 0
miss f n i j k t at apart =
    count_none (is_of i j) (place_on f k) (first_item f k) (end_item f n k - first_item f k)
    (λ m low high. in_line f i j k m ∙ at m ∙ ne_eqb m t (apart m low (omega arith)))

other : (f : Format) (n i j k : ℕ) → k ≢ i → k ≢ j → count_in f n i j k ≡ 0
other f n i j k apart_i apart_j =
    count_none (is_of i j) (place_on f k) (first_item f k) (end_item f n k - first_item f k)
    (λ m low high. in_line f i j k m ∙ in_other_line i j k m apart_i apart_j)

count-order : (f : Format) (n i j : ℕ) → count_by (is_of i j) (order f n) ≡ total (count_in f n i j) n
count-order f n i j = ap (count_by (is_of i j)) (order-lines f n)
    ∙ count-lines (is_of i j) (λ k. items f k (first_item f k) (end_item f n k)) n

-- of the lines r and s, only r contains the pair
once : (f : Format) (n i j r s : ℕ) → r < n → count_in f n i j r ≡ 1 → count_in f n i j s ≡ 0 →
    ((k : ℕ) → k ≢ r → k ≢ s → count_in f n i j k ≡ 0) → count_by (is_of i j) (order f n) ≡ 1
once f n i j r s inside here not_s others =
    count-order f n i j
    ∙ total_one (count_in f n i j) n r inside here
    (λ k _ apart. elim (cases_eq k s) as (λ _. count_in f n i j k ≡ 0) [
      | inl same ↦ ap (count_in f n i j) same ∙ not_s
      | inr apart_s ↦ others k apart apart_s
    ])

once_in_j : (f : Format) (n i j : ℕ) → j < i → i < n → first_item f j ≤ i → i < end_item f n j → j < first_item f i →
    count_by (is_of i j) (order f n) ≡ 1
once_in_j f n i j less inside low high behind =
    once f n i j j i (omega arith) (hit f n i j j i (λ m. in_line_j i j m less) low high)
    (miss f n i j i j (λ m. in_line_i i j m less) (λ m from _ e. omega arith)) (λ k apart_j apart_i.
    other f n i j k apart_i apart_j)

once_in_i : (f : Format) (n i j : ℕ) → j < i → i < n → first_item f i ≤ j → j < end_item f n i → end_item f n j ≤ i →
    count_by (is_of i j) (order f n) ≡ 1
once_in_i f n i j less inside low high before =
    once f n i j i j inside (hit f n i j i j (λ m. in_line_i i j m less) low high)
    (miss f n i j j i (λ m. in_line_j i j m less) (λ m _ to e. omega arith)) (other f n i j)

pub pair-order : (f : Format) (n i j : ℕ) → j < i → i < n → count_by (is_of i j) (order f n) ≡ times_written f
pair-order FullMatrix n i j less inside =
    count-order FullMatrix n i j
    ∙ total_two (count_in FullMatrix n i j) n i j less inside
    (hit FullMatrix n i j i j (λ m. in_line_i i j m less) (omega arith) (omega arith))
    (hit FullMatrix n i j j i (λ m. in_line_j i j m less) (omega arith) inside)
    (λ k apart_i apart_j. other FullMatrix n i j k apart_i apart_j)
pair-order UpperRow n i j less inside = once_in_j UpperRow n i j less inside (omega arith) inside (omega arith)
pair-order LowerRow n i j less inside = once_in_i LowerRow n i j less inside (omega arith) less (omega arith)
pair-order UpperDiagRow n i j less inside = once_in_j UpperDiagRow n i j less inside (omega arith) inside less
pair-order LowerDiagRow n i j less inside =
    once_in_i LowerDiagRow n i j less inside (omega arith) (omega arith) (omega arith)
pair-order UpperCol n i j less inside = once_in_i UpperCol n i j less inside (omega arith) less (omega arith)
pair-order LowerCol n i j less inside = once_in_j LowerCol n i j less inside (omega arith) inside (omega arith)
pair-order UpperDiagCol n i j less inside =
    once_in_i UpperDiagCol n i j less inside (omega arith) (omega arith) (omega arith)
pair-order LowerDiagCol n i j less inside = once_in_j LowerDiagCol n i j less inside (omega arith) inside less
