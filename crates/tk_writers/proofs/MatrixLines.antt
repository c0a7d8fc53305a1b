-- Laws of the lines of a matrix text.
use Rattle.std.proofs.Common.{◌≡◌, ℕ, zero, suc, ◌+◌, ◌-◌, ◌<◌, ◌≤◌, Bool, true, false, List, [], ◌∷◌, ◌++◌, refl, sym}
use Rattle.std.proofs.Common.{ap, ◌∙◌, arith, append_assoc, append-nil, map-id}
use Rattle.std.specs.Prelude.{filter, map, flat_map, codes, decimal, nat_lt, nat_le}
use Rattle.std.proofs.lemmas.Bool.{lt-ltb, le-ltb, le-leb, lt-leb}
use Rattle.std.proofs.lemmas.List.{map-append}
use Rattle.std.proofs.lemmas.List.FromFn.{map-range_with_len_more}
use Rattle.std.proofs.lemmas.Grind.{flat_map-append}
use Rattle.std.specs.List.{range_with_len}
use Rattle.tk_writers.specs.FormatLines.{has_place, entry_place, on_line}
use Rattle.tk_problem.specs.WeightWords.{format_word}
use Rattle.tk_writers.specs.MatrixText.{matrix_head, matrix_line}
use Rattle.tk_problem.specs.declared.weights.Format.{Format}

filter_none : (p : ℕ → Bool) (a n : ℕ) → ((m : ℕ) → a ≤ m → p m ≡ false) → filter p (range_with_len a n) ≡ []
filter_none p a zero fails = refl
filter_none p a (suc n) fails = rw (fails a (omega arith)) (filter_none p (a + 1) n (λ m h. fails m (omega arith)))

-- a test that passes just the first numbers of a range
filter_front : (p : ℕ → Bool) (a n count : ℕ) → count ≤ n → ((m : ℕ) → a ≤ m → m < a + count → p m ≡ true)
    → ((m : ℕ) → a + count ≤ m → p m ≡ false)
    → filter p (range_with_len a n) ≡ range_with_len a count
filter_front p a n zero fits passes fails = filter_none p a n (λ m h. fails m (omega arith))
filter_front p a zero (suc count) fits passes fails = absurd (omega arith)
filter_front p a (suc n) (suc count) fits passes fails =
    rw (passes a (omega arith) (omega arith))
    (ap (λ l. a ∷ l) (filter_front p (a + 1) n count (omega arith) (λ m h k. passes m (omega arith) (omega arith))
    (λ m h. fails m (omega arith))))

filter_all : (p : ℕ → Bool) (a n : ℕ) → ((m : ℕ) → a ≤ m → p m ≡ true) →
    filter p (range_with_len a n) ≡ range_with_len a n
filter_all p a zero passes = refl
filter_all p a (suc n) passes =
    rw (passes a (omega arith)) (ap (λ l. a ∷ l) (filter_all p (a + 1) n (λ m h. passes m (omega arith))))

-- a test that passes just the last numbers of a range
filter_back : (p : ℕ → Bool) (a n skip count : ℕ) → n ≡ skip + count → ((m : ℕ) → a ≤ m → m < a + skip → p m ≡ false)
    → ((m : ℕ) → a + skip ≤ m → p m ≡ true)
    → filter p (range_with_len a n) ≡ range_with_len (a + skip) count
filter_back p a n zero count fits fails passes =
    let e : n ≡ count = omega arith in
    let f : a + 0 ≡ a = omega arith in
    rw (e, f) (filter_all p a count (λ m h. passes m (omega arith)))
filter_back p a zero (suc skip) count fits fails passes = absurd (omega arith)
filter_back p a (suc n) (suc skip) count fits fails passes =
    let f : a + suc skip ≡ (a + 1) + skip = omega arith in
    rw (fails a (omega arith) (omega arith), f)
    (filter_back p (a + 1) n skip count (omega arith) (λ m h k. fails m (omega arith) (omega arith))
    (λ m h. passes m (omega arith)))

-- the places of each line stand in a row
pub on_line-from_k : (n k : ℕ) (f : Format) → ((m : ℕ) → has_place f k m ≡ nat_le k m) →
    1 ≤ k → k ≤ n → on_line n f k ≡ range_with_len k (n + 1 - k)
on_line-from_k n k f is low high =
    let e : 1 + (k - 1) ≡ k = omega arith in
    let back = filter_back (has_place f k) 1 n (k - 1) (n + 1 - k) (omega arith)
    (λ m h l. is m ∙ lt-leb k m (omega arith)) (λ m h. is m ∙ le-leb k m (omega arith)) in
    back ∙ ap (λ a. range_with_len a (n + 1 - k)) e

pub on_line-behind_k : (n k : ℕ) (f : Format) → ((m : ℕ) → has_place f k m ≡ nat_lt k m) →
    1 ≤ k → k ≤ n → on_line n f k ≡ range_with_len (k + 1) (n + 1 - (k + 1))
on_line-behind_k n k f is low high =
    let e : 1 + k ≡ k + 1 = omega arith in
    let back = filter_back (has_place f k) 1 n k (n + 1 - (k + 1)) (omega arith)
    (λ m h l. is m ∙ le-ltb k m (omega arith)) (λ m h. is m ∙ lt-ltb k m (omega arith)) in
    back ∙ ap (λ a. range_with_len a (n + 1 - (k + 1))) e

pub on_line-to_k : (n k : ℕ) (f : Format) → ((m : ℕ) → has_place f k m ≡ nat_le m k) →
    1 ≤ k → k ≤ n → on_line n f k ≡ range_with_len 1 (k + 1 - 1)
on_line-to_k n k f is low high =
    filter_front (has_place f k) 1 n (k + 1 - 1) (omega arith)
    (λ m h l. is m ∙ le-leb m k (omega arith)) (λ m h. is m ∙ lt-leb m k (omega arith))

pub on_line-before_k : (n k : ℕ) (f : Format) → ((m : ℕ) → has_place f k m ≡ nat_lt m k) →
    1 ≤ k → k ≤ n → on_line n f k ≡ range_with_len 1 (k - 1)
on_line-before_k n k f is low high =
    filter_front (has_place f k) 1 n (k - 1) (omega arith)
    (λ m h l. is m ∙ lt-ltb m k (omega arith)) (λ m h. is m ∙ le-ltb m k (omega arith))

pub on_line-all : (n k : ℕ) (f : Format) → ((m : ℕ) → has_place f k m ≡ true) →
    on_line n f k ≡ range_with_len 1 (n + 1 - 1)
on_line-all n k f is =
    let e : n + 1 - 1 ≡ n = omega arith in
    rw e (filter_all (has_place f k) 1 n (λ m h. is m))

-- the numbers at places of line k
abbrev pub numbers_at : (ℕ → ℕ → ℕ) → Format → ℕ → List ℕ → List ℕ
numbers_at table f k ms = map (λ p. table p.0 p.1) (map (entry_place f k) ms)

-- and each with a space before it
abbrev pub spaced : (ℕ → ℕ → ℕ) → Format → ℕ → List ℕ → List ℕ
spaced table f k ms = flat_map (λ x. codes " " ++ decimal x) (numbers_at table f k ms)

pub spaced_more : (table : ℕ → ℕ → ℕ) (f : Format) (k a m : ℕ) → a ≤ m
    → spaced table f k (range_with_len a (m + 1 - a)) ≡ spaced table f k (range_with_len a (m - a))
    ++ (codes " " ++ decimal (table (entry_place f k m).0 (entry_place f k m).1))
spaced_more table f k a m low =
    let n = m - a in
    let e : m + 1 - a ≡ n + 1 = omega arith in
    let more = map-range_with_len_more (entry_place f k) a n m (omega arith) in
    rw (e, more, map-append, flat_map-append, append-nil) refl

-- the pieces of the lines before the entries
line_ends : (a name b num c word d : List ℕ)
    → a ++ (name ++ ((10 ∷ b) ++ (num ++ ((10 ∷ c) ++ (word ++ (10 ∷ d)))))) ≡ a
    ++ ((name ++ 10 ∷ []) ++ (b ++ ((num ++ 10 ∷ []) ++ (c ++ ((word ++ 10 ∷ []) ++ d)))))
line_ends a name b num c word d = simp append_assoc

pub matrix_head-pieces : (name : List ℕ) (n : ℕ) (f : Format) (word : List ℕ) → word ≡ format_word f
    → codes "NAME : " ++ (name ++ ((10 ∷ codes "TYPE : TSP" ++ 10 ∷ codes "DIMENSION : ") ++ (decimal n ++
    ((10 ∷ codes "EDGE_WEIGHT_TYPE : EXPLICIT" ++ 10 ∷ codes "EDGE_WEIGHT_FORMAT : ")
    ++ (word ++ (10 ∷ codes "EDGE_WEIGHT_SECTION" ++ 10 ∷ [])))))) ≡ matrix_head name n f
matrix_head-pieces name n f word is = rw is
    (line_ends (codes "NAME : ") name (codes "TYPE : TSP" ++ 10 ∷ codes "DIMENSION : ") (decimal n)
    (codes "EDGE_WEIGHT_TYPE : EXPLICIT" ++ 10 ∷ codes "EDGE_WEIGHT_FORMAT : ") (format_word f)
    (codes "EDGE_WEIGHT_SECTION" ++ 10 ∷ []))

-- a line that has places: its first number, the others with a space before each, and the end
pub matrix_line-parts : (table : ℕ → ℕ → ℕ) (f : Format) (n k first end : ℕ)
    → on_line n f k ≡ range_with_len first (end - first) → first < end
    → decimal (table (entry_place f k first).0 (entry_place f k first).1)
    ++ (spaced table f k (range_with_len (first + 1) (end - (first + 1))) ++ 10 ∷ []) ≡ matrix_line n table f k
matrix_line-parts table f n k first end places some =
    let e : end - first ≡ suc (end - (first + 1)) = omega arith in
    rw (places, e, append_assoc) refl

range_more : (a n : ℕ) → range_with_len a (n + 1) ≡ range_with_len a n ++ (a + n) ∷ []
range_more a n = sym (map-id (range_with_len a (n + 1))) ∙ map-range_with_len_more (λ x. x) a n (a + n) refl
    ∙ ap (λ l. l ++ (a + n) ∷ []) (map-id (range_with_len a n))

pub lines_more : (line_at : ℕ → List ℕ) (k : ℕ) → 1 ≤ k →
    flat_map line_at (range_with_len 1 (k + 1 - 1)) ≡ flat_map line_at (range_with_len 1 (k - 1)) ++ line_at k
lines_more line_at k low =
    let e : k + 1 - 1 ≡ (k - 1) + 1 = omega arith in
    let f : 1 + (k - 1) ≡ k = omega arith in
    rw (e, range_more 1 (k - 1), f, flat_map-append, append-nil) refl
