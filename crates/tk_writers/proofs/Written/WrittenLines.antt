-- Lines as they are written: their tokens, and what of them a section covers.
use Rattle.std.proofs.Common.{◌≡◌, ℕ, suc, ◌≤◌, true, List, [], ◌∷◌, ◌++◌, length, map, Some, pos, refl, sym, ap, ◌∙◌}
use Rattle.std.proofs.Common.{append_assoc, arith}
use Rattle.std.specs.Prelude.{flat_map}
use Rattle.std.specs.List.{AllByRecursion, AllZip}
use Rattle.tk_words.specs.Lex.{LF, Line, Token, onto_line, lines, tokens, integer}
use Rattle.tk_lines.specs.Pieces.{Piece, Extents, cut, last_line}
use Rattle.tk_writers.specs.MatrixText.{number_line}
use Rattle.tk_problem_text.specs.Sections.Rows.{number_in}
use Rattle.tk_words.specs.Entry.{natural_or_zero, numbers_of}
use Rattle.tk_writers.specs.Written.{line, spaced_numbers}
use Rattle.tk_lines.proofs.MiddleOfLine.{lines-byte, lines-LF}
use Rattle.tk_lines.proofs.Sections.MiddleOfSection.{cut-covered}
use Rattle.tk_lines.proofs.Sections.SectionEnds.{last_line-append}
use Rattle.tk_lines.proofs.KnownWordLines.{OnOneLine}
use Rattle.tk_writers.proofs.Written.WrittenNumbers.{AllShort, number_token, numbers_line, numbers_tokens}
use Rattle.tk_writers.proofs.Written.WrittenNumbers.{integer_decimal, short_decimal}

abbrev pub whole_line : ℕ → List ℕ → Line
whole_line n bs = record { number = n; bytes = bs; whole = true }

lines-first : (n : ℕ) (bs rest : List ℕ) → OnOneLine bs → lines true n (bs ++ LF ∷ rest) ≡ whole_line n bs
    ∷ lines true (suc n) rest
lines-first n [] rest h = lines-LF true n rest
lines-first n (b ∷ bs) rest h = lines-byte true n b (bs ++ LF ∷ rest) h.0 ∙ ap (onto_line b) (lines-first n bs rest h.1)

pub lines-written : (n : ℕ) (bs rest : List ℕ) → OnOneLine bs → lines true n (line bs ++ rest) ≡ whole_line n bs
    ∷ lines true (suc n) rest
lines-written n bs rest h = ap (lines true n) (append_assoc bs (LF ∷ []) rest) ∙ lines-first n bs rest h

-- ---- rows of numbers, each on a line of its own where it has some

abbrev pub next_line : ℕ → List (List ℕ) → ℕ
next_line n [] = n
next_line n ([] ∷ rows) = next_line n rows
next_line n ((x ∷ xs) ∷ rows) = next_line (suc n) rows

abbrev pub row_lines : ℕ → List (List ℕ) → List Line
row_lines n [] = []
row_lines n ([] ∷ rows) = row_lines n rows
row_lines n ((x ∷ xs) ∷ rows) = whole_line n (spaced_numbers (x ∷ xs)) ∷ row_lines (suc n) rows

abbrev pub row_tokens : ℕ → List (List ℕ) → List Token
row_tokens n [] = []
row_tokens n ([] ∷ rows) = row_tokens n rows
row_tokens n ((x ∷ xs) ∷ rows) = map (number_token n) (x ∷ xs) ++ row_tokens (suc n) rows

abbrev pub in_rows : List (List ℕ) → List ℕ
in_rows rows = flat_map (λ xs. xs) rows

abbrev pub ShortRows : List (List ℕ) → Type 0
ShortRows rows = AllByRecursion AllShort rows

pub lines-rows : (n : ℕ) (rows : List (List ℕ)) (rest : List ℕ) → ShortRows rows →
    lines true n (flat_map number_line rows ++ rest) ≡ row_lines n rows ++ lines true (next_line n rows) rest
lines-rows n [] rest small = refl
lines-rows n ([] ∷ rows) rest small = lines-rows n rows rest small.1
lines-rows n ((x ∷ xs) ∷ rows) rest small =
    ap (lines true n) (append_assoc (number_line (x ∷ xs)) (flat_map number_line rows) rest)
    ∙ lines-written n (spaced_numbers (x ∷ xs)) (flat_map number_line rows ++ rest) (numbers_line x xs small.0)
    ∙ ap (λ (ls : List Line). whole_line n (spaced_numbers (x ∷ xs)) ∷ ls) (lines-rows (suc n) rows rest small.1)

pub tokens-rows : (n : ℕ) (rows : List (List ℕ)) (ls : List Line) → ShortRows rows →
    tokens (row_lines n rows ++ ls) ≡ row_tokens n rows ++ tokens ls
tokens-rows n [] ls small = refl
tokens-rows n ([] ∷ rows) ls small = tokens-rows n rows ls small.1
tokens-rows n ((x ∷ xs) ∷ rows) ls small =
    let first = numbers_tokens n x xs small.0 in
    ap (λ (ts : List Token). ts ++ tokens (row_lines (suc n) rows ++ ls)) first
    ∙ ap (λ (ts : List Token). map (number_token n) (x ∷ xs) ++ ts) (tokens-rows (suc n) rows ls small.1)
    ∙ sym (append_assoc (map (number_token n) (x ∷ xs)) (row_tokens (suc n) rows) (tokens ls))

last_in_row : (n : ℕ) (xs : List ℕ) → last_line n (map (number_token n) xs) ≡ n
last_in_row n [] = refl
last_in_row n (x ∷ xs) = last_in_row n xs

-- the last line of the rows is the one before the next
pub last_of_rows : (n : ℕ) (rows : List (List ℕ)) → suc (last_line n (row_tokens (suc n) rows)) ≡ next_line (suc n) rows
last_of_rows n [] = refl
last_of_rows n ([] ∷ rows) = last_of_rows n rows
last_of_rows n ((x ∷ xs) ∷ rows) =
    ap suc (last_line-append n (map (number_token (suc n)) (x ∷ xs)) (row_tokens (suc (suc n)) rows)
    ∙ ap (λ m. last_line m (row_tokens (suc (suc n)) rows)) (last_in_row (suc n) xs))
    ∙ last_of_rows (suc n) rows

next_line-ge : (n : ℕ) (rows : List (List ℕ)) → n ≤ next_line n rows
next_line-ge n [] = omega arith
next_line-ge n ([] ∷ rows) = next_line-ge n rows
next_line-ge n ((x ∷ xs) ∷ rows) = omega (arith, next_line-ge (suc n) rows)

-- lines that a section covers begin nothing
pub cut-rows : (extent : Extents) (before : List Piece) (upto n : ℕ) (rows : List (List ℕ)) (ls : List Line) →
    next_line n rows ≤ suc upto → cut extent before upto (row_lines n rows ++ ls) ≡ cut extent before upto ls
cut-rows extent before upto n [] ls covered = refl
cut-rows extent before upto n ([] ∷ rows) ls covered = cut-rows extent before upto n rows ls covered
cut-rows extent before upto n ((x ∷ xs) ∷ rows) ls covered =
    cut-covered extent before upto (whole_line n (spaced_numbers (x ∷ xs))) (row_lines (suc n) rows ++ ls)
    (omega (arith, next_line-ge (suc n) rows))
    ∙ cut-rows extent before upto (suc n) rows ls covered

-- ---- the tokens and the numbers

-- a token of a number
pub record IsWritten (t : Token) (x : ℕ) : Type 0 where
  pub whole : t.whole ≡ true
  pub short : length t.bytes ≤ 64
  pub is : integer t.bytes ≡ Some (pos x)

abbrev pub AreWritten : List Token → List ℕ → Type 0
AreWritten ts xs = AllZip IsWritten ts xs

are_append : (ts : List Token) (xs : List ℕ) (us : List Token) (ys : List ℕ) → AreWritten ts xs → AreWritten us ys →
    AreWritten (ts ++ us) (xs ++ ys)
are_append [] [] us ys h k = k
are_append (t ∷ ts) (x ∷ xs) us ys h k = (h.0, are_append ts xs us ys h.1 k)
are_append _ _ us ys h k = absurd h

pub row_written : (n : ℕ) (xs : List ℕ) → AllShort xs → AreWritten (map (number_token n) xs) xs
row_written n [] small = tt
row_written n (x ∷ xs) small = (
  record { whole = refl; short = omega (arith, short_decimal x small.0); is = integer_decimal x small.0 },
  row_written n xs small.1,
)

pub rows_written : (n : ℕ) (rows : List (List ℕ)) → ShortRows rows → AreWritten (row_tokens n rows) (in_rows rows)
rows_written n [] small = tt
rows_written n ([] ∷ rows) small = rows_written n rows small.1
rows_written n ((x ∷ xs) ∷ rows) small = are_append (map (number_token n) (x ∷ xs)) (x ∷ xs) (row_tokens (suc n) rows)
    (in_rows rows) (row_written n (x ∷ xs) small.0) (rows_written (suc n) rows small.1)

pub numbers_are : (ts : List Token) (xs : List ℕ) → AreWritten ts xs → numbers_of ts ≡ xs
numbers_are [] [] h = refl
numbers_are (t ∷ ts) (x ∷ xs) h =
    let first : natural_or_zero (integer t.bytes) ≡ x = ap natural_or_zero h.0.is in
    ap (λ k. k ∷ numbers_of ts) first ∙ ap (λ (ks : List ℕ). x ∷ ks) (numbers_are ts xs h.1)
numbers_are _ _ h = absurd h

pub numbers_written : (ts : List Token) (xs : List ℕ) → AreWritten ts xs → map number_in ts ≡ xs
numbers_written ts xs h = each ts ∙ numbers_are ts xs h
  where
    each : (ts : List Token) → map number_in ts ≡ numbers_of ts
    each [] = refl
    each (t ∷ ts) = ap (λ ks. number_in t ∷ ks) (each ts)
