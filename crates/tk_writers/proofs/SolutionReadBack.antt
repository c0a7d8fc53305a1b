-- A solution text that is written is read as the routes and the cost that it was written of.
use Rattle.std.proofs.Common.{◌≡◌, ℕ, suc, ◌+◌, ◌<◌, ◌≤◌, Bool, true, false, eqb, leb, ltb, List, [], ◌∷◌, ◌++◌, length}
use Rattle.std.proofs.Common.{map, Some, None, Ok, pos, refl, sym, ap, ◌∙◌, append_assoc, arith}
use Rattle.std.specs.Prelude.{codes, decimal}
use Rattle.std.specs.Char.{is_ascii_digit}
use Rattle.std.specs.List.{AllByRecursion, concat}
use Rattle.std.proofs.lemmas.Bool.{lt-leb, le-leb, le-ltb, ne_eqb}
use Rattle.std.proofs.lemmas.List.{append-nil, length-append, length-map}
use Rattle.tk_problem.specs.declared.limits.TheConstants.{ENTRY_LIMIT, ROUTE_LIMIT}
use Rattle.tk_words.specs.Lex.{Line, Token, lines, tokens_of, after_word, is_empty, front, behind}
use Rattle.tk_words.specs.Entry.{numbers_of}
use Rattle.tk_writers.specs.Written.{line, spaced_numbers}
use Rattle.tk_writers.specs.SolutionWritten.{written_routes, solution_text}
use Rattle.tk_lists.specs.Solution.{Behind, route_line, number_head, SolutionLine, Route, Cost, Empty, routes_in}
use Rattle.tk_lists.specs.Solution.{count_of, has_cost, cost_of, customers_stop, line_of, line_stop, judge_lines}
use Rattle.tk_lists.specs.Solution.{solution_decided, solution_texts}
use Rattle.tk_writers.specs.ReadBack.{IsSolution, SolutionReadsBack}
use Rattle.tk_lines.proofs.Headers.ByteRuns.{front-all, behind-all}
use Rattle.tk_lines.proofs.Sections.MiddleOfSection.{tokens_of-gap, tokens_of-none, tokens_of-last}
use Rattle.tk_lists.proofs.SolutionLines.{routes_of-append, count_of-append, has_cost-append, cost_of-append}
use Rattle.tk_writers.proofs.Lengths.ListLength.{length_solution_text}
use Rattle.tk_writers.proofs.WrittenLines.{one_line, read_within}
use Rattle.tk_writers.proofs.Written.WrittenLines.{whole_line, lines-written, row_written, numbers_are}
use Rattle.tk_writers.proofs.Written.WrittenNumbers.{IsDigit, is_digit, digit_apart, digit_solid, spelled, IsShort}
use Rattle.tk_writers.proofs.Written.WrittenNumbers.{short_decimal, integer_decimal, decimal_run, decimal_line}
use Rattle.tk_writers.proofs.Written.WrittenNumbers.{one_line_append, AllShort, numbers_line, numbers_tokens}
use Rattle.tk_writers.proofs.Written.WrittenNumbers.{number_token}
use Rattle.tk_lines.proofs.KnownWordLines.{OnOneLine}

-- ---- the lines

abbrev Small : List ℕ → Type 0
Small xs = AllByRecursion (λ customer. customer ≤ 4294967295) xs

short_all : (xs : List ℕ) → Small xs → AllShort xs
short_all [] h = tt
short_all (x ∷ xs) h = (omega (arith, h.0), short_all xs h.1)

all_digits : (ds : List ℕ) → AllByRecursion IsDigit ds → behind is_ascii_digit ds ≡ []
all_digits [] h = refl
all_digits (d ∷ ds) h = rw (is_digit d h.0) (all_digits ds h.1)

-- the head of a line, whose number is written without a sign
number_ends : (ds tail : List ℕ) → AllByRecursion IsDigit ds → is_empty ds ≡ false → length ds ≤ 18 →
    number_head (ds ++ 58 ∷ tail) ≡ Behind tail
number_ends [] tail all some few = absurd cc
number_ends (d ∷ ds) tail all some few =
    let apart : (k : ℕ) → k < 48 → eqb d k ≡ false = λ k low. digit_apart d k all.0 low in
    let run = all_digits (d ∷ ds) all in
    let f : front is_ascii_digit ((d ∷ ds) ++ 58 ∷ tail) ≡ d ∷ ds = front-all is_ascii_digit (d ∷ ds) (58 ∷ tail) run
    ∙ append-nil (d ∷ ds) in
    let r : behind is_ascii_digit ((d ∷ ds) ++ 58 ∷ tail) ≡ 58 ∷ tail =
    behind-all is_ascii_digit (d ∷ ds) (58 ∷ tail) run in
    let short : ltb 18 (0 + length (d ∷ ds)) ≡ false = le-ltb _ _ (omega (arith, few)) in
    let count : eqb (0 + length (d ∷ ds)) 0 ≡ false = ne_eqb (0 + length (d ∷ ds)) 0 (λ e. omega (arith, e)) in
    rw (apart 32 (omega arith), apart 9 (omega arith), apart 13 (omega arith)) (
    rw (apart 43 (omega arith), apart 45 (omega arith), f, r, short, count) refl)

abbrev route_bytes : ℕ → List ℕ → List ℕ
route_bytes k r = codes "Route #" ++ decimal k ++ codes ": " ++ spaced_numbers r

abbrev tokens_on : ℕ → List ℕ → List Token
tokens_on n r = map (number_token n) r

customers_written : (n : ℕ) (r : List ℕ) → Small r → tokens_of true n (32 ∷ spaced_numbers r) ≡ tokens_on n r
customers_written n [] small = tokens_of-gap true n 32 [] refl ∙ tokens_of-none true n
customers_written n (x ∷ xs) small = tokens_of-gap true n 32 (spaced_numbers (x ∷ xs)) refl
    ∙ numbers_tokens n x xs (short_all (x ∷ xs) small)

route_written : (n k : ℕ) (r : List ℕ) → IsShort k → Small r → line_of n true (route_bytes k r) ≡ Route (tokens_on n r)
route_written n k r low small =
    let s = spelled k low in
    ap (λ (x : List ℕ). route_line n true (number_head x)) (append_assoc (decimal k) (58 ∷ 32 ∷ []) (spaced_numbers r))
    ∙ ap (route_line n true) (number_ends (decimal k) (32 ∷ spaced_numbers r) s.all s.some (short_decimal k low))
    ∙ ap Route (customers_written n r small)

behind_space : (ds : List ℕ) → AllByRecursion IsDigit ds → is_empty ds ≡ false → after_word (32 ∷ ds) ≡ ds
behind_space [] all some = absurd cc
behind_space (d ∷ ds) all some =
    let colon : eqb d 58 ≡ false = ne_eqb d 58 (λ e. omega (arith, e, all.0.1)) in
    rw (digit_solid d all.0, colon) refl

cost_written : (n c : ℕ) → IsShort c → line_of n true (codes "Cost " ++ decimal c) ≡ Cost (number_token n c ∷ [])
cost_written n c low = let s = spelled c low in
    rw (behind_space (decimal c) s.all s.some, tokens_of-last n (decimal c) (decimal_run c low)) refl

last_line : (n c : ℕ) → IsShort c →
    lines true n (line (codes "Cost " ++ decimal c)) ≡ whole_line n (codes "Cost " ++ decimal c)
    ∷ whole_line (suc n) [] ∷ []
unfolding lines
last_line n c low =
    ap (lines true n) (sym (append-nil (line (codes "Cost " ++ decimal c))))
    ∙ lines-written n (codes "Cost " ++ decimal c) []
    (one_line_append (codes "Cost ") (decimal c) (one_line (codes "Cost ") refl) (decimal_line c low))

route_one_line : (k : ℕ) (r : List ℕ) → IsShort k → Small r → OnOneLine (route_bytes k r)
route_one_line k r low small =
    one_line_append (codes "Route #" ++ decimal k ++ codes ": ") (spaced_numbers r)
    (one_line_append (codes "Route #" ++ decimal k) (codes ": ")
    (one_line_append (codes "Route #") (decimal k) (one_line (codes "Route #") refl) (decimal_line k low))
    (one_line (codes ": ") refl)) (numbers r small)
  where
    numbers : (r : List ℕ) → Small r → OnOneLine (spaced_numbers r)
    numbers [] small = tt
    numbers (x ∷ xs) small = numbers_line x xs (short_all (x ∷ xs) small)

-- ---- nothing stops

numbers_read : (n : ℕ) (r : List ℕ) → Small r → numbers_of (tokens_on n r) ≡ r
numbers_read n r small = numbers_are (tokens_on n r) r (row_written n r (short_all r small))

customers_fine : (k n : ℕ) (r : List ℕ) → Small r → k + length r ≤ ENTRY_LIMIT → customers_stop k (tokens_on n r) ≡ None
customers_fine k n [] small few = refl
customers_fine k n (x ∷ xs) small few =
    let low : IsShort x = omega (arith, small.0) in
    let short : ltb 64 (length (decimal x)) ≡ false = le-ltb _ _ (omega (arith, short_decimal x low)) in
    let a : leb 0 x ≡ true = le-leb _ _ (omega arith) in
    let b : leb x 4294967295 ≡ true = le-leb _ _ small.0 in
    let c : leb ENTRY_LIMIT k ≡ false = lt-leb _ _ (omega (arith, few)) in
    rw (short, integer_decimal x low, a, b, c) (customers_fine (suc k) n xs small.1 (omega (arith, few)))

-- ---- the whole text

-- a line at which nothing stops
judged : (before : List SolutionLine) (m n : ℕ) (w : Bool) (bs : List ℕ) (ls : List Line) (here : SolutionLine) →
    line_of n true bs ≡ here → line_stop before n true here ≡ None →
    judge_lines before m w (whole_line n bs ∷ ls) ≡ judge_lines (before ++ here ∷ []) n true ls
unfolding judge_lines
judged before m n w bs ls here is none = rw (is, none) refl

module _ (c : ℕ) (cheap : IsShort c) where
  reads : (before : List SolutionLine) (m n k : ℕ) (w : Bool) (rs : List (List ℕ)) → has_cost before ≡ false
      → length (routes_in before) + length rs ≤ ROUTE_LIMIT → count_of before + length (concat rs) ≤ ENTRY_LIMIT
      → AllByRecursion Small rs → k + length rs < 10000000 →
      judge_lines before m w (lines true n (written_routes k rs ++ line (codes "Cost " ++ decimal c))) ≡ Some
      (Ok (routes_in before ++ rs, pos c))
  unfolding judge_lines
  reads before m n k w [] unpriced few customers small low =
      let here : SolutionLine = Cost (number_token n c ∷ []) in
      let priced : List SolutionLine = before ++ here ∷ [] in
      let all : List SolutionLine = priced ++ Empty ∷ [] in
      let short : ltb 64 (length (decimal c)) ≡ false = le-ltb _ _ (omega (arith, short_decimal c cheap)) in
      let number = integer_decimal c cheap in
      let has_here : has_cost priced ≡ true = has_cost-append before (here ∷ []) ∙ rw unpriced refl in
      let has : has_cost all ≡ true = has_cost-append priced (Empty ∷ []) ∙ rw has_here refl in
      let routes : routes_in all ≡ routes_in before ++ [] = routes_of-append priced (Empty ∷ [])
      ∙ append-nil (routes_in priced) ∙ routes_of-append before (here ∷ []) in
      let reported : cost_of priced ≡ pos c = cost_of-append before (here ∷ []) ∙ rw (unpriced, number) refl in
      let cost : cost_of all ≡ pos c = cost_of-append priced (Empty ∷ []) ∙ rw has_here reported in
      let fine : line_stop before n true here ≡ None = rw (unpriced, short, number) refl in
      ap (judge_lines before m w) (last_line n c cheap)
      ∙ judged before m n w (codes "Cost " ++ decimal c) (whole_line (suc n) [] ∷ []) here
      (cost_written n c cheap) fine
      ∙ judged priced n (suc n) true [] [] Empty refl refl ∙ rw (has, routes, cost) refl
  reads before m n k w (r ∷ rs) unpriced few customers small low =
      let here : SolutionLine = Route (tokens_on n r) in
      let next : List SolutionLine = before ++ here ∷ [] in
      let split : lines true n ((line (route_bytes k r) ++ written_routes (k + 1) rs)
      ++ line (codes "Cost " ++ decimal c)) ≡ whole_line n (route_bytes k r)
      ∷ lines true (suc n) (written_routes (k + 1) rs ++ line (codes "Cost " ++ decimal c)) =
      ap (lines true n)
      (append_assoc (line (route_bytes k r)) (written_routes (k + 1) rs) (line (codes "Cost " ++ decimal c)))
      ∙ lines-written n (route_bytes k r) (written_routes (k + 1) rs ++ line (codes "Cost " ++ decimal c))
      (route_one_line k r (omega (arith, low)) small.0) in
      let is = route_written n k r (omega (arith, low)) small.0 in
      let room : leb ROUTE_LIMIT (length (routes_in before)) ≡ false = lt-leb _ _ (omega (arith, few)) in
      let fine : customers_stop (count_of before) (tokens_on n r) ≡ None =
      customers_fine (count_of before) n r small.0 (omega (arith, customers, length-append r (concat rs))) in
      let more : routes_in next ≡ routes_in before ++ r ∷ [] = routes_of-append before (here ∷ [])
      ∙ rw (numbers_read n r small.0) refl in
      let counted : count_of next ≡ count_of before + length r =
      omega (arith, count_of-append before (here ∷ []), length-map r (number_token n)) in
      let still : has_cost next ≡ false = has_cost-append before (here ∷ []) ∙ rw unpriced refl in
      let rest =
      reads next n (suc n) (k + 1) true rs still
      (omega (arith, few, ap length more, length-append (routes_in before) (r ∷ [])))
      (omega (arith, counted, customers, length-append r (concat rs))) small.1 (omega (arith, low)) in
      let passes : line_stop before n true here ≡ None = rw (unpriced, room, fine) refl in
      ap (judge_lines before m w) split
      ∙ judged before m n w (route_bytes k r)
      (lines true (suc n) (written_routes (k + 1) rs ++ line (codes "Cost " ++ decimal c))) here is passes
      ∙ (rest
      ∙ rw more (ap (λ (x : List (List ℕ)). Some (Ok (x, pos c))) (append_assoc (routes_in before) (r ∷ []) rs)))

said : (routes : List (List ℕ)) (cost : ℕ) → IsSolution routes cost →
    solution_decided true (solution_text routes cost) ≡ Some (Ok (routes, pos cost))
unfolding solution_decided
said routes cost h = reads cost (omega (arith, h.cheap)) [] 1 1 1 true routes refl (omega (arith, h.few))
    (omega (arith, h.customers)) h.small (omega (arith, h.few))

pub solution_read_back : (routes : List (List ℕ)) (cost : ℕ) → IsSolution routes cost → SolutionReadsBack routes cost
solution_read_back routes cost h =
    read_within solution_texts (solution_text routes cost) (routes, pos cost)
    (length_solution_text routes cost h.few h.customers) (said routes cost h)
