-- Solution texts (the CVRPLIB format).
use Rattle.std.specs.Prelude.{ℕ, suc, ◌+◌, Bool, true, false, not, ◌&&◌, ◌||◌, ◌==◌, nat_lt, nat_le, List, [], ◌∷◌}
use Rattle.std.specs.Prelude.{◌++◌, length, take, Option, Some, None, Result, Ok, Err, ℤ, pos, if◌then◌else◌, codes}
use Rattle.std.specs.Prelude.{Vec, is_none, map}
use Rattle.std.specs.Char.{is_ascii_digit}
use Rattle.std.specs.declared.alloc.Global.{Global}
use Rattle.tk_problem.specs.declared.limits.TheConstants.{ENTRY_LIMIT, ROUTE_LIMIT, TEXT_LIMIT}
use Rattle.tk_words.specs.declared.keyword.Keyword.TheVariants as words
use Rattle.tk_words.specs.declared.fault.TextKind.{TextKind}
use Rattle.tk_words.specs.declared.fault.TextKind.TheVariants as kinds
use Rattle.tk_words.specs.declared.fault.TextFault.{TextFault}
use Rattle.tk_words.specs.Lex.{Line, Token, lines, tokens_of, is_blank, is_word_byte, is_empty, front, behind}
use Rattle.tk_words.specs.Lex.{after_word, integer}
use Rattle.tk_words.specs.Texts.{Texts, texts_of}
use Rattle.tk_words.specs.Words.{spells}
use Rattle.tk_lines.specs.Pieces.{Stop, Open, Fault, first_at, checked, or_else, stopped}
use Rattle.tk_words.specs.Entry.{in_range, numbers_of}
use Rattle.tk_lists.specs.declared.texts.SolText.{SolText}

-- ---- the head of a Route line

-- a head that is cut short; a malformed head; or these bytes after the colon of a head
pub data Head : Type 0 where
  Short : Head
  Bad : Head
  Behind : (bs : List ℕ) → Head

abbrev pub colon_head : List ℕ → Head
colon_head [] = Short
colon_head (b ∷ bs) = if b == 58 then Behind bs else Bad

-- the digits of an integer, of which k come before these bytes, then blanks and a colon
abbrev pub digits_head : ℕ → List ℕ → Head
digits_head k bs =
    let count = k + length (front is_ascii_digit bs) in
    let rest = colon_head (behind is_blank (behind is_ascii_digit bs)) in
    if nat_lt 18 count then Bad else (if count == 0 then (if is_empty bs then Short else Bad) else rest)

-- the bytes without the first one, if it satisfies p
abbrev pub without_first : (ℕ → Bool) → List ℕ → List ℕ
without_first p [] = []
without_first p (b ∷ bs) = if p b then bs else b ∷ bs

abbrev pub is_sign : ℕ → Bool
is_sign b = b == 43 || b == 45

abbrev pub is_hash : ℕ → Bool
is_hash b = b == 35

-- blanks, an integer, blanks and a colon
abbrev pub number_head : List ℕ → Head
number_head bs = digits_head 0 (without_first is_sign (behind is_blank bs))

-- blanks, an optional #, blanks, an integer, blanks and a colon
abbrev pub route_head : List ℕ → Head
route_head bs = number_head (without_first is_hash (behind is_blank bs))

-- ---- lines

pub data SolutionLine : Type 0 where
  -- only blanks
  Empty : SolutionLine
  -- a line whose word may still become Route or Cost
  Unsure : SolutionLine
  Other : SolutionLine
  -- a Route line with a head that is cut short, with a malformed head, or with these customers
  ShortRoute : SolutionLine
  BadRoute : SolutionLine
  Route : (customers : List Token) → SolutionLine
  -- a Cost line, with the tokens after its word
  Cost : (tokens : List Token) → SolutionLine

abbrev pub route_line : ℕ → Bool → Head → SolutionLine
route_line n whole Short = ShortRoute
route_line n whole Bad = BadRoute
route_line n whole (Behind bs) = Route (tokens_of whole n bs)

-- the bytes spell the beginning of the text
abbrev pub begins : List ℕ → List ℕ → Bool
begins bs text = spells bs (take (length bs) text)

abbrev pub may_be_word : List ℕ → Bool
may_be_word bs = begins bs (codes "ROUTE") || begins bs (codes "COST")

-- a line, given its word and the bytes after it
abbrev pub by_word : ℕ → Bool → List ℕ → List ℕ → SolutionLine
by_word n whole word tail =
    if spells word (codes "ROUTE") then route_line n whole (route_head tail)
    else (if spells word (codes "COST") then Cost (tokens_of whole n (after_word tail)) else Other)

-- a line without leading blanks; whole: no more bytes follow on it
abbrev pub solid_line : ℕ → Bool → List ℕ → SolutionLine
solid_line n whole [] = if whole then Empty else Unsure
solid_line n whole (b ∷ bs) =
    let word = front is_word_byte (b ∷ bs) in
    let tail = behind is_word_byte (b ∷ bs) in
    if not whole && is_empty tail then (if may_be_word word then Unsure else Other) else by_word n whole word tail

abbrev pub line_of : ℕ → Bool → List ℕ → SolutionLine
line_of n whole bs = solid_line n whole (behind is_blank bs)

-- ---- looking up

abbrev pub routes_on : SolutionLine → List (List ℕ)
routes_on (Route toks) = numbers_of toks ∷ []
routes_on _ = []

abbrev pub routes_in : List SolutionLine → List (List ℕ)
routes_in [] = []
routes_in (l ∷ ls) = routes_on l ++ routes_in ls

-- the number of customers on a line
abbrev pub count_on : SolutionLine → ℕ
count_on (Route toks) = length toks
count_on _ = 0

abbrev pub count_of : List SolutionLine → ℕ
count_of [] = 0
count_of (l ∷ ls) = count_on l + count_of ls

abbrev pub is_cost : SolutionLine → Bool
is_cost (Cost toks) = true
is_cost _ = false

abbrev pub has_cost : List SolutionLine → Bool
has_cost [] = false
has_cost (l ∷ ls) = is_cost l || has_cost ls

abbrev pub integer_or_zero : Option ℤ → ℤ
integer_or_zero None = pos 0
integer_or_zero (Some z) = z

abbrev pub cost_on : SolutionLine → ℤ
cost_on (Cost (t ∷ ts)) = integer_or_zero (integer t.bytes)
cost_on _ = pos 0

-- the cost on the first Cost line
abbrev pub cost_of : List SolutionLine → ℤ
cost_of [] = pos 0
cost_of (l ∷ ls) = let rest = cost_of ls in if is_cost l then cost_on l else rest

-- routes, and their cost
abbrev pub Solution : Type 0
Solution = List (List ℕ) × ℤ

-- the entries of each list
abbrev pub lists_of : List (Vec ℕ Global) → List (List ℕ)
lists_of lists = map (λ list. list.items) lists

abbrev pub as_solution : SolText → Solution
as_solution text = (lists_of text.routes.items, text.cost)

abbrev pub solution_of : List SolutionLine → Solution
solution_of ls = (routes_in ls, cost_of ls)

-- ---- the first fault

-- the tests of a customer, given the number of customers before it
abbrev pub customer_tests : ℕ → Token → List (Bool × TextKind)
customer_tests k t = (is_none (integer t.bytes), kinds.BadNumber)
    ∷ (not (in_range 0 4294967295 (integer t.bytes)) || nat_le ENTRY_LIMIT k, kinds.OutOfLimit) ∷ []

abbrev pub customer_stop : ℕ → Token → Option Stop
customer_stop k t = checked 64 t (customer_tests k t)

abbrev pub customers_stop : ℕ → List Token → Option Stop
customers_stop k [] = None
customers_stop k (t ∷ ts) = or_else (customer_stop k t) (customers_stop (suc k) ts)

abbrev pub is_natural : Option ℤ → Bool
is_natural (Some (pos n)) = true
is_natural _ = false

abbrev pub line_trailing_stop : ℕ → List Token → Option Stop
line_trailing_stop n [] = None
line_trailing_stop n (t ∷ ts) = Some (Fault n kinds.TrailingData)

-- the stop if a number is missing: a fault if the line is complete
abbrev pub cut_short : ℕ → Bool → Option Stop
cut_short n whole = if whole then Some (Fault n kinds.BadNumber) else Some Open

abbrev pub cost_number_tests : Token → List (Bool × TextKind)
cost_number_tests t = (is_none (integer t.bytes), kinds.BadNumber)
    ∷ (not (is_natural (integer t.bytes)), kinds.OutOfLimit) ∷ []

abbrev pub cost_stop : ℕ → Bool → List Token → Option Stop
cost_stop n whole [] = cut_short n whole
cost_stop n whole (t ∷ ts) = or_else (checked 64 t (cost_number_tests t)) (line_trailing_stop n ts)

-- the tests of the word of a Route line
abbrev pub route_tests : List SolutionLine → List (Bool × TextKind)
route_tests before =
    (has_cost before, kinds.TrailingData) ∷ (nat_le ROUTE_LIMIT (length (routes_in before)), kinds.OutOfLimit) ∷ []

abbrev pub cost_tests : List SolutionLine → List (Bool × TextKind)
cost_tests before = (has_cost before, kinds.TrailingData) ∷ []

abbrev pub other_tests : List SolutionLine → List (Bool × TextKind)
other_tests before = (not (has_cost before), kinds.UnknownKeyword) ∷ []

-- the stop on line n, if there is one
abbrev pub line_stop : List SolutionLine → ℕ → Bool → SolutionLine → Option Stop
line_stop before n whole Empty = None
line_stop before n whole Unsure = Some Open
line_stop before n whole Other = first_at n (other_tests before)
line_stop before n whole ShortRoute = or_else (first_at n (route_tests before)) (cut_short n whole)
line_stop before n whole BadRoute = or_else (first_at n (route_tests before)) (Some (Fault n kinds.BadNumber))
line_stop before n whole (Route toks) =
    or_else (first_at n (route_tests before)) (customers_stop (count_of before) toks)
line_stop before n whole (Cost toks) = or_else (first_at n (cost_tests before)) (cost_stop n whole toks)

-- the result at the end of the last line, line n; whole: no more bytes follow
abbrev pub solution_at_end : List SolutionLine → ℕ → Bool → Option (Result Solution TextFault)
solution_at_end before n whole =
    if not whole then None
    else (if has_cost before then Some (Ok (solution_of before))
    else Some (Err (record { line = n; kind = kinds.Missing words.Cost })))

-- the result of the lines after `before`, the last of which is line n
unfoldable pub judge_lines : List SolutionLine → ℕ → Bool → List Line → Option (Result Solution TextFault)
judge_lines before n whole [] = solution_at_end before n whole
judge_lines before n whole (l ∷ ls) =
    let here = line_of l.number l.whole l.bytes in
    stopped (line_stop before l.number l.whole here) (judge_lines (before ++ here ∷ []) l.number l.whole ls)

-- the result that bytes decide: of the whole text if it has ended, otherwise of every text that begins with them
unfoldable pub solution_decided : Bool → List ℕ → Option (Result Solution TextFault)
solution_decided ended bs = judge_lines [] 1 ended (lines ended 1 bs)

-- solution texts
abbrev pub solution_texts : Texts Solution TextFault
solution_texts = texts_of solution_decided TEXT_LIMIT
