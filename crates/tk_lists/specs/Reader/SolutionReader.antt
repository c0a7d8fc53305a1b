-- The state of a reader within a solution text.
use Rattle.std.specs.Prelude.{◌≡◌, ◌<◌, ◌≤◌, ℕ, ◌+◌, Bool, true, false, List, [], ◌∷◌, ◌++◌, length, map, Option, Some}
use Rattle.std.specs.Prelude.{None, Result, Ok, Err, codes}
use Rattle.tk_words.specs.declared.fault.TextKind.{TextKind}
use Rattle.tk_words.specs.declared.fault.TextKind.TheVariants as kinds
use Rattle.tk_words.specs.declared.fault.TextFault.{TextFault}
use Rattle.tk_lists.specs.declared.route_head.HeadPlace.{HeadPlace}
use Rattle.tk_lists.specs.declared.route_head.HeadPlace.TheVariants as heads
use Rattle.tk_lists.specs.declared.route_head.HeadStep.{HeadStep}
use Rattle.tk_lists.specs.declared.route_head.HeadStep.TheVariants as steps
use Rattle.tk_lists.specs.declared.solution_handler.SolutionHandler.{SolutionHandler}
use Rattle.tk_lists.specs.declared.solution_reader.LinePlace.{LinePlace}
use Rattle.tk_lists.specs.declared.solution_reader.LinePlace.TheVariants as places
use Rattle.tk_lists.specs.declared.solution_reader.LineWord.{LineWord}
use Rattle.tk_lists.specs.declared.solution_reader.LineWord.TheVariants as line_words
use Rattle.tk_lists.specs.declared.solution_reader.SolutionReader.{SolutionReader}
use Rattle.tk_words.specs.Lex.{Line, Token, lines, tokens_of, is_blank, is_word_byte, behind, after_word}
use Rattle.tk_lines.specs.Pieces.{Fault, first_at, stopped}
use Rattle.tk_words.specs.Words.{spells}
use Rattle.tk_words.specs.Entry.{numbers_of}
use Rattle.tk_lines.specs.Reader.Places.{IsToken}
use Rattle.tk_lines.specs.Reader.Steps.{IsFaultWith}
use Rattle.tk_words.specs.Texts.{Decides, line_behind}
use Rattle.tk_lists.specs.Solution.{Solution, Head, Bad, Behind, colon_head, digits_head, number_head, route_head}
use Rattle.tk_lists.specs.Solution.{SolutionLine, Other, Route, Cost, route_line, may_be_word, solid_line, line_of}
use Rattle.tk_lists.specs.Solution.{routes_in, count_of, has_cost, cost_of, customers_stop, cost_stop, route_tests}
use Rattle.tk_lists.specs.Solution.{line_stop, judge_lines, solution_decided, solution_texts}

-- ---- the head of a Route line

-- the head of a line, given this state and the bytes that follow
abbrev pub head_from : HeadPlace → List ℕ → Head
head_from heads.Word bs = route_head bs
head_from heads.Number bs = number_head bs
head_from (heads.Digits k) bs = digits_head k bs
head_from heads.Colon bs = colon_head (behind is_blank bs)

abbrev pub IsHead : HeadPlace → Type 0
IsHead (heads.Digits k) = k ≤ 18
IsHead _ = Unit {0}

abbrev pub HasStepped : HeadPlace → ℕ → HeadStep → Type 0
HasStepped p b (steps.At q) = IsHead q × ((bs : List ℕ) → head_from p (b ∷ bs) ≡ head_from q bs)
HasStepped p b steps.Behind = (bs : List ℕ) → head_from p (b ∷ bs) ≡ Behind bs
HasStepped p b steps.Bad = (bs : List ℕ) → head_from p (b ∷ bs) ≡ Bad

-- ---- the contents that are stored

-- the form stores the contents of these lines, and of these customers on the line after them
pub record Keeps (s : SolutionHandler) (before : List SolutionLine) (toks : List Token) : Type 0 where
  pub routes : map (λ r. r.items) s.routes.items ≡ routes_in before
  pub route : s.route.items ≡ numbers_of toks
  pub customers : s.customers ≡ count_of before + length toks
  pub priced : s.priced ≡ has_cost before
  pub cost : s.cost ≡ cost_of before

-- ---- within a line

-- a line, given the state of its reader and the bytes that follow
abbrev pub line_from : ℕ → List ℕ → List Token → LinePlace → List ℕ → Bool → SolutionLine
line_from n held toks places.Start bs whole = line_of n whole bs
line_from n held toks places.Word bs whole = solid_line n whole (held ++ bs)
line_from n held toks places.Skip bs whole = Other
line_from n held toks (places.Head p) bs whole = route_line n whole (head_from p bs)
line_from n held toks places.Gap bs whole = Route (toks ++ tokens_of whole n bs)
line_from n held toks places.Customer bs whole = Route (toks ++ tokens_of whole n (held ++ bs))
line_from n held toks places.Colon bs whole = Cost (tokens_of whole n (after_word bs))
line_from n held toks places.Price bs whole = Cost (tokens_of whole n bs)
line_from n held toks places.Digits bs whole = Cost (tokens_of whole n (held ++ bs))
line_from n held toks places.Close bs whole = Cost (toks ++ tokens_of whole n bs)

-- the word that these bytes spell
abbrev pub IsWordOf : List ℕ → LineWord → Type 0
IsWordOf bs line_words.Route = spells bs (codes "ROUTE") ≡ true
IsWordOf bs line_words.Cost = (spells bs (codes "ROUTE") ≡ false) × (spells bs (codes "COST") ≡ true)
IsWordOf bs line_words.Other = (spells bs (codes "ROUTE") ≡ false) × (spells bs (codes "COST") ≡ false)

-- bytes that spell the beginning of Route or Cost
abbrev pub IsFront : List ℕ → Type 0
IsFront bs = (behind is_word_byte bs ≡ []) × (may_be_word bs ≡ true)

abbrev pub IsLineWord : List ℕ → Type 0
IsLineWord bs = (0 < length bs) × IsFront bs

-- a Route line is allowed after these lines, with these customers
pub record IsRoute (before : List SolutionLine) (toks : List Token) : Type 0 where
  pub priced : has_cost before ≡ false
  pub may : (n : ℕ) → first_at n (route_tests before) ≡ None
  pub fine : customers_stop (count_of before) toks ≡ None

-- the current line is Cost with this one number, and has no fault
pub record IsPriced (s : SolutionHandler) (before : List SolutionLine) (n : ℕ) (toks : List Token) : Type 0 where
  pub price : Token
  pub is : toks ≡ price ∷ []
  pub fine : (whole : Bool) → cost_stop n whole toks ≡ None
  pub trailing : (whole : Bool) (t : Token) (ts : List Token) →
      cost_stop n whole (toks ++ t ∷ ts) ≡ Some (Fault n kinds.TrailingData)
  pub priced : has_cost before ≡ false
  pub keeps : Keeps s (before ++ Cost toks ∷ []) []

abbrev pub IsAtPlace : SolutionHandler → List SolutionLine → List ℕ → ℕ → List Token → LinePlace → Type 0
IsAtPlace s before held n toks places.Start = (toks ≡ []) × Keeps s before []
IsAtPlace s before held n toks places.Word = (toks ≡ []) × Keeps s before [] × IsLineWord held
IsAtPlace s before held n toks places.Skip = (toks ≡ []) × Keeps s before [] × (has_cost before ≡ true)
IsAtPlace s before held n toks (places.Head p) = (toks ≡ []) × Keeps s before [] × IsRoute before [] × IsHead p
IsAtPlace s before held n toks places.Gap = Keeps s before toks × IsRoute before toks
IsAtPlace s before held n toks places.Customer = Keeps s before toks × IsRoute before toks × IsToken held
IsAtPlace s before held n toks places.Colon = (toks ≡ []) × Keeps s before [] × (has_cost before ≡ false)
IsAtPlace s before held n toks places.Price = (toks ≡ []) × Keeps s before [] × (has_cost before ≡ false)
IsAtPlace s before held n toks places.Digits = (toks ≡ []) × Keeps s before [] × (has_cost before ≡ false)
    × IsToken held
IsAtPlace s before held n toks places.Close = IsPriced s before n toks

-- the reader is on the line after these lines, and has read these tokens of it
abbrev pub StandsOnLine : SolutionReader → List SolutionLine → List Token → Type 0
StandsOnLine s before toks = IsAtPlace s.form before s.held s.line toks s.place

-- the current line of the reader, given the bytes that follow
abbrev pub rest_of : SolutionReader → List Token → List ℕ → Bool → SolutionLine
rest_of s toks = line_from s.line s.held toks s.place

-- the reader has taken a byte of its line
pub record Went (before : List SolutionLine) (b : ℕ) (g : List ℕ → Bool → SolutionLine)
    (s : SolutionReader) : Type 0 where
  pub toks : List Token
  pub stands : StandsOnLine s before toks
  pub same : (bs : List ℕ) (whole : Bool) → g (b ∷ bs) whole ≡ rest_of s toks bs whole

-- a byte gives its line this fault, whatever follows
abbrev pub LineStopsAt : List SolutionLine → ℕ → ℕ → (List ℕ → Bool → SolutionLine) → TextKind → Type 0
LineStopsAt before n b g k = (bs : List ℕ) (whole : Bool) →
    line_stop before n whole (g (b ∷ bs) whole) ≡ Some (Fault n k)

-- a line has ended without a fault, and its contents are stored
pub record HasEndedLine (before : List SolutionLine) (n : ℕ) (here : SolutionLine) (s : SolutionHandler) : Type 0 where
  pub fine : line_stop before n true here ≡ None
  pub keeps : Keeps s (before ++ here ∷ []) []

-- ---- within the text

-- the result of the lines that follow; the first of them is the rest of the current line, which g completes
unfoldable pub from : List SolutionLine → (List ℕ → Bool → SolutionLine) → List Line →
    Option (Result Solution TextFault)
from before g [] = None
from before g (l ∷ ls) =
    let here = g l.bytes l.whole in
    stopped (line_stop before l.number l.whole here) (judge_lines (before ++ here ∷ []) l.number l.whole ls)

-- the reader has taken these bytes
pub record FedLines (s : SolutionReader) (bs : List ℕ) : Type 0 where
  pub line : s.line ≡ line_behind bs
  pub before : List SolutionLine
  pub toks : List Token
  pub stands : StandsOnLine s before toks
  pub same : (ended : Bool) (more : List ℕ) →
      solution_decided ended (bs ++ more) ≡ from before (rest_of s toks) (lines ended s.line more)

-- the reader has taken these bytes, which do not decide the result
pub record SolutionWaits (s : SolutionReader) (bs : List ℕ) : Type 0 where
  pub fed : FedLines s bs
  pub undecided : solution_decided false bs ≡ None

-- a byte is taken, or the bytes have a fault
abbrev pub HasTakenByte : SolutionReader → List ℕ → Result (Unit {0}) TextFault → Type 0
HasTakenByte new bs (Ok _) = FedLines new bs
HasTakenByte new bs (Err f) = IsFaultWith (Decides solution_texts bs) f
