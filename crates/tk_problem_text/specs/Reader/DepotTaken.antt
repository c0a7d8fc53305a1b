-- The state of the reader of the depot.
use Rattle.std.specs.Prelude.{IfErr, IfOk, Result}
use Rattle.tk_lines.specs.Reader.Handlers.{IsReportedWord, whole}
use Rattle.std.specs.Prelude.{◌≡◌, ◌≤◌, ℕ, Bool, true, false, not, ◌&&◌, ◌||◌, List, [], ◌∷◌, ◌++◌, Option, Some, None}
use Rattle.tk_problem_text.specs.declared.sections.depot.Depot.{Depot}
use Rattle.tk_words.specs.declared.fault.TextKind.{TextKind}
use Rattle.tk_lines.specs.declared.handler.Taken.{Taken}
use Rattle.tk_lines.specs.declared.handler.Taken.TheVariants as takens
use Rattle.tk_words.specs.Lex.{Token, is_empty}
use Rattle.tk_lines.specs.Pieces.{Fault, first_at}
use Rattle.tk_words.specs.MinusOne.{is_ending}
use Rattle.tk_words.specs.Entry.{is_eof}
use Rattle.tk_problem_text.specs.Sections.Rows.{number_in}
use Rattle.tk_problem_text.specs.Sections.FixedSections.{all_tests, tokens_stop}
use Rattle.tk_problem_text.specs.Sections.DepotList.{depot_tests}

-- the node that the only token names, or None if there is no token
abbrev pub IsDepot : ℕ → Option ℕ → List Token → Type 0
IsDepot n None toks = toks ≡ []
IsDepot n (Some node) toks = (t : Token) × (toks ≡ t ∷ []) × (number_in t ≡ node) × (1 ≤ node) × (node ≤ n)

-- the reader has taken these tokens, in a problem with n nodes
pub record HasDepot (n : ℕ) (s : Depot) (toks : List Token) : Type 0 where
  pub size : s.size ≡ n
  pub node : IsDepot n s.node toks
  pub good : tokens_stop (depot_tests n) [] toks ≡ None

abbrev pub is_list_end : Token → Bool
is_list_end t = is_ending t || t.whole && is_eof t.bytes

-- the effect of a token after these tokens
abbrev pub DepotTakes : ℕ → Depot → Depot → List Token → Token → Taken → Type 0
DepotTakes n old new toks t takens.More = HasDepot n new (toks ++ t ∷ [])
DepotTakes n old new toks t takens.Last = ⊥
DepotTakes n old new toks t takens.Ending = (new ≡ old) × (is_empty toks ≡ false) × (is_ending t ≡ true)
DepotTakes n old new toks t takens.Eof =
    (new ≡ old) × (is_empty toks ≡ false) × (is_ending t ≡ false) × ((t.whole && is_eof t.bytes) ≡ true)

-- a token of the list, refused with the fault of its first test that is true
pub record DepotRefuses (n : ℕ) (toks : List Token) (t : Token) (k : TextKind) : Type 0 where
  pub goes : (not (is_empty toks) && is_list_end t) ≡ false
  pub fault : first_at t.line (all_tests (depot_tests n) toks t) ≡ Some (Fault t.line k)

-- a token is taken
abbrev pub TakesDepot : List ℕ → Depot → Depot → Result Taken TextKind → Type 0
TakesDepot token old new result =
    (n : ℕ) (toks : List Token) (line : ℕ) → HasDepot n old toks →
    IfOk result (DepotTakes n old new toks (whole token line))

-- a token is refused
abbrev pub RefusesDepot : List ℕ → Depot → Result Taken TextKind → Type 0
RefusesDepot token old result =
    (n : ℕ) (toks : List Token) (line : ℕ) → HasDepot n old toks →
    IfErr result (IsReportedWord (DepotRefuses n toks (whole token line)))
