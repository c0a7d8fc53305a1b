-- Each problem text with places has an answer, what is decided of it stays, and it is the same problem without them.
use Rattle.std.proofs.Common.{◌≡◌, ℕ, Bool, true, false, cond, ltb, not, List, [], ◌∷◌, ◌++◌, length, take}
use Rattle.std.proofs.Common.{◌*◌, ◌≤◌, Option, Some, None, Result, Ok, refl, sym, ap, subst, ◌∙◌}
use Rattle.tk_words.specs.declared.fault.TextFault.{TextFault}
use Rattle.tk_words.specs.declared.fault.TextKind.{TextKind}
use Rattle.tk_words.specs.declared.fault.TextKind.TheVariants as kinds
use Rattle.tk_words.specs.declared.keyword.Keyword.{Keyword}
use Rattle.tk_words.specs.declared.keyword.Keyword.TheVariants as words
use Rattle.tk_words.specs.Entry.{is_keyword}
use Rattle.tk_words.specs.Lex.{Token, lines}
use Rattle.tk_lines.specs.Pieces.{After, End, Fault, Open, Piece, Section, Stop, checked, decided_by, ended, first_at}
use Rattle.tk_lines.specs.Pieces.{judge, or_else, pieces, stop, stopped}
use Rattle.tk_problem_text.specs.Placed.{IsReadAsProblem, PlacedIs, placed_decided, placed_format, placed_section}
use Rattle.tk_problem_text.specs.Placed.{placed_tests, placed_value, reads_display}
use Rattle.tk_problem_text.specs.Problem.{problem_extent, problem_format, problem_section}
use Rattle.tk_problem_text.specs.Problem.{section_end, section_entries, size_of, word_tests}
use Rattle.tk_problem_text.specs.Sections.FixedSections.{TokenTests, all_tests, fixed_end, fixed_extent, tokens_stop}
use Rattle.tk_lines.proofs.DecidedStays.{decided_stays}
use Rattle.tk_lines.proofs.EndedTexts.{AnswersSections, not_open_first, not_open_or, some_decided}
use Rattle.tk_lines.proofs.LinesAndMoreBytes.{Lasts}
use Rattle.tk_lines.proofs.SettledSections.{EndsOpen, section_kept}
use Rattle.tk_problem_text.proofs.PlacedPieces.{reads_word}
use Rattle.tk_problem_text.proofs.ProblemLaws.{end_known, entries_known, extends, faults, fixed_stays, open_fixed}
use Rattle.tk_problem_text.proofs.ProblemLaws.{tokens_known}
use Rattle.tk_words.specs.TextLaws.{HasAnswers, StaysDecided}
use Rattle.tk_problem_text.proofs.PlacedSections.{same_section}
use Rattle.tk_problem_text.proofs.SectionTokens.FixedSections.{none_of_both}

abbrev no_tests : TokenTests
no_tests before t = []

-- ---- fewer tests stop no more

fewer_at : (long whole word : Bool) (n : ℕ) (rest : Option Stop)
    → cond long (Some (Fault n kinds.TooLong)) (cond (not whole) (Some Open)
    (cond word (Some (Fault n kinds.Truncated)) rest)) ≡ None
    → cond long (Some (Fault n kinds.TooLong)) (cond (not whole) (Some Open)
    (cond word (Some (Fault n kinds.Truncated)) None)) ≡ None
fewer_at true whole word n rest h = absurd cc
fewer_at false false word n rest h = absurd cc
fewer_at false true true n rest h = absurd cc
fewer_at false true false n rest h = refl

fewer_tests : (tests : TokenTests) (before ts : List Token) → tokens_stop tests before ts ≡ None →
    tokens_stop no_tests before ts ≡ None
unfolding tokens_stop
fewer_tests tests before [] h = refl
fewer_tests tests before (t ∷ ts) h =
    let both = none_of_both (checked 64 t (all_tests tests before t)) (tokens_stop tests (before ++ t ∷ []) ts) h in
    let here = fewer_at (ltb 64 (length t.bytes)) t.whole (is_keyword t.bytes) t.line
    (first_at t.line (tests before t)) both.0 in
    rw here (fewer_tests tests (before ++ t ∷ []) ts both.1)

shown_passes : (before : List Piece) (n : ℕ) (toks : List Token) (after : After)
    → placed_section before words.DisplayDataSection n toks after ≡ None
    → problem_section before words.DisplayDataSection n toks after ≡ None
shown_passes before n toks after h =
    let first = none_of_both (first_at n (word_tests before words.DisplayDataSection)) _ h in
    let second = none_of_both _ (section_end words.DisplayDataSection toks after) first.1 in
    let fewer = fewer_tests _ [] toks second.0 in
    rw (first.0, fewer) second.1

section_passes : (before : List Piece) (word : Keyword) (n : ℕ) (toks : List Token) (after : After)
    → placed_section before word n toks after ≡ None → problem_section before word n toks after ≡ None
section_passes before word n toks after h = by_read (reads_display before word) refl
  where
    by_read : (t : Bool) → reads_display before word ≡ t → problem_section before word n toks after ≡ None
    by_read true e =
        subst
        (λ w. placed_section before w n toks after ≡ None → problem_section before w n toks after ≡ None)
        (sym (reads_word before word e)) (shown_passes before n toks after) h
    by_read false e = same_section before word n e toks after ∙ h

-- ---- piece by piece

passes : {V : Type 0} (s : Option Stop) (rest : Option (Result V TextFault)) (v : V) → stopped s rest ≡ Some (Ok v) →
    (s ≡ None) × (rest ≡ Some (Ok v))
passes None rest v h = (refl, h)
passes (Some Open) rest v h = absurd cc
passes (Some (Fault line kind)) rest v h = absurd cc

goes_on : {V : Type 0} (s : Option Stop) (rest : Option (Result V TextFault)) (v : V) → s ≡ None
    → rest ≡ Some (Ok v) → stopped s rest ≡ Some (Ok v)
goes_on s rest v none h = rw none h

piece_passes : (before : List Piece) (p : Piece) → stop placed_format before p ≡ None →
    stop problem_format before p ≡ None
piece_passes before (Section word n toks after) h = section_passes before word n toks after h
piece_passes before p h = h

ends_same : (before : List Piece) (line : ℕ) (whole : Bool) (kind : Option TextKind) (v : PlacedIs)
    → ended placed_format before line whole kind ≡ Some (Ok v)
    → ended problem_format before line whole kind ≡ Some (Ok v.problem)
ends_same before line false kind v h = absurd cc
ends_same before line true (Some kind) v h = absurd cc
ends_same before line true None v h =
    let same : placed_value before ≡ v = cc in
    ap (λ (placed : PlacedIs). Some (Ok placed.problem)) same

judged : (before ps : List Piece) (v : PlacedIs) → judge placed_format before ps ≡ Some (Ok v) →
    judge problem_format before ps ≡ Some (Ok v.problem)
unfolding judge
judged before [] v h = absurd cc
judged before (End line whole ∷ ps) v h =
    ends_same before line whole (problem_format.at_end before) v h
judged before (p ∷ ps) v h =
    let both = passes (stop placed_format before p) (judge placed_format (before ++ p ∷ []) ps) v h in
    goes_on (stop problem_format before p) (judge problem_format (before ++ p ∷ []) ps) v.problem
    (piece_passes before p both.0) (judged (before ++ p ∷ []) ps v both.1)

pub read_as_problem : IsReadAsProblem
unfolding decided_by
read_as_problem e text v h = judged [] (pieces problem_extent (lines e 1 text)) v h

-- ---- each text has an answer

section_known : AnswersSections placed_format
section_known before word n toks after h =
    let tests : TokenTests = placed_tests before word in
    let inside : Option Stop = tokens_stop tests [] (section_entries word toks) in
    not_open_or (first_at n (word_tests before word)) (or_else inside (section_end word toks after))
    (not_open_first n (word_tests before word))
    (not_open_or inside (section_end word toks after)
    (tokens_known tests [] (section_entries word toks) (entries_known word toks h)) (end_known word toks after))

pub each_has_an_answer : HasAnswers placed_decided
each_has_an_answer = some_decided placed_format section_known

-- ---- what is decided stays

shown_stays : (before : List Piece) (n : ℕ) (front last rest : List Token) (after after' : After) (line : ℕ)
    (k : TextKind) → Lasts last rest
    → length (front ++ last) ≤ (problem_extent before words.DisplayDataSection (front ++ last)).count → EndsOpen after
    → placed_section before words.DisplayDataSection n (front ++ last) after ≡ Some (Fault line k)
    → placed_section before words.DisplayDataSection n
    (take (problem_extent before words.DisplayDataSection (front ++ rest)).count (front ++ rest)) after' ≡ Some
    (Fault line k)
shown_stays before n front last rest after after' line k h le open_end f =
    let tests : TokenTests = placed_tests before words.DisplayDataSection in
    let count = 3 * size_of before in
    let all : List Token = take (fixed_extent count (front ++ rest)).count (front ++ rest) in
    section_kept (first_at n (word_tests before words.DisplayDataSection)) (tokens_stop tests [] (front ++ last))
    (tokens_stop tests [] all) (fixed_end after) (fixed_end after') (Fault line k) (open_fixed after open_end)
    (fixed_stays tests line k count front last rest h le) f

fault_stays : (before : List Piece) (word : Keyword) (n : ℕ) (front last rest : List Token) (after after' : After)
    (line : ℕ) (k : TextKind) → Lasts last rest
    → length (front ++ last) ≤ (problem_extent before word (front ++ last)).count → EndsOpen after
    → placed_section before word n (front ++ last) after ≡ Some (Fault line k)
    → placed_section before word n (take (problem_extent before word (front ++ rest)).count (front ++ rest))
    after' ≡ Some (Fault line k)
fault_stays before word n front last rest after after' line k h le open_end f =
    by_read (reads_display before word) refl
  where
    by_read : (t : Bool) → reads_display before word ≡ t →
        placed_section before word n (take (problem_extent before word (front ++ rest)).count (front ++ rest))
        after' ≡ Some (Fault line k)
    by_read true e =
        subst (λ w. length (front ++ last) ≤ (problem_extent before w (front ++ last)).count
        → placed_section before w n (front ++ last) after ≡ Some (Fault line k)
        → placed_section before w n (take (problem_extent before w (front ++ rest)).count (front ++ rest))
        after' ≡ Some (Fault line k)) (sym (reads_word before word e))
        (λ le f. shown_stays before n front last rest after after' line k h le open_end f) le f
    by_read false e =
        let all = take (problem_extent before word (front ++ rest)).count (front ++ rest) in
        sym (same_section before word n e all after')
        ∙ faults before word n front last rest after after' line k h le open_end
        (same_section before word n e (front ++ last) after ∙ f)

pub decided_stay : StaysDecided placed_decided
decided_stay = decided_stays placed_format (record { extends = extends; faults = fault_stays })
