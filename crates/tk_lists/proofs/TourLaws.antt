-- Each tour text has an answer, and what is decided of it stays.
use Rattle.std.proofs.Common.{◌≡◌, ℕ, suc, ◌≤◌, List, [], ◌∷◌, ◌++◌, length, take, Option, Some, refl, sym, ap, ◌∙◌}
use Rattle.tk_words.specs.declared.keyword.Keyword.{Keyword}
use Rattle.tk_words.specs.declared.keyword.Keyword.TheVariants as words
use Rattle.tk_words.specs.declared.fault.TextKind.{TextKind}
use Rattle.tk_words.specs.declared.fault.TextKind.TheVariants as kinds
use Rattle.tk_words.specs.Lex.{Token}
use Rattle.tk_words.specs.TextLaws.{HasAnswers, StaysDecided}
use Rattle.tk_lines.specs.Lists.{list_entries, list_extent, trailing_stop}
use Rattle.tk_lines.specs.Pieces.{After, Piece, Stop, Fault, first_at, checked, or_else, has}
use Rattle.tk_lines.proofs.EndedTexts.{AnswersSections, NotOpen, WholeTokens, not_open_checked, not_open_first}
use Rattle.tk_lines.proofs.EndedTexts.{not_open_or, not_open_trailing, some_decided, whole_entries}
use Rattle.tk_lines.proofs.LinesAndMoreBytes.{Lasts}
use Rattle.tk_lines.proofs.DecidedStays.{decided_stays}
use Rattle.tk_lines.proofs.SettledSections.{EndsOpen, Extends, list_extends, list_stops, nothing_extends, open_trailing}
use Rattle.tk_lines.proofs.SettledSections.{section_kept, stops}
use Rattle.tk_lists.specs.Tour.{entry_tests, entry_stop, entries_stop, tour_decided, tour_extent, tour_format}
use Rattle.tk_lists.specs.Tour.{tour_section}

-- ---- each text has an answer

entries_known : (k : ℕ) (ts : List Token) → WholeTokens ts → NotOpen (entries_stop k ts)
unfolding entry_stop entries_stop
entries_known k [] h = tt
entries_known k (t ∷ ts) h =
    not_open_or (checked 64 t (entry_tests k t)) (entries_stop (suc k) ts) (not_open_checked 64 t (entry_tests k t) h.0)
    (entries_known (suc k) ts h.1)

section_known : AnswersSections tour_format
section_known before words.TourSection n toks after h =
    not_open_or (first_at n ((has words.TourSection before, kinds.Repeated) ∷ []))
    (or_else (entries_stop 0 (list_entries toks)) (trailing_stop after))
    (not_open_first n ((has words.TourSection before, kinds.Repeated) ∷ []))
    (not_open_or (entries_stop 0 (list_entries toks)) (trailing_stop after)
    (entries_known 0 (list_entries toks) (whole_entries toks h)) (not_open_trailing after))
section_known before _ n toks after h = tt

pub each_has_an_answer : HasAnswers tour_decided
each_has_an_answer = some_decided tour_format section_known

-- ---- what is decided stays

entries_as : (k : ℕ) (ts : List Token) → entries_stop k ts ≡ stops entry_tests (λ k t. suc k) k ts
unfolding entry_stop entries_stop
entries_as k [] = refl
entries_as k (t ∷ ts) = ap (λ (s : Option Stop). or_else (checked 64 t (entry_tests k t)) s) (entries_as (suc k) ts)

extends : (before : List Piece) (word : Keyword) (front last rest : List Token) (end end' : Token) → Lasts last rest
    → Extends (tour_extent before word (front ++ last)) (tour_extent before word (front ++ rest)) (front ++ last)
    (front ++ rest) end end'
extends before words.TourSection front last rest end end' h = list_extends front last rest end end' h
extends before _ front last rest end end' h = nothing_extends front last rest end end' h

faults : (before : List Piece) (word : Keyword) (n : ℕ) (front last rest : List Token) (after after' : After) (line : ℕ)
    (k : TextKind) → Lasts last rest
    → length (front ++ last) ≤ (tour_extent before word (front ++ last)).count → EndsOpen after
    → tour_section before word n (front ++ last) after ≡ Some (Fault line k)
    → tour_section before word n (take (tour_extent before word (front ++ rest)).count (front ++ rest)) after' ≡ Some
    (Fault line k)
faults before words.TourSection n front last rest after after' line k h le ended f =
    let old : List Token = list_entries (front ++ last) in
    let new : List Token = list_entries (take (list_extent (front ++ rest)).count (front ++ rest)) in
    section_kept (first_at n ((has words.TourSection before, kinds.Repeated) ∷ [])) (entries_stop 0 old)
    (entries_stop 0 new) (trailing_stop after) (trailing_stop after') (Fault line k) (open_trailing after ended)
    (λ s. entries_as 0 new
    ∙ list_stops entry_tests (λ k t. suc k) line k 0 front last rest h le (sym (entries_as 0 old) ∙ s)) f
faults before _ n front last rest after after' line k h le ended f = f

pub decided_stay : StaysDecided tour_decided
decided_stay = decided_stays tour_format (record { extends = extends; faults = faults })
