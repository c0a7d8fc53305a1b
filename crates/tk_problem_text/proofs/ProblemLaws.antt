-- Each problem text has an answer, and what is decided of it stays.
use Rattle.std.proofs.Common.{◌≡◌, ℕ, ◌<◌, ◌≤◌, min, inl, inr, ⊎_elim, true, false, List, [], ◌∷◌, ◌++◌, length, take}
use Rattle.std.proofs.Common.{Option, Some, None, refl, sym, ap, ◌∙◌, arith}
use Rattle.std.proofs.lemmas.Bool.{cases_lt, le-leb}
use Rattle.std.proofs.lemmas.List.{length-append}
use Rattle.tk_words.specs.declared.keyword.Keyword.{Keyword}
use Rattle.tk_words.specs.declared.keyword.Keyword.TheVariants as words
use Rattle.tk_words.specs.declared.fault.TextKind.{TextKind}
use Rattle.tk_words.specs.Lex.{Token}
use Rattle.tk_words.specs.TextLaws.{HasAnswers, StaysDecided}
use Rattle.tk_lines.specs.Lists.{list_entries, list_extent}
use Rattle.tk_lines.specs.Pieces.{After, Clean, Trailing, Early, Piece, Extent, Stop, Fault, first_at, checked, or_else}
use Rattle.tk_lines.proofs.EndedTexts.{AnswersSections, NotOpen, WholeTokens, not_open_checked, not_open_first}
use Rattle.tk_lines.proofs.EndedTexts.{not_open_or, not_open_trailing, some_decided, whole_entries}
use Rattle.tk_lines.proofs.LinesAndMoreBytes.{Lasts, checked_grown, or_else_kept}
use Rattle.tk_lines.proofs.DecidedStays.{decided_stays}
use Rattle.tk_lines.proofs.SettledSections.{EndsOpen, Extends, front_taken, lasts_length, list_extends, list_nothing}
use Rattle.tk_lines.proofs.SettledSections.{list_stops}
use Rattle.tk_lines.proofs.SettledSections.{next_taken, one_extends, open_trailing, section_kept, stops, stops_taken}
use Rattle.tk_problem_text.specs.Problem.{problem_decided, problem_extent, problem_format, problem_section, section_end}
use Rattle.tk_problem_text.specs.Problem.{section_entries, token_tests, wanted, word_tests}
use Rattle.tk_problem_text.specs.Sections.DepotList.{depot_end, depot_entries, depot_extent}
use Rattle.tk_problem_text.specs.Sections.FixedSections.{TokenTests, all_tests, fixed_end, fixed_extent, tokens_stop}

-- ---- each text has an answer

pub tokens_known : (tests : TokenTests) (before ts : List Token) → WholeTokens ts →
    NotOpen (tokens_stop tests before ts)
unfolding tokens_stop
tokens_known tests before [] h = tt
tokens_known tests before (t ∷ ts) h =
    not_open_or (checked 64 t (all_tests tests before t)) (tokens_stop tests (before ++ t ∷ []) ts)
    (not_open_checked 64 t (all_tests tests before t) h.0) (tokens_known tests (before ++ t ∷ []) ts h.1)

fixed_known : (after : After) → NotOpen (fixed_end after)
fixed_known (Early line true) = tt
fixed_known _ = tt

pub end_known : (word : Keyword) (toks : List Token) (after : After) → NotOpen (section_end word toks after)
end_known words.DepotSection [] after = fixed_known after
end_known words.DepotSection (t ∷ ts) after = not_open_trailing after
end_known _ toks after = fixed_known after

pub entries_known : (word : Keyword) (toks : List Token) → WholeTokens toks → WholeTokens (section_entries word toks)
entries_known words.DepotSection [] h = tt
entries_known words.DepotSection (t ∷ ts) h = (h.0, whole_entries ts h.1)
entries_known _ toks h = h

section_known : AnswersSections problem_format
section_known before word n toks after h =
    let tests : TokenTests = token_tests before word in
    let inside : Option Stop = tokens_stop tests [] (section_entries word toks) in
    not_open_or (first_at n (word_tests before word)) (or_else inside (section_end word toks after))
    (not_open_first n (word_tests before word))
    (not_open_or inside (section_end word toks after)
    (tokens_known tests [] (section_entries word toks) (entries_known word toks h)) (end_known word toks after))

pub each_has_an_answer : HasAnswers problem_decided
each_has_an_answer = some_decided problem_format section_known

-- ---- how far sections go

fixed_extends : (count : ℕ) (front last rest : List Token) (end end' : Token) → Lasts last rest
    → Extends (fixed_extent count (front ++ last)) (fixed_extent count (front ++ rest)) (front ++ last)
    (front ++ rest) end end'
fixed_extends count front last rest end end' h = ⊎_elim some all (cases_lt count (length (front ++ last)))
  where
    some : count < length (front ++ last) →
        Extends (fixed_extent count (front ++ last)) (fixed_extent count (front ++ rest)) (front ++ last)
        (front ++ rest) end end'
    some lt =
        let most : count < length (front ++ rest) =
        omega (arith, lt, lasts_length last rest h, length-append front last, length-append front rest) in
        let old : fixed_extent count (front ++ last) ≡ record { count = count; closed = true; at_eof = false } =
        let size : min count (length (front ++ last)) ≡ count = omega (arith, lt) in
        rw (size, le-leb count (length (front ++ last)) (omega (arith, lt))) refl in
        let new : fixed_extent count (front ++ rest) ≡ record { count = count; closed = true; at_eof = false } =
        let size : min count (length (front ++ rest)) ≡ count = omega (arith, most) in
        rw (size, le-leb count (length (front ++ rest)) (omega (arith, most))) refl in
        rw (old, new)
        (inl (record {
          extent = refl;
          taken = front_taken count front last rest h lt;
          next = next_taken count front last rest end end' h lt;
        }))

    all : length (front ++ last) ≤ count →
        Extends (fixed_extent count (front ++ last)) (fixed_extent count (front ++ rest)) (front ++ last)
        (front ++ rest) end end'
    all le = inr (record { all = omega (arith, le); goes = refl })

depot_extends : (front last rest : List Token) (end end' : Token) → Lasts last rest →
    Extends (depot_extent (front ++ last)) (depot_extent (front ++ rest)) (front ++ last) (front ++ rest) end end'
depot_extends [] [] rest end end' h = inr (record { all = omega arith; goes = refl })
depot_extends [] (t ∷ []) [] end end' h = absurd h
depot_extends [] (t ∷ []) (u ∷ rest) end end' h =
    inr (record { all = omega arith; goes = ap (λ (e : Extent). e.at_eof) list_nothing })
depot_extends [] (t ∷ s ∷ last) rest end end' h = absurd h
depot_extends (x ∷ front) last rest end end' h =
    one_extends x (list_extent (front ++ last)) (list_extent (front ++ rest)) (front ++ last) (front ++ rest) end end'
    (list_extends front last rest end end' h)

pub extends : (before : List Piece) (word : Keyword) (front last rest : List Token) (end end' : Token) → Lasts last rest
    → Extends (problem_extent before word (front ++ last)) (problem_extent before word (front ++ rest)) (front ++ last)
    (front ++ rest) end end'
extends before words.DepotSection front last rest end end' h = depot_extends front last rest end end' h
extends before word front last rest end end' h = fixed_extends (wanted before word) front last rest end end' h

-- ---- faults

tokens_as : (tests : TokenTests) (before ts : List Token) →
    tokens_stop tests before ts ≡ stops (all_tests tests) (λ before t. before ++ t ∷ []) before ts
unfolding tokens_stop
tokens_as tests before [] = refl
tokens_as tests before (t ∷ ts) = ap (λ (s : Option Stop). or_else (checked 64 t (all_tests tests before t)) s)
    (tokens_as tests (before ++ t ∷ []) ts)

module _ (tests : TokenTests) (line : ℕ) (k : TextKind) where
  pub fixed_stays : (count : ℕ) (front last rest : List Token) → Lasts last rest
      → length (front ++ last) ≤ (fixed_extent count (front ++ last)).count
      → tokens_stop tests [] (front ++ last) ≡ Some (Fault line k) →
      tokens_stop tests [] (take (fixed_extent count (front ++ rest)).count (front ++ rest)) ≡ Some (Fault line k)
  fixed_stays count front last rest h le f =
      let c : ℕ = min count (length (front ++ rest)) in
      let all : length (front ++ last) ≤ c =
      omega (arith, le, lasts_length last rest h, length-append front last, length-append front rest) in
      tokens_as tests [] (take c (front ++ rest))
      ∙ stops_taken (all_tests tests) (λ before t. before ++ t ∷ []) line k [] c front last rest h all
      (sym (tokens_as tests [] (front ++ last)) ∙ f)

  depot_stays : (front last rest : List Token) → Lasts last rest
      → length (front ++ last) ≤ (depot_extent (front ++ last)).count
      → tokens_stop tests [] (depot_entries (front ++ last)) ≡ Some (Fault line k) →
      tokens_stop tests [] (depot_entries (take (depot_extent (front ++ rest)).count (front ++ rest))) ≡ Some
      (Fault line k)
  unfolding tokens_stop list_entries
  depot_stays [] [] rest h le f = absurd (let j : None ≡ Some (Fault line k) = f in cc)
  depot_stays [] (t ∷ []) [] h le f = absurd h
  depot_stays [] (t ∷ []) (u ∷ rest) h le f =
      checked_grown 64 t u (all_tests tests [] t) (all_tests tests [] u) None
      (tokens_stop tests (u ∷ []) (list_entries (take (list_extent rest).count rest))) line k h f
  depot_stays [] (t ∷ s ∷ last) rest h le f = absurd h
  depot_stays (x ∷ front) last rest h le f =
      let old : List Token = list_entries (front ++ last) in
      let new : List Token = list_entries (take (list_extent (front ++ rest)).count (front ++ rest)) in
      or_else_kept (checked 64 x (all_tests tests [] x)) (tokens_stop tests (x ∷ []) old)
      (tokens_stop tests (x ∷ []) new) (Fault line k)
      (λ s. tokens_as tests (x ∷ []) new
      ∙ list_stops (all_tests tests) (λ before t. before ++ t ∷ []) line k (x ∷ []) front last rest h
      (omega (arith, le)) (sym (tokens_as tests (x ∷ []) old) ∙ s)) f

pub open_fixed : (after : After) → EndsOpen after → fixed_end after ≡ None
open_fixed Clean h = refl
open_fixed (Trailing line) h = absurd h
open_fixed (Early line whole) h = rw h refl

open_depot : (toks : List Token) (after : After) → EndsOpen after → depot_end toks after ≡ None
open_depot [] after h = open_fixed after h
open_depot (t ∷ ts) after h = open_trailing after h

pub faults : (before : List Piece) (word : Keyword) (n : ℕ) (front last rest : List Token) (after after' : After)
    (line : ℕ) (k : TextKind) → Lasts last rest
    → length (front ++ last) ≤ (problem_extent before word (front ++ last)).count → EndsOpen after
    → problem_section before word n (front ++ last) after ≡ Some (Fault line k)
    → problem_section before word n (take (problem_extent before word (front ++ rest)).count (front ++ rest))
    after' ≡ Some (Fault line k)
faults before words.DepotSection n front last rest after after' line k h le ended f =
    let tests : TokenTests = token_tests before words.DepotSection in
    let all : List Token = take (depot_extent (front ++ rest)).count (front ++ rest) in
    section_kept (first_at n (word_tests before words.DepotSection))
    (tokens_stop tests [] (depot_entries (front ++ last))) (tokens_stop tests [] (depot_entries all))
    (depot_end (front ++ last) after) (depot_end all after') (Fault line k)
    (open_depot (front ++ last) after ended) (depot_stays tests line k front last rest h le) f
faults before word n front last rest after after' line k h le ended f =
    let tests : TokenTests = token_tests before word in
    let all : List Token = take (fixed_extent (wanted before word) (front ++ rest)).count (front ++ rest) in
    section_kept (first_at n (word_tests before word)) (tokens_stop tests [] (front ++ last)) (tokens_stop tests [] all)
    (fixed_end after) (fixed_end after') (Fault line k) (open_fixed after ended)
    (fixed_stays tests line k (wanted before word) front last rest h le) f

pub decided_stay : StaysDecided problem_decided
decided_stay = decided_stays problem_format (record { extends = extends; faults = faults })
