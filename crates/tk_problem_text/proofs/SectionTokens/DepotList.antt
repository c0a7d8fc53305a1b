-- The section of a depot, token by token.
--
-- For an implementation of `Handler`: let `wants` say of an open section `HasDepotTokens before first toks`, beside
-- `HasDepot (size_of before) depot toks`. Then
-- * `section`: `begins` gives the first `HasDepotTokens`, and `goes` the `Goes`;
-- * `token`: `ready` (of `FixedSections`) for the token; of what `Depot::take` ensures, `stops` makes what is promised
-- of an
--   `Err`, and `has_taken` what is promised of an `Ok`;
-- * `end_section`: `ends_early` without a node, `ends_behind` with one.
use Rattle.std.proofs.Common.{◌≡◌, ◌≤◌, ℕ, true, false, not, ◌&&◌, List, [], ◌∷◌, ◌++◌, length, take}
use Rattle.std.proofs.Common.{Option, Some, None, refl, ap, ◌∙◌, arith}
use Rattle.std.proofs.lemmas.Bool.{or_parts}
use Rattle.tk_problem_text.specs.declared.sections.depot.Depot.{Depot}
use Rattle.tk_words.specs.declared.keyword.Keyword.{Keyword}
use Rattle.tk_words.specs.declared.keyword.Keyword.TheVariants as words
use Rattle.tk_words.specs.declared.fault.TextKind.{TextKind}
use Rattle.tk_words.specs.declared.fault.TextKind.TheVariants as kinds
use Rattle.tk_lines.specs.declared.handler.Taken.{Taken}
use Rattle.tk_lines.specs.declared.handler.Taken.TheVariants as takens
use Rattle.tk_words.specs.Lex.{Token, is_empty}
use Rattle.tk_lines.specs.Pieces.{Piece, After, Clean, Trailing, Early, Stop, Open, Fault, first_at, or_else}
use Rattle.tk_words.specs.MinusOne.{is_ending}
use Rattle.tk_words.specs.Entry.{is_eof}
use Rattle.tk_lines.specs.Lists.{list_extent, list_entries}
use Rattle.tk_lines.specs.Reader.Handlers.{IsReportedWord, a_section, taken, Goes, EndsWithMinusOne, EndsAtEof, StopsAt}
use Rattle.tk_lines.specs.Reader.Handlers.{HasTakenToken}
use Rattle.tk_problem_text.specs.Sections.FixedSections.{tokens_stop}
use Rattle.tk_problem_text.specs.Sections.DepotList.{depot_tests, depot_extent, depot_entries, depot_end}
use Rattle.tk_problem_text.specs.Reader.DepotTaken.{IsDepot, HasDepot, is_list_end, DepotTakes, DepotRefuses}
use Rattle.tk_problem_text.specs.Reader.OpenSections.{HasDepotTokens}
use Rattle.tk_problem_text.specs.Problem.{problem_format, size_of, word_tests}
use Rattle.tk_problem_text.proofs.SectionTokens.FixedSections.{IsReady, stop_at, stop_at_long, stop_at_open}
use Rattle.tk_problem_text.proofs.SectionTokens.DepotTaken.{has_none}
use Rattle.tk_lines.proofs.Sections.ListTokens.{long_goes, open_goes}
use Rattle.tk_lines.proofs.Pieces.ReportedFaults.{reported_word}

passes : (toks : List Token) (t : Token) → (is_ending t ≡ false) × ((t.whole && is_eof t.bytes) ≡ false) →
    (not (is_empty toks) && is_list_end t) ≡ false
passes [] t h = refl
passes (x ∷ ts) t h = rw (h.0, h.1) refl

covers : (toks : List Token) → length toks ≤ 1 → (more : List Token) → length toks ≤ (depot_extent (toks ++ more)).count
covers [] few more = omega arith
covers (x ∷ []) few more = omega arith
covers (x ∷ y ∷ ts) few more = absurd (omega (arith, few))

still_open : (toks : List Token) → length toks ≤ 1 →
    depot_extent toks ≡ record { count = length toks; closed = false; at_eof = false }
unfolding list_extent
still_open [] few = refl
still_open (x ∷ []) few = refl
still_open (x ∷ y ∷ ts) few = absurd (omega (arith, few))

no_end : (toks : List Token) (line : ℕ) → depot_end toks (Early line false) ≡ None
no_end [] line = refl
no_end (x ∷ ts) line = refl

-- the tokens of the list up to this one, whatever follows
behind : (toks more : List Token) (t : Token) → length toks ≤ 1 → (not (is_empty toks) && is_list_end t) ≡ false
    → (rest : List Token)
    × (depot_entries (take (depot_extent (toks ++ t ∷ more)).count (toks ++ t ∷ more)) ≡ toks ++ t ∷ rest)
unfolding list_extent list_entries
behind [] more t few goes = (list_entries (take (list_extent more).count more), refl)
behind (x ∷ []) more t few goes =
    let no = or_parts (is_ending t) (t.whole && is_eof t.bytes) goes in
    (list_entries (take (list_extent more).count more), rw (no.0, no.1, no.0) refl)
behind (x ∷ y ∷ ts) more t few goes = absurd (omega (arith, few))

module _ {before : List Piece} {n : ℕ} where
  pub begins : first_at n (word_tests before words.DepotSection) ≡ None → HasDepotTokens before n []
  begins none = record { word = none; few = omega arith; good = (has_none (size_of before)).good }

  -- what the reader has taken of it
  pub reads : first_at n (word_tests before words.DepotSection) ≡ None → (s : Depot) (toks : List Token) →
      HasDepot (size_of before) s toks → HasDepotTokens before n toks
  reads none s toks has = record { word = none; few = at_most s.node has.node; good = has.good }
    where
      at_most : (d : Option ℕ) → IsDepot (size_of before) d toks → length toks ≤ 1
      at_most None is = rw is (omega arith)
      at_most (Some x) is = rw is.1 (omega arith)

  module _ {toks : List Token} (has : HasDepotTokens before n toks) where
    section_by : (ts : List Token) (after : After) (s : Option Stop)
        → tokens_stop (depot_tests (size_of before)) [] (depot_entries ts) ≡ s
        → problem_format.section before words.DepotSection n ts after ≡ or_else s (depot_end ts after)
    section_by ts after s h = rw (has.word, h) refl

  -- a stop at a token, whatever follows it
  section_stops : {toks : List Token} → HasDepotTokens before n toks → (t : Token) (s : Stop)
      → (not (is_empty toks) && is_list_end t) ≡ false
      → ((more : List Token) → tokens_stop (depot_tests (size_of before)) [] (toks ++ t ∷ more) ≡ Some s)
      → (more : List Token) (after : After) →
      problem_format.section before words.DepotSection n
      (taken problem_format before words.DepotSection (toks ++ t ∷ more)) after ≡ Some s
  section_stops {toks = toks} has t s goes stops more after =
      let b = behind toks more t has.few goes in
      section_by has (taken problem_format before words.DepotSection (toks ++ t ∷ more)) after (Some s)
      (ap (tokens_stop (depot_tests (size_of before)) []) b.1 ∙ stops b.0)

  all_good : {toks : List Token} → HasDepotTokens before n toks →
      tokens_stop (depot_tests (size_of before)) [] (depot_entries toks) ≡ None
  unfolding list_entries
  all_good {toks = []} has = has.good
  all_good {toks = x ∷ []} has = has.good
  all_good {toks = x ∷ y ∷ ts} has = absurd (omega (arith, has.few))

  -- a section goes on after tokens without a fault
  pub goes : {toks : List Token} → HasDepotTokens before n toks → Goes problem_format before words.DepotSection n toks
  goes {toks = toks} has = record {
    covers = λ more. covers toks has.few more;
    long = λ t more after long. section_stops has t (Fault t.line kinds.TooLong) (passes toks t (long_goes t long))
        (stop_at_long (depot_tests (size_of before)) toks t has.good long) more after;
    opens = λ t after partial short. section_stops has t Open (passes toks t (open_goes t partial))
        (stop_at_open (depot_tests (size_of before)) toks t has.good partial short) [] after;
    ends = still_open toks has.few;
    early = λ line. section_by has toks (Early line false) None (all_good has) ∙ no_end toks line;
  }

  -- a section that ends too early, and one that may end there
  pub ends_early : {toks : List Token} → HasDepotTokens before n toks → is_empty toks ≡ true → (line : ℕ) →
      problem_format.section before words.DepotSection n toks (Early line true) ≡ Some (Fault line kinds.Truncated)
  ends_early {toks = []} has none line = section_by has [] (Early line true) None (all_good has)
  ends_early {toks = x ∷ ts} has none line = absurd cc

  pub ends_behind : {toks : List Token} → HasDepotTokens before n toks → is_empty toks ≡ false → (line : ℕ) →
      problem_format.section before words.DepotSection n toks (Early line true) ≡ None
  ends_behind {toks = []} has some line = absurd cc
  ends_behind {toks = x ∷ ts} has some line = section_by has (x ∷ ts) (Early line true) None (all_good has)

  -- the -1 after the node
  ends : {toks : List Token} → HasDepotTokens before n toks → is_empty toks ≡ false → (t : Token) → is_ending t ≡ true →
      EndsWithMinusOne problem_format before words.DepotSection n (toks ++ t ∷ [])
  unfolding list_extent list_entries
  ends {toks = []} has some t end = absurd cc
  ends {toks = x ∷ []} has some t end =
      let fine : (ones : List Token) →
      tokens_stop (depot_tests (size_of before)) [] (depot_entries (x ∷ t ∷ ones)) ≡ None =
      λ ones. rw end has.good in
      record {
        extent = λ more. rw end (ap (λ (k : ℕ). record { count = k; closed = true; at_eof = false }) (omega arith));
        clean = λ ones. section_by has (x ∷ t ∷ ones) Clean None (fine ones);
        trailing = λ ones line. section_by has (x ∷ t ∷ ones) (Trailing line) None (fine ones);
      }
  ends {toks = x ∷ y ∷ ts} has some t end = absurd (omega (arith, has.few))

  -- an EOF after the node
  ends_at_eof : {toks : List Token} → HasDepotTokens before n toks → is_empty toks ≡ false → (t : Token) →
      is_ending t ≡ false → (t.whole && is_eof t.bytes) ≡ true →
      EndsAtEof problem_format before words.DepotSection n toks t
  unfolding list_extent
  ends_at_eof {toks = []} has some t other eof = absurd cc
  ends_at_eof {toks = x ∷ []} has some t other eof =
      record { extent = λ more. rw (other, eof) refl; early = ends_behind has some t.line }
  ends_at_eof {toks = x ∷ y ∷ ts} has some t other eof = absurd (omega (arith, has.few))

  module _ {toks : List Token} (has : HasDepotTokens before n toks) {t : Token} (ready : IsReady t) where
    stops_at : (k : TextKind) → DepotRefuses (size_of before) toks t k →
        StopsAt problem_format before words.DepotSection n toks t k
    stops_at k h =
        section_stops has t (Fault t.line k) h.goes
        (stop_at (depot_tests (size_of before)) toks t has.good ready (Fault t.line k) h.fault)

    -- what is promised of a token that the reader refuses
    pub stops : (k : TextKind) → IsReportedWord (DepotRefuses (size_of before) toks t) k →
        IsReportedWord (StopsAt problem_format before words.DepotSection n toks t) k
    stops k h =
        reported_word (DepotRefuses (size_of before) toks t) (StopsAt problem_format before words.DepotSection n toks t)
        k
        (stops_at k) h

  -- what is promised of a token that it took
  pub has_taken : {toks : List Token} → HasDepotTokens before n toks
      → (t : Token) (old new : Depot) (holds : List Piece → Type 0)
      (wants : List Piece → Keyword → ℕ → List Token → Type 0)
      → (HasDepot (size_of before) new (toks ++ t ∷ []) → HasDepotTokens before n (toks ++ t ∷ [])
      → wants before words.DepotSection n (toks ++ t ∷ []))
      → (new ≡ old → is_empty toks ≡ false → (ones : List Token)
      → holds (before ++ a_section words.DepotSection n ((toks ++ t ∷ []) ++ ones) Clean))
      → (new ≡ old → is_empty toks ≡ false → holds (before ++ a_section words.DepotSection n toks (Early t.line true)))
      → (does : Taken) → DepotTakes (size_of before) old new toks t does →
      HasTakenToken problem_format holds wants before words.DepotSection n toks t does
  has_taken {toks = toks} has t old new holds wants more ending eof takens.More h =
      let now = reads has.word new (toks ++ t ∷ []) h in
      (more h now, goes now)
  has_taken has t old new holds wants more ending eof takens.Last h = absurd h
  has_taken has t old new holds wants more ending eof takens.Ending h = (ending h.0 h.1, ends has h.1 t h.2)
  has_taken has t old new holds wants more ending eof takens.Eof h = (eof h.0 h.1, ends_at_eof has h.1 t h.2 h.3)
