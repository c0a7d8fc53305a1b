-- Sections of problem texts with places, by those of problem texts.
use Rattle.std.proofs.Common.{◌≡◌, ℕ, true, false, List, [], ◌∷◌, ◌++◌, length, take, ◌≤◌, Option}
use Rattle.std.proofs.Common.{Some, None, refl, sym, ap, subst, ◌∙◌}
use Rattle.tk_words.specs.declared.keyword.Keyword.{Keyword}
use Rattle.tk_words.specs.declared.keyword.Keyword.TheVariants as words
use Rattle.tk_words.specs.declared.fault.TextKind.{TextKind}
use Rattle.tk_words.specs.declared.fault.TextKind.TheVariants as kinds
use Rattle.tk_words.specs.Lex.{Token}
use Rattle.tk_lines.specs.declared.handler.Taken.{Taken}
use Rattle.tk_lines.specs.declared.handler.Taken.TheVariants.{Ending, Eof, Last, More}
use Rattle.tk_lines.specs.Pieces.{After, Clean, Early, Fault, Format, Piece, Stop, Trailing, first_at, or_else}
use Rattle.tk_lines.specs.Pieces as pieces
use Rattle.tk_lines.specs.Reader.Handlers.{Closed, EndsAtEof, EndsWithMinusOne, Goes, HasTakenToken, StopsAt}
use Rattle.tk_lines.specs.Reader.Handlers.{a_section}
use Rattle.tk_problem_text.specs.declared.sections.open_section.OpenSection.{OpenSection}
use Rattle.tk_problem_text.specs.declared.sections.open_section.OpenSection.TheVariants as sections
use Rattle.tk_problem_text.specs.Placed.{placed_format, placed_section, placed_tests, reads_display}
use Rattle.tk_problem_text.specs.Problem.{problem_format, problem_section, section_end, section_entries}
use Rattle.tk_problem_text.specs.Problem.{token_tests, word_tests}
use Rattle.tk_problem_text.specs.Reader.OpenSections.{HasSome, IsOpen}
use Rattle.tk_problem_text.specs.Reader.Coordinates.{Placing}
use Rattle.tk_problem_text.specs.Reader.PlacedHandler.{HasDisplay, HasShown, IsPlacing}
use Rattle.tk_problem_text.specs.declared.display.Display.{Display}
use Rattle.tk_problem_text.specs.declared.display.Display.TheVariants.{Read, Unread}
use Rattle.tk_problem_text.specs.declared.display.Display.TheVariants.{Open}
use Rattle.tk_problem_text.specs.declared.placed_handler.PlacedHandler.{PlacedHandler}
use Rattle.tk_problem_text.specs.Reader.ProblemHandler.{ProblemWants}
use Rattle.tk_problem_text.specs.declared.problem_handler.ProblemHandler.{ProblemHandler}
use Rattle.tk_problem_text.specs.Sections.FixedSections.{TokenTests, tokens_stop}
use Rattle.tk_problem_text.proofs.SectionTokens.FixedSections.{begins, none_of_both}

-- ---- sections of two formats with the same extents and stops

module _ {V W : Type 0} (f : Format V) (g : Format W) (before : List Piece) (word : Keyword) (n : ℕ)
    (extents : (toks : List Token) → f.extent before word toks ≡ g.extent before word toks)
    (stops : (toks : List Token) (after : After) → f.section before word n toks after ≡ g.section before word n toks
    after) where
  section_taken : (toks : List Token) (after : After) (s : Option Stop)
      → f.section before word n (take (f.extent before word toks).count toks) after ≡ s
      → g.section before word n (take (g.extent before word toks).count toks) after ≡ s
  section_taken toks after s h =
      ap (λ e. g.section before word n (take e.count toks) after) (sym (extents toks))
      ∙ sym (stops (take (f.extent before word toks).count toks) after) ∙ h

  pub same_goes : (toks : List Token) → Goes f before word n toks → Goes g before word n toks
  same_goes toks h = record {
    covers = λ more. subst (λ e. length toks ≤ e.count) (extents (toks ++ more)) (h.covers more);
    long = λ t more after le. section_taken (toks ++ t ∷ more) after (Some (Fault t.line kinds.TooLong))
        (h.long t more after le);
    opens = λ t after partial le. section_taken (toks ++ t ∷ []) after (Some pieces.Open) (h.opens t after partial le);
    ends = sym (extents toks) ∙ h.ends;
    early = λ line. sym (stops toks (Early line false)) ∙ h.early line;
  }

  same_closed : (toks : List Token) → Closed f before word n toks → Closed g before word n toks
  same_closed toks h = record {
    extent = λ more. sym (extents (toks ++ more)) ∙ h.extent more;
    clean = sym (stops toks Clean) ∙ h.clean;
    trailing = λ line. sym (stops toks (Trailing line)) ∙ h.trailing line;
  }

  same_ending : (toks : List Token) → EndsWithMinusOne f before word n toks → EndsWithMinusOne g before word n toks
  same_ending toks h = record {
    extent = λ more. sym (extents (toks ++ more)) ∙ h.extent more;
    clean = λ ones. sym (stops (toks ++ ones) Clean) ∙ h.clean ones;
    trailing = λ ones line. sym (stops (toks ++ ones) (Trailing line)) ∙ h.trailing ones line;
  }

  same_eof : (toks : List Token) (t : Token) → EndsAtEof f before word n toks t → EndsAtEof g before word n toks t
  same_eof toks t h = record {
    extent = λ more. sym (extents (toks ++ t ∷ more)) ∙ h.extent more;
    early = sym (stops toks (Early t.line true)) ∙ h.early;
  }

  -- a token has the same effect
  pub same_taken : (P Q : List Piece → Type 0) (X Y : List Piece → Keyword → ℕ → List Token → Type 0)
      (toks : List Token) (t : Token)
      → ((ts : List Token) (after : After) → P (before ++ a_section word n ts after)
      → Q (before ++ a_section word n ts after))
      → ((ts : List Token) → X before word n ts → Y before word n ts)
      → (taken : Taken) → HasTakenToken f P X before word n toks t taken
      → HasTakenToken g Q Y before word n toks t taken
  same_taken P Q X Y toks t held wanted More h =
      (wanted (toks ++ t ∷ []) h.0, same_goes (toks ++ t ∷ []) h.1)
  same_taken P Q X Y toks t held wanted Last h =
      (held (toks ++ t ∷ []) Clean h.0, same_closed (toks ++ t ∷ []) h.1)
  same_taken P Q X Y toks t held wanted Ending h =
      ((λ ones. held ((toks ++ t ∷ []) ++ ones) Clean (h.0 ones)), same_ending (toks ++ t ∷ []) h.1)
  same_taken P Q X Y toks t held wanted Eof h = (held toks (Early t.line true) h.0, same_eof toks t h.1)

  pub same_stop : (toks : List Token) (t : Token) (k : TextKind) → StopsAt f before word n toks t k →
      StopsAt g before word n toks t k
  same_stop toks t k h = λ more after. section_taken (toks ++ t ∷ more) after (Some (Fault t.line k)) (h more after)

-- ---- sections whose values are not display data that are read

same_tests : (before : List Piece) (word : Keyword) → reads_display before word ≡ false →
    placed_tests before word ≡ token_tests before word
same_tests before word skipped = rw skipped refl

pub same_section : (before : List Piece) (word : Keyword) (n : ℕ) → reads_display before word ≡ false →
    (toks : List Token) (after : After) →
    problem_format.section before word n toks after ≡ placed_format.section before word n toks after
same_section before word n skipped toks after =
    ap (λ (tests : TokenTests). or_else (first_at n (word_tests before word))
    (or_else (tokens_stop tests [] (section_entries word toks)) (section_end word toks after)))
    (sym (same_tests before word skipped))

-- ---- the word of a section

nothing_stops : (tests : TokenTests) (word : Keyword) →
    or_else (tokens_stop tests [] (section_entries word [])) (section_end word [] Clean) ≡ None
unfolding tokens_stop
nothing_stops tests words.DepotSection = refl
nothing_stops tests _ = refl

or_else_none : (s t u : Option Stop) → t ≡ None → or_else s t ≡ u → s ≡ u
or_else_none None t u none h = sym none ∙ h
or_else_none (Some x) t u none h = h

-- a fault at the word, whatever its section contains
pub placed_refused : (before : List Piece) (word : Keyword) (n : ℕ) (k : TextKind)
    → ((toks : List Token) (after : After) → problem_section before word n toks after ≡ Some (Fault n k))
    → (toks : List Token) (after : After) → placed_section before word n toks after ≡ Some (Fault n k)
placed_refused before word n k h toks after =
    let fault = or_else_none (first_at n (word_tests before word)) _ (Some (Fault n k))
    (nothing_stops (token_tests before word) word) (h [] Clean) in
    rw fault refl

-- a section of a display that is open
display_some : (before : List Piece) (n : ℕ) (s : OpenSection) → IsOpen before words.DisplayDataSection n [] s →
    HasSome before words.DisplayDataSection n []
display_some before n sections.Nothing is = elim is [ ]
display_some before n (sections.Home s) is = absurd (let e = is.0 in cc)
display_some before n (sections.Places s) is = is.1
display_some before n (sections.Explicit s) is = is.1
display_some before n (sections.Loads s) is = is.1
display_some before n (sections.Display left) is = is.1

-- the display data begin
pub begins_shown : (s : ProblemHandler) (before : List Piece) (word : Keyword) (n : ℕ)
    → word ≡ words.DisplayDataSection → reads_display before word ≡ true → ProblemWants s before word n []
    → Goes problem_format before word n [] → HasShown before n []
begins_shown s before word n is read wants goes =
    let some = display_some before n s.current (rw is at wants.section) in
    let fine = (none_of_both (first_at n (word_tests before word)) _ (goes.early 0)).0 in
    record {
      sized = wants.sized;
      fresh = rw is at wants.fresh;
      read = rw is at read;
      tokens = begins (record {
        extent = λ toks. refl;
        section = λ toks after. rw (rw is at fine, rw is at read) refl;
      }) some.fewer;
    }

-- ---- a section whose values are not display data that are read

pub still_closed : (s : PlacedHandler) (before : List Piece) (word : Keyword) (n : ℕ) (toks : List Token)
    (display : Display) → reads_display before word ≡ false → ProblemWants s.problem before word n toks
    → HasDisplay before display → IsPlacing s before word n toks display
still_closed s before word n toks Unread skipped wants h = (skipped, wants, h)
still_closed s before word n toks (Open section) skipped wants h = elim h [ ]
still_closed s before word n toks (Read points) skipped wants h = (skipped, wants, h)

pub closed_wants : (s : PlacedHandler) (before : List Piece) (word : Keyword) (n : ℕ) (toks : List Token)
    (display : Display) → ((section : Placing) → display ≡ Open section → ⊥)
    → IsPlacing s before word n toks display
    → (reads_display before word ≡ false) × ProblemWants s.problem before word n toks × HasDisplay before display
closed_wants s before word n toks Unread other h = h
closed_wants s before word n toks (Open section) other h = absurd (other section refl)
closed_wants s before word n toks (Read points) other h = h
