-- The open section, token by token.
use Rattle.std.proofs.Common.{◌≡◌, ◌≢◌, ℕ, suc, ◌+◌, ◌-◌, ◌*◌, ◌<◌, ◌≤◌, Bool, true, false, cond, eqb, List, [], ◌∷◌}
use Rattle.std.proofs.Common.{◌++◌, length, Option, Some, None, Result, refl, sym, ap, subst, ◌∙◌, arith}
use Rattle.std.specs.Prelude.{IfOk, IfErr, slice_index, map, is_some}
use Rattle.std.proofs.lemmas.List.{length_push}
use Rattle.std.proofs.lemmas.Bool.{eqb-true, eqb-false}
use Rattle.std.proofs.lemmas.Result.{IfOk-weaker, IfErr-weaker}
use Rattle.tk_words.specs.declared.keyword.Keyword.{Keyword}
use Rattle.tk_words.specs.declared.keyword.Keyword.TheVariants as words
use Rattle.tk_words.specs.declared.fault.TextKind.{TextKind}
use Rattle.tk_words.specs.declared.fault.TextKind.TheVariants as kinds
use Rattle.tk_lines.specs.declared.handler.Taken.{Taken}
use Rattle.tk_lines.specs.declared.handler.Taken.TheVariants as takens
use Rattle.tk_problem_text.specs.declared.sections.depot.Depot.{Depot}
use Rattle.tk_problem_text.specs.declared.sections.open_section.OpenSection.{OpenSection}
use Rattle.tk_problem_text.specs.declared.sections.open_section.OpenSection.TheVariants.{Nothing, Home, Display}
use Rattle.tk_words.specs.Lex.{Token, is_empty}
use Rattle.tk_lines.specs.Pieces.{Piece, Clean, Early, Fault, first_at, Stop, or_else, After}
use Rattle.tk_words.specs.Entry.{is_keyword, is_some_word}
use Rattle.tk_lines.specs.Reader.Handlers.{IsReportedWord, whole, a_section, HasTakenToken, StopsAt}
use Rattle.tk_problem_text.specs.Reader.FixedTokens.{fixed_taken, IsFixed}
use Rattle.tk_problem_text.specs.Sections.FixedSections.{tokens_stop, fixed_end}
use Rattle.tk_problem_text.specs.Sections.Rows.{number_in}
use Rattle.tk_problem_text.specs.Problem.{problem_format, size_of, token_tests, wanted, word_tests}
use Rattle.tk_problem_text.specs.Reader.DepotTaken.{HasDepot, DepotTakes, DepotRefuses}
use Rattle.tk_problem_text.specs.Reader.OpenSections.{HasSome, IsOpen, IsCounted, IsFirstNode, IsFull, IsPast}
use Rattle.tk_problem_text.proofs.SectionTokens.FixedSections.{ready, stops_at_keyword, reported, has_taken}
use Rattle.tk_problem_text.proofs.SectionTokens.FixedSections.{fixed_taken-last, fixed_taken-more}
use Rattle.tk_problem_text.proofs.SectionTokens.DepotTaken.{some_node, node_of, node_of-ended}
use Rattle.tk_problem_text.proofs.SectionTokens.DepotList as Depots
use Rattle.tk_words.specs.Words.{same_word}

-- a section of a fixed count has tokens without a fault
has_some : (before : List Piece) (word : Keyword) (n : ℕ) (toks : List Token) (s : OpenSection) → IsCounted s →
    IsOpen before word n toks s → HasSome before word n toks
has_some before word n toks Nothing counted is_open = absurd is_open
has_some before word n toks (Home s) counted is_open = absurd counted
has_some before word n toks _ counted is_open = is_open.1

-- a section that is none of a depot has a fixed count
pub not_home : (before : List Piece) (word : Keyword) (n : ℕ) (toks : List Token) (s : OpenSection) →
    ((d : Depot) → s ≢ Home d) → IsOpen before word n toks s → IsCounted s
not_home before word n toks Nothing other is_open = absurd is_open
not_home before word n toks (Home d) other is_open = absurd (other d refl)
not_home before word n toks s other is_open = tt

-- a word that a token is
pub keyword_is : (word : Option Keyword) (b : Bool) → is_some word ≡ b → is_some_word word ≡ b
keyword_is None b is = is
keyword_is (Some word) b is = is

module _ (bytes : List ℕ) (short : length bytes ≤ 64) (before : List Piece) (n : ℕ) (toks : List Token) (line : ℕ) where
  -- what is promised where a section's state is s after the token
  abbrev Takes : Keyword → OpenSection → Taken → Type 0
  Takes word s = HasTakenToken problem_format (IsPast before word n s) (λ ps w m ts. IsOpen ps w m ts s)
      before word n toks
      (whole bytes line)

  abbrev Refuses : Keyword → TextKind → Type 0
  Refuses word = IsReportedWord (StopsAt problem_format before word n toks (whole bytes line))

  -- a keyword ends no section of a fixed count
  pub at_keyword : (word : Keyword) (s : OpenSection) → IsCounted s → is_keyword bytes ≡ true →
      IsOpen before word n toks s → StopsAt problem_format before word n toks (whole bytes line) kinds.Truncated
  at_keyword word s counted is is_open =
      stops_at_keyword (has_some before word n toks s counted is_open) (ready bytes line short) is

  module _ (number : is_keyword bytes ≡ false) where
    fine : (word : Keyword) → HasSome before word n toks → (s : OpenSection)
        → (length (toks ++ whole bytes line ∷ []) ≡ wanted before word
        → IsFull before word (toks ++ whole bytes line ∷ []) s)
        → (HasSome before word n (toks ++ whole bytes line ∷ [])
        → IsOpen before word n (toks ++ whole bytes line ∷ []) s)
        → first_at line (token_tests before word toks (whole bytes line)) ≡ None
        → (does : Taken) → does ≡ fixed_taken (wanted before word) toks → Takes word s does
    fine word has s full more none does is =
        let last : suc (length toks) ≡ wanted before word →
        IsPast before word n s (before ++ a_section word n (toks ++ whole bytes line ∷ []) Clean) =
        λ all.
        record {
          toks = toks ++ whole bytes line ∷ [];
          after = Clean;
          are = refl;
          full = full (omega (arith, all, length_push toks (whole bytes line)));
        } in
        rw is
        (has_taken has (ready bytes line short) number none (IsPast before word n s)
        (λ ps w m ts. IsOpen ps w m ts s) last more)

    pub display_take : (left left' : ℕ) (does : Taken) (word : Keyword) → IsOpen before word n toks (Display left) →
        left' ≡ left - 1 → does ≡ cond (eqb left' 0) takens.Last takens.More → Takes word (Display left') does
    display_take left left' does word is_open rest is =
        let has : HasSome before words.DisplayDataSection n toks =
        subst (λ w. HasSome before w n toks) is_open.0 is_open.1 in
        let now : left' + length (toks ++ whole bytes line ∷ []) ≡ 3 * size_of before =
        omega (arith, is_open.2, rest, has.fewer, length_push toks (whole bytes line)) in
        subst (λ w. Takes w (Display left') does) (sym is_open.0)
        (fine words.DisplayDataSection has (Display left') (λ all. refl) (λ more. (refl, more, now)) refl does
        (is ∙ by_test has (eqb left' 0) refl))
      where
        by_test : HasSome before words.DisplayDataSection n toks → (b : Bool) → eqb left' 0 ≡ b →
            cond b takens.Last takens.More ≡ fixed_taken (3 * size_of before) toks
        by_test has true e =
            fixed_taken-last (3 * size_of before) toks (omega (arith, is_open.2, rest, has.fewer, eqb-true left' 0 e))
        by_test has false e =
            fixed_taken-more (3 * size_of before) toks
            (λ all. omega (arith, is_open.2, rest, has.fewer, eqb-false left' 0 e, all))

    -- by what the reader of the section promises of the token
    module _ (r : Result Taken TextKind) (at word : Keyword) (is : word ≡ at) (has : HasSome before word n toks) where
      has_at : HasSome before at n toks
      has_at = subst (λ w. HasSome before w n toks) is has

      -- a token without a fault was taken, so that this holds
      abbrev Took : ℕ → Type 0 → Taken → Type 0
      Took count Holds does = (first_at line (token_tests before at toks (whole bytes line)) ≡ None) × Holds
          × (does ≡ fixed_taken count toks)

      pub takes : (count : ℕ) → wanted before at ≡ count → (s : OpenSection) (Holds : Type 0)
          → (length toks < count → IfOk r (Took count Holds))
          → (Holds → length (toks ++ whole bytes line ∷ []) ≡ count
          → IsFull before at (toks ++ whole bytes line ∷ []) s)
          → (Holds → HasSome before at n (toks ++ whole bytes line ∷ [])
          → IsOpen before at n (toks ++ whole bytes line ∷ []) s)
          → IfOk r (Takes word s)
      takes count wants s Holds h full more =
          let now = h (subst (λ k. length toks < k) wants has_at.fewer) in
          let each : (does : Taken) → Took count Holds does →
          Takes at s does = λ does p. fine at has_at s (λ all. full p.1 (all ∙ wants)) (more p.1) p.0 does
          (p.2 ∙ ap (λ k. fixed_taken k toks) (sym wants)) in
          subst (λ w. IfOk r (Takes w s)) (sym is) (IfOk-weaker r _ (Takes at s) each now)

      pub refuses : IfErr r
          (IsReportedWord (λ k. first_at line (token_tests before at toks (whole bytes line)) ≡ Some (Fault line k))) →
          IfErr r (Refuses word)
      refuses h =
          subst (λ w. IfErr r (Refuses w)) (sym is)
          (IfErr-weaker r _ (Refuses at) (reported has_at (ready bytes line short) number) h)

  -- ---- the depot

  module _ (s : Depot) (r : Result Taken TextKind) (word : Keyword) (is_open : IsOpen before word n toks (Home s)) where
    -- the depot is what the first token says
    is_first : (s' : Depot) → s' ≡ s → is_empty toks ≡ false → (ts : List Token) →
        ((x : ℕ) → s.node ≡ Some x → x ≡ slice_index (map number_in ts) 0) →
        IsFirstNode (size_of before) (slice_index (map number_in ts) 0) s'.node
    is_first s' same some ts first =
        let x = some_node (size_of before) s toks is_open.2 some in
        let is = node_of (size_of before) s toks is_open.2 x.0 x.1 in
        subst (IsFirstNode (size_of before) (slice_index (map number_in ts) 0))
        (sym (ap (λ (depot : Depot). depot.node) same ∙ x.1)) (first x.0 x.1, is.2, is.3)

    ended : (s' : Depot) → s' ≡ s → is_empty toks ≡ false → (ones : List Token) →
        IsPast before words.DepotSection n (Home s')
        (before ++ a_section words.DepotSection n ((toks ++ whole bytes line ∷ []) ++ ones) Clean)
    ended s' same some ones =
        let first =
        is_first s' same some ((toks ++ whole bytes line ∷ []) ++ ones)
        (λ x is. node_of-ended (size_of before) s toks is_open.2 x is (whole bytes line) ones) in
        record { toks = (toks ++ whole bytes line ∷ []) ++ ones; after = Clean; are = refl; full = (refl, first) }

    at_eof : (s' : Depot) → s' ≡ s → is_empty toks ≡ false →
        IsPast before words.DepotSection n (Home s') (before ++ a_section words.DepotSection n toks (Early line true))
    at_eof s' same some =
        let first = is_first s' same some toks (λ x is. (node_of (size_of before) s toks is_open.2 x is).1) in
        record { toks = toks; after = Early line true; are = refl; full = (refl, first) }

    pub home_take : (s' : Depot) →
        ((m : ℕ) (ts : List Token) (l : ℕ) → HasDepot m s ts → IfOk r (DepotTakes m s s' ts (whole bytes l))) →
        IfOk r (Takes word (Home s'))
    home_take s' h =
        let took : (does : Taken) → DepotTakes (size_of before) s s' toks (whole bytes line) does →
        Takes words.DepotSection (Home s') does =
        Depots.has_taken is_open.1 (whole bytes line) s s' (IsPast before words.DepotSection n (Home s'))
        (λ ps w m ts. IsOpen ps w m ts (Home s')) (λ new more. (refl, more, new)) (ended s') (at_eof s') in
        subst (λ w. IfOk r (Takes w (Home s'))) (sym is_open.0)
        (IfOk-weaker r _ (Takes words.DepotSection (Home s')) took (h (size_of before) toks line is_open.2))

    pub home_refuse : ((m : ℕ) (ts : List Token) (l : ℕ) → HasDepot m s ts →
        IfErr r (IsReportedWord (DepotRefuses m ts (whole bytes l)))) → IfErr r (Refuses word)
    home_refuse refuses = subst (λ w. IfErr r (Refuses w)) (sym is_open.0)
        (IfErr-weaker r _ (Refuses words.DepotSection) (Depots.stops is_open.1 (ready bytes line short))
        (refuses (size_of before) toks line is_open.2))

-- each but the depot list has a fixed count
pub problem_fixed : (before : List Piece) (word : Keyword) (n : ℕ) → same_word word words.DepotSection ≡ false →
    first_at n (word_tests before word) ≡ None →
    IsFixed problem_format before word n (token_tests before word) (wanted before word)
problem_fixed before words.DepotSection n other none = absurd cc
problem_fixed before word n other none =
    record {
      extent = λ toks. refl;
      section =
          λ toks after.
          ap (λ (s : Option Stop). or_else s
          (or_else (tokens_stop (token_tests before word) [] toks) (fixed_end after))) none;
    }

-- a word at which a test holds
pub problem_refused : (before : List Piece) (word : Keyword) (n : ℕ) (k : TextKind) →
    first_at n (word_tests before word) ≡ Some (Fault n k) → (toks : List Token) (after : After) →
    problem_format.section before word n toks after ≡ Some (Fault n k)
problem_refused before word n k fault toks after = rw fault refl
