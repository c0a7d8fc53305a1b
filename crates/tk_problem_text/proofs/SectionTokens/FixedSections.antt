-- Sections of a fixed count of tokens, token by token.
--
-- For an implementation of `Handler`: let `wants` say `HasTokens format before word first tests count toks` of an open
-- section of a fixed count, beside what its state holds of `toks`. Then
-- * `section`: `problem_fixed` gives the `IsFixed` of a section whose word's tests all fail, `begins` the first
-- `HasTokens`,
--   and `goes` the `Goes`; `problem_refused` is for a word at which a test holds;
-- * `token`: `ready` for the token; `stops_at_keyword` where it is a keyword; for a fault that the section's reader
-- tells, `reported`
--   makes of it what is promised of an `Err`; for a token that it took, `has_taken` what is promised of an `Ok`;
-- * `end_section`: `ends_early`.
use Rattle.std.proofs.Common.{◌≡◌, ◌≢◌, ℕ, zero, suc, ◌<◌, ◌≤◌, min, Bool, true, false, cond, eqb, List, [], ◌∷◌, ◌++◌}
use Rattle.std.proofs.Common.{length, length-append, take, Option, Some, None, refl, ap, ◌∙◌, append_assoc, arith}
use Rattle.std.proofs.lemmas.List.{append-nil, length_push}
use Rattle.std.proofs.lemmas.Bool.{lt-ltb, le-ltb, le-leb, lt-leb, eqb-true, eqb-false, eq-eqb, ne_eqb}
use Rattle.tk_words.specs.declared.keyword.Keyword.{Keyword}
use Rattle.tk_words.specs.declared.fault.TextKind.{TextKind}
use Rattle.tk_words.specs.declared.fault.TextKind.TheVariants as kinds
use Rattle.tk_lines.specs.declared.handler.Taken.TheVariants as takens
use Rattle.tk_words.specs.Lex.{Token}
use Rattle.tk_lines.specs.Pieces.{Piece, Stop, Open, Fault, first_at, checked, or_else, After, Clean, Trailing, Early}
use Rattle.tk_lines.specs.Pieces.{Format}
use Rattle.tk_words.specs.Entry.{is_keyword}
use Rattle.tk_lines.specs.Reader.Handlers.{IsReportedWord, whole, a_section, taken, Goes, Closed, StopsAt}
use Rattle.tk_lines.specs.Reader.Handlers.{HasTakenToken}
use Rattle.tk_problem_text.specs.Sections.FixedSections.{TokenTests, all_tests, tokens_stop}
use Rattle.tk_problem_text.specs.Reader.FixedTokens.{fixed_taken, IsFixed, HasTokens}
use Rattle.tk_lines.proofs.Pieces.ReportedFaults.{reported_word}

-- ---- one token

-- a token that has ended, and is not too long
pub record IsReady (t : Token) : Type 0 where
  pub whole : t.whole ≡ true
  pub short : length t.bytes ≤ 64

pub ready : (bs : List ℕ) (line : ℕ) → length bs ≤ 64 → IsReady (whole bs line)
ready bs line short = record { whole = refl; short = short }

module _ (t : Token) (tests : List (Bool × TextKind)) where
  checked-long : 64 < length t.bytes → checked 64 t tests ≡ Some (Fault t.line kinds.TooLong)
  checked-long h = rw (lt-ltb _ _ h) refl

  checked-open : t.whole ≡ false → length t.bytes ≤ 64 → checked 64 t tests ≡ Some Open
  checked-open partial h = rw (le-ltb _ _ h, partial) refl

  pub checked-ready : IsReady t → checked 64 t tests ≡ first_at t.line tests
  checked-ready r = rw (le-ltb _ _ r.short, r.whole) refl

pub none_of_both : (x y : Option Stop) → or_else x y ≡ None → (x ≡ None) × (y ≡ None)
none_of_both None y h = (refl, h)
none_of_both (Some s) y h = absurd cc

module _ (tests : TokenTests) where
  -- tokens without a stop are passed over
  pub tokens_stop-append : (before toks more : List Token) → tokens_stop tests before toks ≡ None →
      tokens_stop tests before (toks ++ more) ≡ tokens_stop tests (before ++ toks) more
  unfolding tokens_stop
  tokens_stop-append before [] more h = rw (append-nil before) refl
  tokens_stop-append before (t ∷ toks) more h =
      let n = none_of_both (checked 64 t (all_tests tests before t)) _ h in
      rw n.0 (tokens_stop-append (before ++ t ∷ []) toks more n.1
      ∙ ap (λ bs. tokens_stop tests bs more) (append_assoc before (t ∷ []) toks))

  pub at_once : (before more : List Token) (t : Token) (s : Option Stop) → checked 64 t (all_tests tests before t) ≡ s →
      tokens_stop tests before (t ∷ more) ≡ or_else s (tokens_stop tests (before ++ t ∷ []) more)
  unfolding tokens_stop
  at_once before more t s h = rw h refl

  pub tokens_stop-none : (before : List Token) → tokens_stop tests before [] ≡ None
  unfolding tokens_stop
  tokens_stop-none before = refl

  tokens_stop-more : (toks more : List Token) (t : Token) (s : Option Stop) → tokens_stop tests [] toks ≡ None →
      checked 64 t (all_tests tests toks t) ≡ s →
      tokens_stop tests [] (toks ++ t ∷ more) ≡ or_else s (tokens_stop tests (toks ++ t ∷ []) more)
  tokens_stop-more toks more t s good h = tokens_stop-append [] toks (t ∷ more) good ∙ at_once toks more t s h

  module _ (toks : List Token) (t : Token) (good : tokens_stop tests [] toks ≡ None) where
    -- one more token without a fault, by the first of all its tests that holds
    pub no_stop_at : IsReady t → first_at t.line (all_tests tests toks t) ≡ None →
        tokens_stop tests [] (toks ++ t ∷ []) ≡ None
    no_stop_at ready none = tokens_stop-more toks [] t None good (checked-ready t (all_tests tests toks t) ready ∙ none)
        ∙ tokens_stop-none (toks ++ t ∷ [])

    no_stop : IsReady t → is_keyword t.bytes ≡ false → first_at t.line (tests toks t) ≡ None →
        tokens_stop tests [] (toks ++ t ∷ []) ≡ None
    no_stop ready number none = no_stop_at ready (rw number none)

    -- the first token with one, whatever follows it
    pub stop_at : IsReady t → (s : Stop) → first_at t.line (all_tests tests toks t) ≡ Some s → (more : List Token) →
        tokens_stop tests [] (toks ++ t ∷ more) ≡ Some s
    stop_at ready s fault more =
        tokens_stop-more toks more t (Some s) good (checked-ready t (all_tests tests toks t) ready ∙ fault)

    stop_at_fault : IsReady t → is_keyword t.bytes ≡ false → (k : TextKind) →
        first_at t.line (tests toks t) ≡ Some (Fault t.line k) → (more : List Token) →
        tokens_stop tests [] (toks ++ t ∷ more) ≡ Some (Fault t.line k)
    stop_at_fault ready number k fault = stop_at ready (Fault t.line k) (rw number fault)

    stop_at_keyword : IsReady t → is_keyword t.bytes ≡ true → (more : List Token) →
        tokens_stop tests [] (toks ++ t ∷ more) ≡ Some (Fault t.line kinds.Truncated)
    stop_at_keyword ready word = stop_at ready (Fault t.line kinds.Truncated) (rw word refl)

    pub stop_at_long : 64 < length t.bytes → (more : List Token) →
        tokens_stop tests [] (toks ++ t ∷ more) ≡ Some (Fault t.line kinds.TooLong)
    stop_at_long long more =
        tokens_stop-more toks more t (Some (Fault t.line kinds.TooLong)) good
        (checked-long t (all_tests tests toks t) long)

    pub stop_at_open : t.whole ≡ false → length t.bytes ≤ 64 → (more : List Token) →
        tokens_stop tests [] (toks ++ t ∷ more) ≡ Some Open
    stop_at_open partial short more =
        tokens_stop-more toks more t (Some Open) good (checked-open t (all_tests tests toks t) partial short)

-- ---- a section

-- a section takes a token after fewer than its count
take_fewer : (count : ℕ) (toks more : List Token) (t : Token) → length toks < count →
    (rest : List Token) × (take count (toks ++ t ∷ more) ≡ toks ++ t ∷ rest)
take_fewer zero toks more t h = absurd (omega arith)
take_fewer (suc k) [] more t h = (take k more, refl)
take_fewer (suc k) (x ∷ toks) more t h =
    let r = take_fewer k toks more t (omega arith) in
    (r.0, ap (λ (ts : List Token). x ∷ ts) r.1)

module _ {V : Type 0} {f : Format V} {before : List Piece} {word : Keyword} {n : ℕ} {tests : TokenTests}
    {count : ℕ} where
  pub begins : IsFixed f before word n tests count → 0 < count → HasTokens f before word n tests count []
  begins fixed some = record { fixed = fixed; good = tokens_stop-none tests []; fewer = some }

  taken-fewer : (toks : List Token) → HasTokens f before word n tests count toks → (t : Token) (more : List Token) →
      (rest : List Token) × (taken f before word (toks ++ t ∷ more) ≡ toks ++ t ∷ rest)
  taken-fewer toks has t more =
      let r =
      take_fewer (min count (length (toks ++ t ∷ more))) toks more t
      (omega (arith, has.fewer, length-append toks (t ∷ more))) in
      (r.0, ap (λ e. take e.count (toks ++ t ∷ more)) (has.fixed.extent (toks ++ t ∷ more)) ∙ r.1)

  -- a stop at a token, whatever follows it
  section_stops : (toks : List Token) → HasTokens f before word n tests count toks → (t : Token) (s : Stop) →
      ((more : List Token) → tokens_stop tests [] (toks ++ t ∷ more) ≡ Some s) → (more : List Token) (after : After) →
      f.section before word n (taken f before word (toks ++ t ∷ more)) after ≡ Some s
  section_stops toks has t s stops more after =
      let r = taken-fewer toks has t more in
      ap (λ ts. f.section before word n ts after) r.1 ∙ has.fixed.section (toks ++ t ∷ r.0) after ∙ rw (stops r.0) refl

  -- a section goes on after tokens without a fault that are fewer than its count
  pub goes : {toks : List Token} → HasTokens f before word n tests count toks → Goes f before word n toks
  goes {toks = toks} has = record {
    covers = λ more. rw (has.fixed.extent (toks ++ more)) (omega (arith, has.fewer, length-append toks more));
    long =
        λ t more after h. section_stops toks has t (Fault t.line kinds.TooLong)
        (stop_at_long tests toks t has.good h) more after;
    opens = λ t after partial h. section_stops toks has t Open (stop_at_open tests toks t has.good partial h) [] after;
    ends =
        let few : min count (length toks) ≡ length toks = omega (arith, has.fewer) in
        has.fixed.extent toks ∙ rw (few, lt-leb _ _ has.fewer) refl;
    early = λ line. has.fixed.section toks (Early line false) ∙ rw has.good refl;
  }

  -- a section whose tokens end too early
  pub ends_early : {toks : List Token} → HasTokens f before word n tests count toks → (line : ℕ) →
      f.section before word n toks (Early line true) ≡ Some (Fault line kinds.Truncated)
  ends_early {toks = toks} has line = has.fixed.section toks (Early line true) ∙ rw has.good refl

  module _ {toks : List Token} (has : HasTokens f before word n tests count toks) {t : Token} (ready : IsReady t) where
    pub stops_at_keyword : is_keyword t.bytes ≡ true → StopsAt f before word n toks t kinds.Truncated
    stops_at_keyword is =
        section_stops toks has t (Fault t.line kinds.Truncated) (stop_at_keyword tests toks t has.good ready is)

    module _ (number : is_keyword t.bytes ≡ false) where
      pub stops_at : (k : TextKind) → first_at t.line (tests toks t) ≡ Some (Fault t.line k) →
          StopsAt f before word n toks t k
      stops_at k fault =
          section_stops toks has t (Fault t.line k) (stop_at_fault tests toks t has.good ready number k fault)

      -- a fault that is reported of a token is one of its section
      pub reported : (k : TextKind) → IsReportedWord (λ k. first_at t.line (tests toks t) ≡ Some (Fault t.line k)) k →
          IsReportedWord (StopsAt f before word n toks t) k
      reported k = reported_word (λ k. first_at t.line (tests toks t) ≡ Some (Fault t.line k))
          (StopsAt f before word n toks t) k (stops_at k)

      module _ (none : first_at t.line (tests toks t) ≡ None) where
        -- one more token, and not yet the last one
        pub goes_on : suc (length toks) < count → HasTokens f before word n tests count (toks ++ t ∷ [])
        goes_on more = record {
          fixed = has.fixed;
          good = no_stop tests toks t has.good ready number none;
          fewer = omega (arith, length_push toks t);
        }

        -- the last one
        pub closes : suc (length toks) ≡ count → Closed f before word n (toks ++ t ∷ [])
        closes all =
            let good : tokens_stop tests [] (toks ++ t ∷ []) ≡ None = no_stop tests toks t has.good ready number none in
            let len : length (toks ++ t ∷ []) ≡ count = omega (arith, length_push toks t) in
            record {
              extent = λ more.
                  let most : min count (length ((toks ++ t ∷ []) ++ more)) ≡ length (toks ++ t ∷ []) =
                  omega (arith, length-append (toks ++ t ∷ []) more) in
                  has.fixed.extent ((toks ++ t ∷ []) ++ more)
                  ∙ rw (
                    most,
                    le-leb count (length ((toks ++ t ∷ []) ++ more))
                        (omega (arith, length-append (toks ++ t ∷ []) more)),
                  ) refl;
              clean = has.fixed.section (toks ++ t ∷ []) Clean ∙ rw good refl;
              trailing = λ line. has.fixed.section (toks ++ t ∷ []) (Trailing line) ∙ rw good refl;
            }

        -- what is promised of a token that was taken
        pub has_taken : (holds : List Piece → Type 0) (wants : List Piece → Keyword → ℕ → List Token → Type 0)
            → (suc (length toks) ≡ count → holds (before ++ a_section word n (toks ++ t ∷ []) Clean))
            → (HasTokens f before word n tests count (toks ++ t ∷ []) → wants before word n (toks ++ t ∷ []))
            → HasTakenToken f holds wants before word n toks t (fixed_taken count toks)
        has_taken holds wants last more = by_test (eqb (suc (length toks)) count) refl
          where
            by_test : (b : Bool) → eqb (suc (length toks)) count ≡ b →
                HasTakenToken f holds wants before word n toks t (cond b takens.Last takens.More)
            by_test true e = let all : suc (length toks) ≡ count = eqb-true _ _ e in (last all, closes all)
            by_test false e =
                let fewer : suc (length toks) < count = omega (arith, has.fewer, eqb-false _ _ e) in
                (more (goes_on fewer), goes (goes_on fewer))

pub fixed_taken-last : (count : ℕ) (toks : List Token) → suc (length toks) ≡ count →
    takens.Last ≡ fixed_taken count toks
fixed_taken-last count toks all = rw (eq-eqb (suc (length toks)) count all) refl

pub fixed_taken-more : (count : ℕ) (toks : List Token) → suc (length toks) ≢ count →
    takens.More ≡ fixed_taken count toks
fixed_taken-more count toks fewer = rw (ne_eqb (suc (length toks)) count fewer) refl

-- a token ends a row: it is taken, and it is the last of its section where no row is left
pub record EndsRow {S : Type 0} (has : S → List Token → Type 0) (tests : TokenTests) (count left : ℕ) (new : S)
    (toks : List Token) (t : Token) : Type 0 where
  pub fine : first_at t.line (tests toks t) ≡ None
  pub kept : has new (toks ++ t ∷ [])
  pub last : left ≡ 0 → takens.Last ≡ fixed_taken count toks
  pub more : left ≢ 0 → takens.More ≡ fixed_taken count toks
