-- How a section of a problem begins.
use Rattle.std.proofs.Common.{◌≡◌, ◌≢◌, ℕ, ◌<◌, ◌≤◌, Bool, true, false, cond, ltb, List, [], ◌∷◌, length, Option, Some}
use Rattle.std.proofs.Common.{None, is_some, refl, ap, subst, ◌∙◌, arith}
use Rattle.std.specs.Prelude.{count_by, unwrap_or}
use Rattle.std.proofs.lemmas.Bool.{le-ltb}
use Rattle.tk_problem.specs.declared.limits.TheConstants.{CITY_LIMIT, TABLE_LIMIT}
use Rattle.tk_words.specs.declared.fault.TextKind.{TextKind}
use Rattle.tk_words.specs.declared.keyword.Keyword.{Keyword}
use Rattle.tk_words.specs.declared.keyword.Keyword.TheVariants as words
use Rattle.tk_problem_text.specs.declared.header_values.ProblemType.{ProblemType}
use Rattle.tk_problem_text.specs.declared.header_values.WeightType.{WeightType}
use Rattle.tk_problem_text.specs.declared.header_values.WeightType.TheVariants.{Plane, Explicit}
use Rattle.tk_problem_text.specs.declared.header_values.WeightFormat.{WeightFormat}
use Rattle.tk_problem_text.specs.declared.header_values.WeightFormat.TheVariants.{Function, Listed}
use Rattle.tk_problem_text.specs.declared.sections.explicit_weights.ExplicitWeights.{ExplicitWeights}
use Rattle.tk_problem_text.specs.declared.sections.open_section.OpenSection.{OpenSection}
use Rattle.tk_problem_text.specs.declared.sections.open_section.OpenSection.TheVariants as sections
use Rattle.tk_problem_text.specs.declared.parts.Parts.{Parts}
use Rattle.tk_problem.specs.declared.cell.Cell.{Cell}
use Rattle.tk_problem.specs.declared.weights.Format.{Format}
use Rattle.tk_problem.specs.declared.weights.Format.TheVariants as formats
use Rattle.tk_words.specs.Words.{same_word}
use Rattle.tk_lines.specs.Pieces.{Piece, Fault, first_at, has, value_of}
use Rattle.tk_lines.specs.Reader.Handlers.{IsReportedWord}
use Rattle.tk_problem_text.specs.Reader.Parts.{HasParts}
use Rattle.tk_problem_text.specs.Reader.Weighing.{HasWeights}
use Rattle.tk_problem.specs.WeightOrder.{order, is_of, times_written}
use Rattle.tk_problem_text.specs.Problem.{size_of, weight_type, weight_format, is_explicit, listed_format, wanted}
use Rattle.tk_problem_text.specs.Problem.{is_known_section, section_tests, word_tests}
use Rattle.tk_problem_text.specs.Reader.OpenSections.{HasSome, IsOpen}
use Rattle.tk_problem_text.specs.Reader.BegunSections.{HasNoToken, IsReady, IsBegunSection}
use Rattle.tk_problem_text.specs.Reader.BegunSections as Begun
use Rattle.tk_problem_text.proofs.SectionTokens.FixedSections.{begins}
use Rattle.tk_problem_text.proofs.SectionTokens.OpenSections.{problem_fixed}
use Rattle.tk_problem.proofs.WeightCounts.{pair-order}
use Rattle.tk_problem_text.proofs.PartsWhole.{number_in_limits}
use Rattle.tk_lines.proofs.Pieces.ReportedFaults as Reported

-- ---- explicit weights

module _ (p : Parts) (before : List Piece) (has_parts : HasParts p before) (size : ℕ) (same : size_of before ≡ size)
    (small : size ≤ TABLE_LIMIT) where
  pub ready_weights : (t : WeightType) (l : WeightFormat) (f : Format) (s : ExplicitWeights)
      → p.headers.weight_type ≡ Some t → p.headers.weight_format ≡ Some l
      → Some f ≡ cond (is_explicit (Some t)) (listed_format (Some l)) None → HasWeights size f s [] →
      IsReady before words.EdgeWeightSection (sections.Explicit s)
  ready_weights (Plane kind) l f s is_type is_format given has_weights = absurd cc
  ready_weights Explicit Function f s is_type is_format given has_weights = absurd cc
  ready_weights Explicit (Listed g) f s is_type is_format given has_weights =
      let of_type : weight_type before ≡ Some Explicit = has_parts.headers.weight_type.says ∙ is_type in
      let of_format : weight_format before ≡ Some (Listed g) = has_parts.headers.weight_format.says ∙ is_format in
      let typed : has words.EdgeWeightType before ≡ true = has_parts.headers.weight_type.came ∙ ap is_some is_type in
      let formatted : has words.EdgeWeightFormat before ≡ true = has_parts.headers.weight_format.came
      ∙ ap is_some is_format in
      let few : ltb TABLE_LIMIT (size_of before) ≡ false =
      le-ltb TABLE_LIMIT (size_of before) (omega (arith, same, small)) in
      let is : g ≡ f = cc in
      record {
        tests = λ n. rw (typed, formatted, of_type, of_format, few) refl;
        untouched = rw (same, of_format, is) (refl, has_weights, (formatted, refl));
      }

-- ---- after the tests of the word

of_came : (known came : Bool) → cond known (Some came) None ≡ Some false → (known ≡ true) × (came ≡ false)
of_came true false h = (refl, refl)
of_came _ _ h = absurd cc

some_places : (q : Cell → Bool) (xs : List Cell) → count_by q xs ≢ 0 → 0 < length xs
some_places q [] h = absurd (h refl)
some_places q (x ∷ xs) h = omega arith

written : (f : Format) → 0 < times_written f
written formats.FullMatrix = omega arith
written _ = omega arith

some_weights : (f : Format) (n : ℕ) → 2 ≤ n → 0 < length (order f n)
some_weights f n low =
    some_places (is_of 1 0) (order f n)
    (λ e. omega (arith, written f, pair-order f n 1 0 (omega arith) (omega (arith, low)), e))

module _ (before : List Piece) (word : Keyword) (n : ℕ) (none : first_at n (word_tests before word) ≡ None)
    (low : 2 ≤ size_of before) where
  some_tokens : (w : Keyword) → word ≡ w → same_word w words.DepotSection ≡ false → 0 < wanted before w →
      HasSome before word n []
  some_tokens w is other more = begins (problem_fixed before word n (rw is other) none) (rw is more)

  open_at : (s : OpenSection) → HasNoToken before word s → IsOpen before word n [] s
  open_at sections.Nothing u = u
  open_at (sections.Places s) u = (u.0, some_tokens words.NodeCoordSection u.0 refl (omega (arith, low)), u.1)
  open_at (sections.Explicit s) u =
      (u.0, some_tokens words.EdgeWeightSection u.0 refl (rw u.2.1 (some_weights _ (size_of before) low)), u.1, u.2)
  open_at (sections.Loads s) u = (u.0, some_tokens words.DemandSection u.0 refl (omega (arith, low)), u.1, u.2)
  open_at (sections.Home s) u = (
    u.0,
    record {
      word = subst (λ w. first_at n (word_tests before w) ≡ None) u.0 none;
      few = omega arith;
      good = u.1.good;
    },
    u.1,
  )
  open_at (sections.Display left) u =
      (u.0, some_tokens words.DisplayDataSection u.0 refl (omega (arith, low)), omega (arith, u.1))

-- the section of a word is a new one, and the problem's type and its size are known
pub record MayBegin (p : Parts) (before : List Piece) (word : Keyword) (kind : ProblemType) (size : ℕ) : Type 0 where
  pub has_parts : HasParts p before
  pub fresh : Begun.came before word ≡ Some false
  pub typed : p.headers.problem_type ≡ Some kind
  pub sized : p.headers.dimension ≡ Some size

module _ {p : Parts} {before : List Piece} {word : Keyword} {kind : ProblemType} {size : ℕ}
    (may : MayBegin p before word kind size) where
  pub size_is : size_of before ≡ size
  size_is = ap (λ (o : Option ℕ). unwrap_or o 0) (may.has_parts.headers.dimension.says ∙ may.sized)

  pub size_within : (2 ≤ size) × (size ≤ CITY_LIMIT)
  size_within =
      number_in_limits 2 CITY_LIMIT size (value_of words.Dimension before) (may.has_parts.headers.dimension.says
      ∙ may.sized)

  known_and_new : (is_known_section word ≡ true) × (has word before ≡ false)
  known_and_new = of_came (is_known_section word) (has word before) may.fresh

  pub known : is_known_section word ≡ true
  known = known_and_new.0

  typed_before : has words.Type before ≡ true
  typed_before = may.has_parts.headers.problem_type.came ∙ ap is_some may.typed

  sized_before : has words.Dimension before ≡ true
  sized_before = may.has_parts.headers.dimension.came ∙ ap is_some may.sized

  word_passes : (n : ℕ) → first_at n (word_tests before word) ≡ first_at n (section_tests before word)
  word_passes n = rw (known_and_new.0, known_and_new.1, typed_before, sized_before) refl

  pub begun : (n : ℕ) (s : OpenSection) → IsReady before word s → IsBegunSection before word n s
  begun n s ready =
      let none : first_at n (word_tests before word) ≡ None = word_passes n ∙ ready.tests n in
      record {
        sized = sized_before;
        fresh = known_and_new.1;
        none = none;
        begun = open_at before word n none (omega (arith, size_is, size_within.0)) s ready.untouched;
      }

  pub reported_word : (n : ℕ) (k : TextKind) →
      IsReportedWord (λ k. first_at n (section_tests before word) ≡ Some (Fault n k)) k →
      IsReportedWord (λ k. first_at n (word_tests before word) ≡ Some (Fault n k)) k
  reported_word n k =
      Reported.reported_word (λ k. first_at n (section_tests before word) ≡ Some (Fault n k))
      (λ k. first_at n (word_tests before word) ≡ Some (Fault n k)) k (λ h. word_passes n ∙ h)
