use Rattle.std.proofs.Common.{◌≡◌, ◌≢◌, ℕ, ◌<◌, Option, Some, None, IfSome, List, length, arith, rules}
use Rattle.std.specs.List.{AllWithin, HoldsAt}
use Rattle.std.specs.Option.{MatchOption}
use Rattle.std.proofs.lemmas.Option.{MatchOption-at_none}
use Rattle.std.proofs.lemmas.Iterator.{YieldsList-from_slice, first_from_find}
use Rattle.std.proofs.lemmas.Iterator.Consumers.{YieldsList-from_copied}
use Rattle.tk_problem.specs.WeightWords.{all_formats, format_word}
use Rattle.tk_problem.specs.declared.weights.Format.{Format}
use Rattle.tk_problem.specs.declared.weights.Format.TheVariants as formats
use Rattle.tk_writers.proofs.matrix.format_of.Goals as goal

-- what holds of all formats holds of each
of_each : (P : Format → Type 0) → AllWithin P all_formats 0 (length all_formats) → (f : Format) → P f
of_each P all formats.FullMatrix = all 0 formats.FullMatrix (omega arith) (omega arith)
of_each P all formats.UpperRow = all 1 formats.FullMatrix (omega arith) (omega arith)
of_each P all formats.LowerRow = all 2 formats.FullMatrix (omega arith) (omega arith)
of_each P all formats.UpperDiagRow = all 3 formats.FullMatrix (omega arith) (omega arith)
of_each P all formats.LowerDiagRow = all 4 formats.FullMatrix (omega arith) (omega arith)
of_each P all formats.UpperCol = all 5 formats.FullMatrix (omega arith) (omega arith)
of_each P all formats.LowerCol = all 6 formats.FullMatrix (omega arith) (omega arith)
of_each P all formats.UpperDiagCol = all 7 formats.FullMatrix (omega arith) (omega arith)
of_each P all formats.LowerDiagCol = all 8 formats.FullMatrix (omega arith) (omega arith)

-- what a search for a word comes to
abbrev Found : List ℕ → Option Format → Type 0
Found word answer = MatchOption answer (AllWithin (λ f. word ≢ format_word f) all_formats 0 (length all_formats))
    (λ f. (word ≡ format_word f) × (i : ℕ) × (i < length all_formats) × HoldsAt (λ g. g ≡ f) all_formats i
    × AllWithin (λ g. word ≢ format_word g) all_formats 0 i)

found : (c : goal.After-word-2-1) → Found c.args.word.now c.find.result
found c =
    first_from_find _ _ c.find.result (λ f. c.args.word.now ≡ format_word f) (λ f. c.args.word.now ≢ format_word f)
    c.find.ensures.ran (YieldsList-from_copied (YieldsList-from_slice all_formats cc)) (λ x q k. search (rules, k))
    (λ x q k. search (rules, k))

its_format : (word : List ℕ) (answer : Option Format) → Found word answer → IfSome answer (λ f. word ≡ format_word f)
its_format word None of = tt
its_format word (Some f) of = of.0

pub returns-clause-some : goal.returns-clause-some
returns-clause-some c = its_format _ _ (found c)

pub returns-clause-none : goal.returns-clause-none
returns-clause-none c = λ is. of_each (λ f. c.args.word.now ≢ format_word f) (MatchOption-at_none _ _ is (found c))
