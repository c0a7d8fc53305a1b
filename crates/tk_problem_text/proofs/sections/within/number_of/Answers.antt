use Rattle.std.proofs.Common.{◌≡◌, ◌∙◌, sym, refl, ap, Some, ℤ, SFits, of_z, to_z, w64, rules}
use Rattle.std.proofs.lemmas.Int.{to_z-of_z}
use Rattle.tk_words.specs.Lex.{integer}
use Rattle.tk_lines.proofs.Headers.HeaderNumbers.{tests_bad, tests_fine, tests_out}
use Rattle.tk_problem_text.proofs.sections.within.number_of.Goals as goal
use Rattle.tk_problem_text.proofs.sections.within.number_of.Goals.{In-Some}

-- the number that is compared with the limits
passed : (c : In-Some) → to_z w64 (of_z w64 c.in-Some.number) ≡ c.in-Some.number
passed c = let fits : SFits w64 c.in-Some.number = search rules in to_z-of_z w64 c.in-Some.number fits

is : (c : In-Some) → integer c.args.token.now ≡ Some (to_z w64 (of_z w64 c.in-Some.number))
is c = sym c.integer.ensures ∙ c.in-Some.is ∙ ap (λ (z : ℤ). Some z) (sym (passed c))

pub returns-in_default-clause-err : goal.returns-in_default-clause-err
returns-in_default-clause-err c =
    λ line. tests_bad c.args.low c.args.high line c.args.token.now (sym c.integer.ensures ∙ c.in_default.is)

pub returns-in-Some-limited-clause-value : goal.returns-in-Some-limited-clause-value
returns-in-Some-limited-clause-value c =
    is (goal.at.returns-in-Some-limited-clause-value c).In-Some
    ∙ ap (λ (z : ℤ). Some z) c.in-Some-limited.ensures.some.0

pub returns-in-Some-limited-clause-limits : goal.returns-in-Some-limited-clause-limits
returns-in-Some-limited-clause-limits c = let n = c.in-Some-limited.ensures.some in (n.1, n.2)

pub returns-in-Some-limited-clause-ok : goal.returns-in-Some-limited-clause-ok
returns-in-Some-limited-clause-ok c = λ line.
    let n = c.in-Some-limited.ensures.some in
    let whole = is (goal.at.returns-in-Some-limited-clause-ok c).In-Some in
    tests_fine c.args.low c.args.high line c.args.token.now c.in-Some-limited.number
    (record { is = whole ∙ ap (λ (z : ℤ). Some z) n.0; above = n.1; below = n.2 })

pub returns-in-None-clause-err : goal.returns-in-None-clause-err
returns-in-None-clause-err c = λ line.
    let at = (goal.at.returns-in-None-clause-err c).In-Some in
    tests_out c.args.low c.args.high line c.args.token.now _ (is at) (c.in-None.ensures.none refl)
