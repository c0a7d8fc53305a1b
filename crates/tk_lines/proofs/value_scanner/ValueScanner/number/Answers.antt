use Rattle.std.proofs.Common.{◌∙◌, sym, refl, ap, Some, ℤ, SFits, w64, rules}
use Rattle.std.proofs.lemmas.Int.{to_z-of_z}
use Rattle.tk_words.specs.Entry.{in_range}
use Rattle.tk_lines.specs.HeaderValue.{first_word}
use Rattle.tk_lines.proofs.Headers.HeaderNumbers.{value_integer, tests_bad, tests_out}
use Rattle.tk_lines.proofs.value_scanner.ValueScanner.number.Goals as goal

pub returns-in_default-clause-err : goal.returns-in_default-clause-err
returns-in_default-clause-err c =
    λ v line scans. tests_bad c.args.low c.args.high line (first_word v)
    (value_integer c.args.self.now v scans c.as_slice.result.now c.integer.result c.integer.ensures c.as_slice.ensures
    ∙ c.in_default.is)

pub returns-in-Some-limited-clause-ok : goal.returns-in-Some-limited-clause-ok
returns-in-Some-limited-clause-ok c = λ v scans.
    let f : SFits w64 c.in-Some.number = search rules in
    let is_z = to_z-of_z w64 c.in-Some.number f in
    let n = c.in-Some-limited.ensures.some in
    record {
      is = value_integer c.args.self.now v scans c.as_slice.result.now c.integer.result c.integer.ensures
          c.as_slice.ensures ∙ c.in-Some.is ∙ ap (λ (z : ℤ). Some z) (sym is_z ∙ n.0);
      above = n.1;
      below = n.2;
    }

pub returns-in-None-clause-err : goal.returns-in-None-clause-err
returns-in-None-clause-err c = λ v line scans.
    let f : SFits w64 c.in-Some.number = search rules in
    let is_z = to_z-of_z w64 c.in-Some.number f in
    tests_out c.args.low c.args.high line (first_word v) c.in-Some.number
    (value_integer c.args.self.now v scans c.as_slice.result.now c.integer.result c.integer.ensures
    c.as_slice.ensures ∙ c.in-Some.is) (ap (λ (z : ℤ). in_range c.args.low c.args.high (Some z)) (sym is_z)
    ∙ c.in-None.ensures.none refl)
