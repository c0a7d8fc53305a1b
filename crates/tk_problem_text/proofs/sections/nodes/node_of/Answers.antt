use Rattle.std.proofs.Common.{rules, sym, refl, ◌≡◌, ◌<◌, ℕ, ℤ, pos, negsuc, Some, true}
use Rattle.std.proofs.Common.{false, w64, SFits, to_z, of_z}
use Rattle.std.proofs.lemmas.Bool.{ltb-true, lt-leb, and_left, and_right}
use Rattle.std.proofs.lemmas.Int.{to_z-of_z}
use lib.Signed.{lt_z}
use lib.IntN.{nat_abs}
use Rattle.tk_words.specs.Entry.{in_range}
use Rattle.tk_problem_text.proofs.sections.nodes.node_of.Goals as goal
use Rattle.tk_problem_text.proofs.sections.nodes.node_of.Goals.{then-number-lt1-via-then-number-lt1}
use Rattle.tk_problem_text.proofs.sections.nodes.node_of.Goals.{then-number-lt1-via-else-number-lt1+then-number-count}

out-below : (z : ℤ) (count : ℕ) → lt_z z (pos 1) ≡ true → in_range 1 count (Some z) ≡ false
out-below (pos n) count less = and_left _ _ (lt-leb 1 n (ltb-true n 1 less))
out-below (negsuc n) count less = refl

out-above : (z : ℤ) (count : ℕ) → count < nat_abs z → in_range 1 count (Some z) ≡ false
out-above (pos n) count more = and_right _ _ (lt-leb n count more)
out-above (negsuc n) count more = refl

pub returns-then-number-lt1-clause-err : goal.returns-then-number-lt1-clause-err
returns-then-number-lt1-clause-err c = λ nodes line.
    let number : ℤ = c.in-Some.number in
    let fits : SFits w64 number = search rules in
    let passed : to_z w64 (of_z w64 number) ≡ number = to_z-of_z w64 number fits in
    let out : in_range 1 c.args.count (Some number) ≡ false = elim c.then-number-lt1.branch [
      | then-number-lt1-via-then-number-lt1 w ↦ out-below number c.args.count (rw passed at w.if-number-lt1.true)
      | then-number-lt1-via-else-number-lt1+then-number-count w ↦
          out-above number c.args.count (rw passed at w.if-number-count.true)
    ] in
    rw (sym c.in-Some.ensures, out) refl
