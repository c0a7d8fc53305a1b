use Rattle.std.proofs.Common.{◌≡◌, ◌++◌, ◌/◌, ◌%◌, ◌^◌, ◌-◌, List, [], ℕ, refl, sym, ap, ◌∙◌, subst}
use Rattle.std.proofs.Common.{arith, rules, append_assoc, append-nil}
use Rattle.std.specs.Prelude.{decimal}
use Rattle.tk_writers.specs.Pens.{Puts}
use Rattle.tk_writers.proofs.Pieces.Putting.{Puts-then}
use Rattle.tk_outcomes.specs.Lines.InfoLines.{fraction_digits}
use Rattle.tk_outcomes.proofs.PrintedLines.Decimals.{digits_next, digits_none, power_small}
use Rattle.tk_outcomes.proofs.lines.info_lines.put_digits.Goals as goal

pub loop-places-init : goal.loop-places-init
loop-places-init g c = ([], search rules, refl, omega arith)

pub pow-place-requires : goal.pow-place-requires
pow-place-requires g c =
    let few = c.loop-places.invariant.3 in
    (power_small (c.loop-places.places - 1) (omega (arith, few, c.loop-places-test.true))).1

pub nonzero_div-rest : goal.nonzero_div-rest
nonzero_div-rest g c =
    let few = c.loop-places.invariant.3 in
    let some = (power_small (c.loop-places.places - 1) (omega (arith, few, c.loop-places-test.true))).0 in
    omega (arith, some, c.pow-place.ensures)

pub nonzero_rem-rest : goal.nonzero_rem-rest
nonzero_rem-rest g c =
    let few = c.loop-places.invariant.3 in
    let some = (power_small (c.loop-places.places - 1) (omega (arith, few, c.loop-places-test.true))).0 in
    omega (arith, some, c.pow-place.ensures)

pub loop-places-preserved : goal.loop-places-preserved
loop-places-preserved g c =
    let h = c.loop-places.invariant in
    let few = h.3 in
    let place : ℕ = 10 ^ (c.loop-places.places - 1) in
    let digit : List ℕ = decimal (c.loop-places.rest / place) in
    let others : List ℕ = fraction_digits (c.loop-places.places - 1) (c.loop-places.rest % place) in
    let next = digits_next c.loop-places.places c.loop-places.rest c.loop-places-test.true c.if-rest-gt0.true in
    rw c.pow-place.ensures (
      h.0 ++ digit,
      Puts-then h.1 (rw c.pow-place.ensures at c.put_number.ensures),
      append_assoc h.0 digit others ∙ ap (λ l. h.0 ++ l) (sym next) ∙ h.2,
      omega (arith, few),
    )

pub returns-else-rest-gt0 : goal.returns-else-rest-gt0
returns-else-rest-gt0 g c =
    let h = c.loop-places.invariant in
    let done : c.loop-places.rest ≡ 0 = omega (arith, c.if-rest-gt0.false) in
    subst (Puts _ _ _) (sym (append-nil h.0) ∙ ap (λ l. h.0 ++ l) (sym (ap (fraction_digits c.loop-places.places) done
    ∙ digits_none c.loop-places.places)) ∙ h.2) h.1

pub returns-after-loop-places : goal.returns-after-loop-places
unfolding fraction_digits
returns-after-loop-places g c =
    let h = c.loop-places.invariant in
    let done : c.loop-places.places ≡ 0 = omega (arith, c.loop-places-test.false) in
    subst (Puts _ _ _) (sym (append-nil h.0)
    ∙ ap (λ l. h.0 ++ l) (sym (ap (λ p. fraction_digits p c.loop-places.rest) done)) ∙ h.2) h.1
