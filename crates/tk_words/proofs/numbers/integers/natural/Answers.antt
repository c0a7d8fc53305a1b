use Rattle.std.proofs.lemmas.Grind.{common_steps}
use Rattle.std.proofs.Common.{◌≡◌, pos, Some, w64, arith, ap, sym, ◌∙◌}
use Rattle.std.proofs.lemmas.List.{at_drop_all}
use Rattle.std.proofs.lemmas.Int.{to_z_pos}
use Rattle.std.proofs.lemmas.Bool.Decides.{nat_tests}
use Rattle.tk_words.specs.Lex.{digits, natural, signed}
use Rattle.tk_words.proofs.NumberLaws.Numbers.{below_limit, room_for_digit, natural-digits}
use Rattle.tk_words.proofs.numbers.integers.natural.Goals as goal

pub overflow_mul-number : goal.overflow_mul-number
overflow_mul-number c =
    omega (arith, room_for_digit c.loop-byte.number c.loop-byte.byte-index c.loop-byte.invariant.small (omega arith))

pub overflow_add-number : goal.overflow_add-number
overflow_add-number c =
    omega (arith, room_for_digit c.loop-byte.number c.loop-byte.byte-index c.loop-byte.invariant.small (omega arith))

pub overflow_cast-result : goal.overflow_cast-result
overflow_cast-result c =
    omega (arith, below_limit c.loop-byte.number c.loop-byte.byte-index c.loop-byte.invariant.small (omega arith))

pub returns-clause-value : goal.returns-clause-value
returns-clause-value c =
    let n = c.loop-byte.number in
    let bs = c.args.bytes.now in
    let end = at_drop_all (digits n) bs c.loop-byte.byte-index c.loop-byte-test.false in
    let value : natural bs ≡ Some n = natural-digits bs (grind (arith, nat_tests)) (omega arith)
    ∙ sym c.loop-byte.invariant.rest ∙ end in
    ap Some
    (to_z_pos w64 n (omega (arith, below_limit n c.loop-byte.byte-index c.loop-byte.invariant.small (omega arith))))
    ∙ sym (ap (signed pos) value)

pub returns-clause-bound : goal.returns-clause-bound
returns-clause-bound c =
    let n = c.loop-byte.number in
    let small = below_limit n c.loop-byte.byte-index c.loop-byte.invariant.small (omega arith) in
    rw (to_z_pos w64 n (omega (arith, small))) small

pub returns-then-not-is_ascii_digit-clause-value : goal.returns-then-not-is_ascii_digit-clause-value
returns-then-not-is_ascii_digit-clause-value c = grind (arith, common_steps)

pub loop-byte-preserved : goal.loop-byte-preserved
loop-byte-preserved c = grind (arith, common_steps)
