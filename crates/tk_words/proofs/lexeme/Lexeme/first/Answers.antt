use Rattle.std.proofs.Common.{◌≡◌, ◌≤◌, ◌<◌, ◌^◌, length, take, slice_index_or, arith, sym, ◌∙◌, ap}
use Rattle.std.proofs.lemmas.List.{length-take, take_more}
use Rattle.tk_words.proofs.NumberLaws.Naturals.{digits-more, digits-solid}
use Rattle.tk_words.proofs.NumberLaws.Numbers.{below_limit, natural-digits}
use Rattle.std.proofs.lemmas.Bool.Decides.{nat_tests}
use Rattle.std.proofs.lemmas.Grind.{pow_more}
use Rattle.tk_words.proofs.lexeme.Lexeme.first.Goals as goal
use Rattle.tk_words.proofs.lexeme.Lexeme.first.Goals.{After-is_ascii_digit}

-- the digits before this byte, and their number
few : (c : After-is_ascii_digit) → c.loop-i.i ≤ 18
few c = omega (arith, c.loop-i-test.true, c.min-i-end.ensures)

below : (c : After-is_ascii_digit) → c.loop-i.number < 10 ^ 18
below c = below_limit c.loop-i.number c.loop-i.i c.loop-i.invariant.small (few c)

pub invariant_of-result : goal.invariant_of-result
invariant_of-result c =
    let i = c.loop-i.i in
    let at = (goal.at.invariant_of-result c).After-is_ascii_digit in
    let len = length-take i c.args.bytes.now in (
      natural-digits (take i c.args.bytes.now)
          (omega (arith, len, c.loop-i-test.true, c.min-i-end.ensures, c.if-i-gt0.true)) (omega (arith, len, few at))
          ∙ c.loop-i.invariant.spelled,
      below at,
    )

pub returns-then-blank_or_end : goal.returns-then-blank_or_end
returns-then-blank_or_end c =
    let i = c.loop-i.i in
    let bytes = c.args.bytes.now in
    let inside : i < length bytes = omega (arith, c.loop-i-test.true, c.min-i-end.ensures) in
    let len : length (take i bytes) ≡ i = omega (arith, length-take i bytes, inside) in
    record {
      some = omega (arith, len, c.if-i-gt0.true);
      short = omega (arith, len, few (goal.at.returns-then-blank_or_end c).After-is_ascii_digit);
      within = omega (arith, len, inside);
      begins = ap (λ k. take k bytes) (sym len);
      solid = digits-solid 0 (take i bytes) c.loop-i.number c.loop-i.invariant.spelled;
      ended = rw len (sym c.blank_or_end.ensures ∙ c.if-blank_or_end.true);
    }

pub overflow_mul-number : goal.overflow_mul-number
overflow_mul-number c = omega (arith, below (goal.at.overflow_mul-number c).After-is_ascii_digit)

pub overflow_add-number : goal.overflow_add-number
overflow_add-number c = omega (arith, below (goal.at.overflow_add-number c).After-is_ascii_digit)

pub loop-i-preserved : goal.loop-i-preserved
loop-i-preserved c =
    let i = c.loop-i.i in
    let bytes = c.args.bytes.now in
    let inside : i < length bytes = omega (arith, c.loop-i-test.true, c.min-i-end.ensures) in
    let digit = sym c.is_ascii_digit.ensures.value ∙ c.if-not-is_ascii_digit.false in
    let low : c.from.result ≤ 9 = grind (arith, nat_tests) in
    record {
      small = omega (arith, pow_more 10 i, low, c.loop-i.invariant.small);
      spelled = rw (take_more bytes i 0 inside, c.from.ensures)
          (digits-more 0 (take i bytes) c.loop-i.number (slice_index_or bytes i 0) c.loop-i.invariant.spelled digit);
    }
