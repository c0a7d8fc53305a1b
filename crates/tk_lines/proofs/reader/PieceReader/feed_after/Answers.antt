use Rattle.std.proofs.Common.{[], refl, sym, ◌∙◌, arith}
use Rattle.std.proofs.lemmas.Bool.{ne_eqb}
use Rattle.tk_lines.specs.declared.line_state.LineState.TheVariants as places
use Rattle.tk_lines.proofs.KnownStates.{at_place}
use Rattle.tk_lines.proofs.Endings.MinusOneSteps.{after_LF, after_blank, after_byte, after_trailing, after_word}
use Rattle.tk_lines.proofs.Endings.AfterMinusOne.{shown_first}
use Rattle.tk_lines.proofs.LineSteps.{is_letter-word, line_behind-byte, line_behind-LF}
use Rattle.tk_lines.proofs.reader.PieceReader.feed_after.Goals as goal

pub returns-then-byte-eq10 : goal.returns-then-byte-eq10
returns-then-byte-eq10 g c = λ before fed.
    let at = at_place (places.After c.args.on_line) c.requires.place fed in
    rw c.if-byte-eq10.true (record {
      line = omega (arith, fed.line, line_behind-LF before);
      at = after_LF _ _ _ _ 10 _ c.args.on_line (rw c.if-byte-eq10.true at at);
    })

pub returns-then-blank : goal.returns-then-blank
returns-then-blank g c = λ before fed.
    let other = ne_eqb _ _ c.if-byte-eq10.false in
    rw c.requires.place (record {
      line = fed.line ∙ sym (line_behind-byte before c.args.byte other);
      at = after_blank _ _ _ _ _ _ c.args.on_line other (sym c.blank.ensures ∙ c.if-blank.true)
          (at_place (places.After c.args.on_line) c.requires.place fed);
    })

pub returns-then-on_line : goal.returns-then-on_line
returns-then-on_line g c = λ before fed.
    let at = at_place (places.After c.args.on_line) c.requires.place fed in
    rw c.fault.ensures
    (after_trailing _ _ _ _ _ _ (ne_eqb _ _ c.if-byte-eq10.false) (sym c.letter.ensures ∙ c.if-letter.true)
    (rw c.if-on_line.true at at))

pub returns-then-letter : goal.returns-then-letter
returns-then-letter g c = λ before fed.
    let at = at_place (places.After c.args.on_line) c.requires.place fed in
    let other = ne_eqb _ _ c.if-byte-eq10.false in
    let letter = sym c.letter.ensures ∙ c.if-letter.true in
    rw c.begin.ensures (record {
      line = fed.line ∙ sym (line_behind-byte before c.args.byte other);
      at = (
        (letter, rw (is_letter-word c.args.byte letter) refl, omega arith),
        after_word _ _ _ _ _ _ other letter (rw c.if-on_line.false at at),
      );
    })

pub returns-then-byte-ne45 : goal.returns-then-byte-ne45
returns-then-byte-ne45 g c = λ before fed.
    rw c.fault-then-byte-ne45.ensures
    (shown_first _ _ _ _ _ _ c.args.on_line (ne_eqb _ _ c.if-byte-eq10.false) (sym c.blank.ensures ∙ c.if-blank.false)
    (sym c.letter.ensures ∙ c.if-letter.false) (ne_eqb _ _ c.if-byte-ne45.true)
    (at_place (places.After c.args.on_line) c.requires.place fed))

pub returns : goal.returns
returns g c = λ before fed.
    let other = ne_eqb _ _ c.if-byte-eq10.false in
    rw c.begin-2.ensures (record {
      line = fed.line ∙ sym (line_behind-byte before c.args.byte other);
      at = (
        ((sym c.blank.ensures ∙ c.if-blank.false), rw c.if-byte-ne45.false refl),
        after_byte _ _ _ _ _ _ c.args.on_line [] other (at_place (places.After c.args.on_line) c.requires.place fed),
      );
    })
