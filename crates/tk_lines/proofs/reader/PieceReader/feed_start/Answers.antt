use Rattle.std.proofs.Common.{[], refl, sym, ◌∙◌, arith}
use Rattle.std.proofs.lemmas.Bool.{ne_eqb}
use Rattle.tk_lines.specs.declared.line_state.LineState.TheVariants as places
use Rattle.tk_lines.proofs.KnownStates.{at_place}
use Rattle.tk_lines.proofs.LineSteps.{is_letter-word, line_behind-byte, line_behind-LF, line_LF, line_byte, line_blank}
use Rattle.tk_lines.proofs.LineSteps.{line_stray}
use Rattle.tk_lines.proofs.reader.PieceReader.feed_start.Goals as goal

pub returns-then-byte-eq10 : goal.returns-then-byte-eq10
returns-then-byte-eq10 g c = λ before fed.
    let at = at_place places.Start c.requires.place fed in
    rw (c.if-byte-eq10.true, c.requires.place) (record {
      line = omega (arith, fed.line, line_behind-LF before);
      at = line_LF _ _ _ _ 10 _ (rw c.if-byte-eq10.true at at);
    })

pub returns-then-blank : goal.returns-then-blank
returns-then-blank g c = λ before fed.
    let at = at_place places.Start c.requires.place fed in
    let other = ne_eqb _ _ c.if-byte-eq10.false in
    rw c.requires.place (record {
      line = fed.line ∙ sym (line_behind-byte before c.args.byte other);
      at = line_blank _ _ _ _ _ _ other (sym c.blank.ensures ∙ c.if-blank.true) at;
    })

pub returns-then-not-letter : goal.returns-then-not-letter
returns-then-not-letter g c = λ before fed.
    rw c.fault.ensures
    (line_stray _ _ _ _ _ _ (ne_eqb _ _ c.if-byte-eq10.false) (sym c.blank.ensures ∙ c.if-blank.false)
    (sym c.letter.ensures ∙ c.if-not-letter.true) (at_place places.Start c.requires.place fed))

pub returns : goal.returns
returns g c = λ before fed.
    let other = ne_eqb _ _ c.if-byte-eq10.false in
    let letter = sym c.letter.ensures ∙ c.if-not-letter.false in
    rw c.begin.ensures (record {
      line = fed.line ∙ sym (line_behind-byte before c.args.byte other);
      at = (
        (letter, rw (is_letter-word c.args.byte letter) refl, omega arith),
        line_byte _ _ _ _ _ _ [] other (at_place places.Start c.requires.place fed),
      );
    })
