use Rattle.std.proofs.Common.{sym, ◌∙◌, arith}
use Rattle.std.proofs.lemmas.Bool.{ne_eqb}
use Rattle.tk_lines.specs.declared.line_state.LineState.TheVariants as places
use Rattle.tk_lines.proofs.KnownStates.{at_place}
use Rattle.tk_lines.proofs.Sections.SectionSteps.{close_LF, close_blank, close_trailing}
use Rattle.tk_lines.proofs.LineSteps.{line_behind-byte, line_behind-LF}
use Rattle.tk_lines.proofs.reader.PieceReader.feed_close.Goals as goal

pub returns-then-byte-eq10 : goal.returns-then-byte-eq10
returns-then-byte-eq10 g c = λ before fed.
    let at = at_place places.Close c.requires.place fed in
    rw c.if-byte-eq10.true (record {
      line = omega (arith, fed.line, line_behind-LF before);
      at = close_LF _ _ _ _ 10 _ (rw c.if-byte-eq10.true at at);
    })

pub returns-then-blank : goal.returns-then-blank
returns-then-blank g c = λ before fed.
    let other = ne_eqb _ _ c.if-byte-eq10.false in
    rw c.requires.place (record {
      line = fed.line ∙ sym (line_behind-byte before c.args.byte other);
      at = close_blank _ _ _ _ _ _ other (sym c.blank.ensures ∙ c.if-blank.true)
          (at_place places.Close c.requires.place fed);
    })

pub returns : goal.returns
returns g c = λ before fed.
    rw c.fault.ensures
    (close_trailing _ _ _ _ _ _ (ne_eqb _ _ c.if-byte-eq10.false) (sym c.blank.ensures ∙ c.if-blank.false)
    (at_place places.Close c.requires.place fed))
