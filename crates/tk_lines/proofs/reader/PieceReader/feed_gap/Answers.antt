use Rattle.std.proofs.Common.{[], sym, ◌∙◌, arith}
use Rattle.std.proofs.lemmas.Bool.{ne_eqb}
use Rattle.tk_lines.specs.declared.line_state.LineState.TheVariants as places
use Rattle.tk_lines.proofs.KnownStates.{at_place}
use Rattle.tk_lines.proofs.Sections.SectionSteps.{gap_LF, gap_blank, token_byte}
use Rattle.tk_lines.proofs.LineSteps.{line_behind-byte, line_behind-LF}
use Rattle.tk_lines.proofs.reader.PieceReader.feed_gap.Goals as goal

pub returns-then-byte-eq10 : goal.returns-then-byte-eq10
returns-then-byte-eq10 g c = λ before fed.
    let at = at_place places.Gap c.requires.place fed in
    rw (c.if-byte-eq10.true, c.requires.place) (record {
      line = omega (arith, fed.line, line_behind-LF before);
      at = gap_LF _ _ _ _ 10 _ (rw c.if-byte-eq10.true at at);
    })

pub returns-else-not-blank : goal.returns-else-not-blank
returns-else-not-blank g c = λ before fed.
    let at = at_place places.Gap c.requires.place fed in
    let other = ne_eqb _ _ c.if-byte-eq10.false in
    rw c.requires.place (record {
      line = fed.line ∙ sym (line_behind-byte before c.args.byte other);
      at = gap_blank _ _ _ _ _ _ other (sym c.blank.ensures ∙ c.if-not-blank.false) at;
    })

pub returns-then-not-blank : goal.returns-then-not-blank
returns-then-not-blank g c = λ before fed.
    let other = ne_eqb _ _ c.if-byte-eq10.false in
    rw c.begin.ensures (record {
      line = fed.line ∙ sym (line_behind-byte before c.args.byte other);
      at = (
        ((sym c.blank.ensures ∙ c.if-not-blank.true), omega arith),
        token_byte _ _ _ _ _ _ [] other (at_place places.Gap c.requires.place fed),
      );
    })
