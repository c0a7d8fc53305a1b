use Rattle.std.proofs.Common.{refl, sym, ◌∙◌}
use Rattle.std.proofs.lemmas.Bool.{ne_eqb}
use Rattle.tk_lines.specs.declared.line_state.LineState.TheVariants as places
use Rattle.tk_lines.proofs.KnownStates.{at_place}
use Rattle.tk_lines.proofs.Sections.SectionSteps.{begin_blank, begin_colon, begin_other}
use Rattle.tk_lines.proofs.LineSteps.{blank_not_LF, line_behind-byte}
use Rattle.tk_lines.proofs.reader.PieceReader.feed_begin.Goals as goal

pub returns-then-blank : goal.returns-then-blank
returns-then-blank g c = λ before fed.
    let blank = sym c.blank.ensures ∙ c.if-blank.true in
    let other = blank_not_LF c.args.byte blank in
    rw c.requires.place (record {
      line = fed.line ∙ sym (line_behind-byte before c.args.byte other);
      at = begin_blank _ _ _ _ _ _ _ other blank (at_place places.Begin c.requires.place fed);
    })

pub returns-then-byte-eq58 : goal.returns-then-byte-eq58
returns-then-byte-eq58 g c = λ before fed.
    let at = at_place places.Begin c.requires.place fed in
    rw c.if-byte-eq58.true (record {
      line = fed.line ∙ sym (line_behind-byte before 58 refl);
      at = begin_colon _ _ _ _ 58 _ _ (rw c.if-byte-eq58.true at at);
    })

pub returns : goal.returns
returns g c = λ before fed.
    c.feed_gap.ensures before (record {
      line = fed.line;
      at = begin_other _ _ _ _ _ _ _ (sym c.blank.ensures ∙ c.if-blank.false) (ne_eqb _ _ c.if-byte-eq58.false)
          (at_place places.Begin c.requires.place fed);
    })
