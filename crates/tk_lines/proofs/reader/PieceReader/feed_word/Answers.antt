use Rattle.std.proofs.Common.{sym, ◌∙◌}
use Rattle.tk_lines.specs.declared.line_state.LineState.TheVariants as places
use Rattle.tk_lines.proofs.KnownStates.{at_place}
use Rattle.tk_lines.proofs.LineSteps.{not_LF, line_behind-byte, line_byte, word_more, word_long}
use Rattle.tk_lines.proofs.reader.PieceReader.feed_word.Goals as goal

pub returns-then-is_full : goal.returns-then-is_full
returns-then-is_full g c = λ before fed.
    let at = at_place places.Word c.requires.place fed in
    rw c.fault.ensures
    (word_long _ _ _ _ _ _ _ at.0 (c.is_full.ensures.full c.if-is_full.true) c.requires.word
    (not_LF c.args.byte c.requires.word) at.1)

pub returns : goal.returns
returns g c = λ before fed.
    let at = at_place places.Word c.requires.place fed in
    let other = not_LF c.args.byte c.requires.word in
    rw (c.requires.place, c.push.ensures) (record {
      line = fed.line ∙ sym (line_behind-byte before c.args.byte other);
      at = (
        word_more g.F.Handler.promise.format g.F.Handler.promise.holds c.args.self.now.form c.args.self.now.line _
            before _
            at.0 (c.is_full.ensures.not_full c.if-is_full.false) c.requires.word,
        line_byte _ _ _ _ _ _ _ other at.1,
      );
    })
