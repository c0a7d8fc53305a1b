use Rattle.std.proofs.Common.{◌∷◌, [], sym, ◌∙◌, arith}
use Rattle.std.proofs.lemmas.List.{length-append}
use Rattle.tk_lines.specs.declared.line_state.LineState.TheVariants as places
use Rattle.std.proofs.lemmas.Bool.{or_parts}
use Rattle.tk_lines.proofs.KnownStates.{at_place}
use Rattle.tk_lines.proofs.Sections.SectionSteps.{token_byte, run_more, token_long}
use Rattle.tk_lines.proofs.LineSteps.{line_behind-byte}
use Rattle.tk_lines.proofs.reader.PieceReader.feed_token.Goals as goal

pub returns-then-is_full : goal.returns-then-is_full
returns-then-is_full g c = λ before fed.
    let at = at_place places.Token c.requires.place fed in
    let solid = or_parts _ _ c.requires.solid in
    rw c.fault.ensures
    (token_long _ _ _ _ _ _ _ at.0.0 (c.is_full.ensures.full c.if-is_full.true) solid.0 solid.1 at.1)

pub returns : goal.returns
returns g c = λ before fed.
    let at = at_place places.Token c.requires.place fed in
    let solid = or_parts _ _ c.requires.solid in
    rw (c.requires.place, c.push.ensures) (record {
      line = fed.line ∙ sym (line_behind-byte before c.args.byte solid.1);
      at = (
        (
          run_more c.args.self.now.held c.args.byte at.0.0 solid.0,
          omega (
            arith,
            c.is_full.ensures.not_full c.if-is_full.false,
            length-append c.args.self.now.held (c.args.byte ∷ []),
          ),
        ),
        token_byte _ _ _ _ _ _ _ solid.1 at.1,
      );
    })
