use Rattle.std.proofs.Common.{◌∷◌, [], length, sym, ap, ◌∙◌, arith}
use Rattle.std.proofs.lemmas.List.{length-append}
use Rattle.tk_words.specs.MinusOne.{begins_minus_one}
use Rattle.tk_words.proofs.NumberLaws.MinusOne.{begins_short}
use Rattle.tk_lines.specs.declared.line_state.LineState.TheVariants as places
use Rattle.std.proofs.lemmas.Bool.{or_parts}
use Rattle.tk_lines.proofs.KnownStates.{at_place}
use Rattle.tk_lines.proofs.Sections.SectionSteps.{run_more}
use Rattle.tk_lines.proofs.Endings.MinusOneSteps.{after_byte}
use Rattle.tk_lines.proofs.Endings.AfterMinusOne.{shown_later}
use Rattle.tk_lines.proofs.LineSteps.{line_behind-byte}
use Rattle.tk_lines.proofs.reader.PieceReader.feed_minus_one.Goals as goal

pub begins_minus_one-requires : goal.begins_minus_one-requires
begins_minus_one-requires g c =
    let at = at_place (places.MinusOne c.args.on_line) c.requires.place c.requires.known.1 in
    omega (
      arith,
      ap length c.push.ensures,
      begins_short c.args.self.now.held at.0.1,
      length-append c.args.self.now.held (c.args.byte ∷ []),
    )

pub returns-then-begins_minus_one : goal.returns-then-begins_minus_one
returns-then-begins_minus_one g c = λ before fed.
    let at = at_place (places.MinusOne c.args.on_line) c.requires.place fed in
    let solid = or_parts _ _ c.requires.solid in
    let begun = sym (c.begins_minus_one.ensures ∙ ap begins_minus_one c.push.ensures) ∙ c.if-begins_minus_one.true in
    rw (c.requires.place, c.push.ensures) (record {
      line = fed.line ∙ sym (line_behind-byte before c.args.byte solid.1);
      at = (
        (run_more c.args.self.now.held c.args.byte at.0.0 solid.0, begun),
        after_byte _ _ _ _ _ _ c.args.on_line _ solid.1 at.1,
      );
    })

pub returns : goal.returns
returns g c = λ before fed.
    let at = at_place (places.MinusOne c.args.on_line) c.requires.place fed in
    let solid = or_parts _ _ c.requires.solid in
    let none = sym (c.begins_minus_one.ensures ∙ ap begins_minus_one c.push.ensures) ∙ c.if-begins_minus_one.false in
    rw c.fault.ensures
    (shown_later _ _ _ _ _ _ _ c.args.on_line at.0.0 at.0.1 solid.0 solid.1 none at.1)
