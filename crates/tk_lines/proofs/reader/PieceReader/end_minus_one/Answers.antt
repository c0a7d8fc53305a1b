use Rattle.std.proofs.Common.{◌∙◌, sym, ap}
use Rattle.tk_words.specs.Lex.{integer}
use Rattle.tk_words.specs.MinusOne.{is_minus_one}
use Rattle.tk_lines.specs.declared.line_state.LineState.TheVariants as places
use Rattle.tk_lines.proofs.KnownStates.{at_place}
use Rattle.tk_lines.proofs.Endings.AfterMinusOne.{one_ends, one_other, none_whole, minus_first}
use Rattle.tk_lines.proofs.reader.PieceReader.end_minus_one.Goals as goal

pub returns-then-minus_one-clause-closed : goal.returns-then-minus_one-clause-closed
returns-then-minus_one-clause-closed g c = λ next before within fed.
    let at = at_place (places.MinusOne c.args.on_line) c.requires.place fed in
    let minus = sym (c.minus_one.ensures ∙ ap (λ x. is_minus_one (integer x)) c.as_slice.ensures)
    ∙ c.if-minus_one.true in
    record { line = fed.line; at = one_ends _ _ _ _ _ c.args.on_line _ _ within at.0.0 at.1 minus }

pub returns-clause-closed : goal.returns-clause-closed
returns-clause-closed g c = λ next before within fed.
    let at = at_place (places.MinusOne c.args.on_line) c.requires.place fed in
    let other = sym (c.minus_one.ensures ∙ ap (λ x. is_minus_one (integer x)) c.as_slice.ensures)
    ∙ c.if-minus_one.false in
    rw c.fault.ensures
    (one_other _ _ _ _ _ _ _ at.0.0 (minus_first c.args.self.now.held at.0.0 at.0.1)
    (none_whole c.args.self.now.held c.args.self.now.line next within at.0.0 other) c.args.on_line at.1)
