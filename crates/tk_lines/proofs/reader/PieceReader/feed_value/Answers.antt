use Rattle.std.proofs.Common.{◌∷◌, [], ◌++◌, sym, ◌∙◌, arith}
use Rattle.std.proofs.lemmas.Bool.{ne_eqb, eq-eqb}
use Rattle.std.proofs.lemmas.Result.{err_from_is_err_and}
use Rattle.tk_lines.specs.declared.line_state.LineState.TheVariants as places
use Rattle.tk_lines.specs.Reader.Places.{this, a_line_end}
use Rattle.tk_lines.proofs.KnownStates.{at_place, reported_byte, this_within}
use Rattle.tk_lines.proofs.LineSteps.{line_behind-byte, line_behind-LF, tail_byte, tail_long, header_LF}
use Rattle.tk_lines.proofs.reader.PieceReader.feed_value.Goals as goal

pub returns-in_err-end_header : goal.returns-in_err-end_header
returns-in_err-end_header g c = λ before fed.
    let p = err_from_is_err_and c.from_residual.result c.from_residual.ensures.1 in
    rw (p.1, p.2)
    (reported_byte g.F.Handler.promise.format c.args.byte before c.in_err-end_header.field-0.0
    (c.in_err-end_header.ensures.closed (this c.args.byte) before
    (this_within c.args.byte a_line_end (λ e more. eq-eqb _ _ c.if-byte-eq10.true)) fed))

pub returns-then-byte-eq10 : goal.returns-then-byte-eq10
returns-then-byte-eq10 g c = λ before fed.
    let taken =
    rw c.if-byte-eq10.true at
    (c.in_ok-end_header.ensures.closed (this c.args.byte) before
    (this_within c.args.byte a_line_end (λ e more. eq-eqb _ _ c.if-byte-eq10.true)) fed) in
    rw (c.if-byte-eq10.true, c.in_ok-end_header.ensures.place) (record {
      line = omega (arith, fed.line, c.end_header.ensures.line, line_behind-LF before);
      at = header_LF _ _ _ _ _ _ _ taken;
    })

pub returns-then-self-gt-HEADER_LIMIT : goal.returns-then-self-gt-HEADER_LIMIT
returns-then-self-gt-HEADER_LIMIT g c = λ before fed.
    let at = at_place (places.Value c.args.word) c.requires.place fed in
    rw c.fault.ensures
    (tail_long _ _ _ _ _ _ at.before at.tail at.header
    (omega (arith, c.if-self-gt-HEADER_LIMIT.true, (c.push.ensures at.tail at.scans).count))
    (ne_eqb _ _ c.if-byte-eq10.false) at.at)

pub returns : goal.returns
returns g c = λ before fed.
    let at = at_place (places.Value c.args.word) c.requires.place fed in
    let other = ne_eqb _ _ c.if-byte-eq10.false in
    rw c.requires.place (record {
      line = fed.line ∙ sym (line_behind-byte before c.args.byte other);
      at = record {
        before = at.before;
        tail = at.tail ++ c.args.byte ∷ [];
        at = tail_byte _ _ _ _ _ _ at.before at.tail other at.at;
        header = at.header;
        holds = at.holds;
        scans = c.push.ensures at.tail at.scans;
        short = omega (arith, c.if-self-gt-HEADER_LIMIT.false, (c.push.ensures at.tail at.scans).count);
      };
    })
