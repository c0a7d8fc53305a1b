use Rattle.std.proofs.Common.{refl, arith}
use Rattle.tk_params.proofs.ReaderBytes.{kept_byte, line_over}
use Rattle.tk_params.proofs.reader.ParamReader.keep.Goals as goal

pub returns-then-self-eq-LINE_LIMIT : goal.returns-then-self-eq-LINE_LIMIT
returns-then-self-eq-LINE_LIMIT c = λ before fed.
    rw c.fault.ensures
    (line_over c.args.self.now before fed c.args.byte c.requires.line c.requires.end
    (omega (arith, fed.count, c.if-self-eq-LINE_LIMIT.true)))

pub returns-in-Ok : goal.returns-in-Ok
returns-in-Ok c = λ before fed. (
  refl,
  kept_byte c.args.self.now before fed c.args.byte _ c.requires.line c.requires.end
      (omega (arith, fed.short, fed.count, c.if-self-eq-LINE_LIMIT.false)) refl refl refl
      (c.in-Ok.ensures fed.pre fed.held),
)
