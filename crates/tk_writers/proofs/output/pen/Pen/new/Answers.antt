use Rattle.std.proofs.Common.{refl, sym, arith}
use Rattle.std.proofs.KnownBytes.{Appends-nil}
use Rattle.tk_writers.proofs.output.pen.Pen.new.Goals as goal

pub returns-clause-empty : goal.returns-clause-empty
returns-clause-empty g c = record {
  fits = omega arith;
  sent = Appends-nil _;
  waits = λ e. (sym c.new.ensures, refl);
  stops = λ e. cc;
}
