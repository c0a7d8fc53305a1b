-- A pen into which nothing is put.
use Rattle.std.proofs.Common.{[], refl, subst, sym, append-nil}
use Rattle.tk_writers.specs.declared.output.pen.Pen.{Pen}
use Rattle.tk_writers.specs.declared.output.sink.Sink.{Ghosts}
use Rattle.tk_writers.specs.Pens.{PenHolds, Puts}

pub Puts-none : {W : Type 0} {sink : Ghosts W} {p : Pen W} → Puts sink p p []
Puts-none {W} {sink} {p} =
    record {
      same = refl;
      text = λ start failed text h. subst (λ l. PenHolds sink start failed l p) (sym
          (append-nil text)) h;
    }
