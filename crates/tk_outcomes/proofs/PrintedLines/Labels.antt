-- A label and its number, after what was put before, and short texts that end.
use Rattle.std.proofs.Common.{◌≡◌, ℕ, ◌^◌, ◌≤◌, true, List, [], ◌++◌, Result, OnErr, append_assoc, length}
use Rattle.tk_writers.specs.declared.output.pen.Pen.{Pen}
use Rattle.tk_writers.specs.declared.output.pen.WriteFault.{WriteFault}
use Rattle.tk_writers.specs.declared.output.sink.Sink.{Ghosts}
use Rattle.tk_writers.specs.Pens.{PenEnds, PenHolds, Puts}
use Rattle.tk_writers.specs.Puts.{Writes}
use Rattle.tk_writers.proofs.Pieces.Putting.{Puts-then, Writes-end, broken_at_err}

pub Puts-label : {W : Type 0} {sink : Ghosts W} {p q r : Pen W} {text : List ℕ} (label number : List ℕ)
    → Puts sink p q text → Puts sink q r (label ++ number) → Puts sink p r (text ++ label ++ number)
Puts-label label number first second = rw append_assoc (Puts-then first second)

-- a short text is put into a new pen, which ends then: it goes out whole, unless a write fails
pub Writes-short : {W : Type 0} (sink : Ghosts W) (v w x : W) (p q : Pen W) (r : Result (Unit {0}) WriteFault)
    (text : List ℕ) → PenHolds sink (sink.taken v) (sink.broken v) [] p → Puts sink p q text → PenEnds sink q w r
    → x ≡ w → length text ≤ 2 ^ 63 → record { text : Writes sink v x r text; failed : OnErr r (sink.broken x ≡ true) }
Writes-short sink v w x p q r text h puts ends is short =
    let written = Writes-end sink v w x p q r text h puts ends is in
    record { text = written; failed = broken_at_err sink v x r text short written }
