-- The last pieces of a text, put as one.
use Rattle.std.proofs.Common.{ℕ, List, ◌++◌, append_assoc, subst, sym}
use Rattle.tk_writers.specs.declared.output.pen.Pen.{Pen}
use Rattle.tk_writers.specs.declared.output.sink.Sink.{Ghosts}
use Rattle.tk_writers.specs.Pens.{Puts}
use Rattle.tk_writers.proofs.Pieces.Putting.{Puts-then}

-- a text, and then two pieces by one call
pub Puts-both : {W : Type 0} {sink : Ghosts W} {p q s : Pen W} {text : List ℕ} (one two : List ℕ)
    → Puts sink p q text → Puts sink q s (one ++ two) → Puts sink p s ((text ++ one) ++ two)
Puts-both {W} {sink} {p} {q} {s} {text} one two first second =
    subst (Puts sink p s) (sym (append_assoc text one two)) (Puts-then first second)
