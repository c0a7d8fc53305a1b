-- the bytes before the rest are put; each turn sends a full page
use Rattle.std.proofs.Common.{◌≡◌, ℕ, ◌+◌, List, ◌++◌, length}
use Rattle.tk_writers.specs.Pens.{Puts}
use Rattle.tk_writers.proofs.output.pen.Pen.put_past_page.Given as goal

abbrev pub invariant-loop-rest : goal.invariant-loop-rest
invariant-loop-rest g l = (done : List ℕ) × (done ++ l.rest ≡ l.bytes)
    × Puts g.W.Sink l.initial.self l.self done

abbrev pub decreases-loop-rest : goal.decreases-loop-rest
decreases-loop-rest g l = length l.rest + length l.self.page
