-- the numbers before place m are put
use Rattle.std.proofs.Common.{◌≡◌, ℕ, ◌+◌, ◌-◌}
use Rattle.std.specs.List.{range_with_len}
use Rattle.tk_writers.specs.MatrixText.{GivesTable}
use Rattle.tk_writers.specs.Pens.{Puts}
use Rattle.tk_writers.proofs.MatrixLines.{spaced}
use Rattle.tk_writers.proofs.matrix.put_line.Given as goal

abbrev pub invariant-loop-m : goal.invariant-loop-m
invariant-loop-m g l = record {
  same : l.pen.sink.ghost_name ≡ l.initial.pen.sink.ghost_name;
  puts : (table : ℕ → ℕ → ℕ) → GivesTable (goal.D-pre g l.d) (goal.D-post g l.d) l.n table
      → Puts g.W.Sink l.initial.pen l.pen
      (spaced table l.f l.k (range_with_len (l.first + 1) (l.m - (l.first + 1))));
}
