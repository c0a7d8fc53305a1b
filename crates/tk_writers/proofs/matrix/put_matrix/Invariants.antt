-- the lines before line k are put
use Rattle.std.proofs.Common.{◌≡◌, ℕ, ◌-◌, flat_map}
use Rattle.std.specs.List.{range_with_len}
use Rattle.tk_writers.specs.MatrixText.{GivesTable, matrix_line}
use Rattle.tk_writers.specs.Pens.{Puts}
use Rattle.tk_writers.proofs.matrix.put_matrix.Given as goal

abbrev pub invariant-loop-k : goal.invariant-loop-k
invariant-loop-k g l = record {
  same : l.pen.sink.ghost_name ≡ l.initial.pen.sink.ghost_name;
  puts : (table : ℕ → ℕ → ℕ) → GivesTable (goal.D-pre g l.d) (goal.D-post g l.d) l.n table
      → Puts g.W.Sink l.initial.pen l.pen
      (flat_map (matrix_line l.n table l.f) (range_with_len 1 (l.k - 1)));
}
