use Rattle.std.proofs.Common.{subst, ap, ◌≡◌, ◌-◌, flat_map, arith}
use Rattle.std.specs.List.{range_with_len}
use Rattle.tk_writers.specs.MatrixText.{matrix_line}
use Rattle.tk_writers.specs.Pens.{Puts}
use Rattle.tk_writers.proofs.MatrixLines.{lines_more}
use Rattle.tk_writers.proofs.Pieces.Putting.{Puts-then}
use Rattle.tk_writers.proofs.matrix.put_matrix.Goals as goal

pub loop-k-preserved : goal.loop-k-preserved
loop-k-preserved g c = record {
  same = cc;
  puts = λ table gives.
      rw (lines_more (matrix_line c.args.n table c.args.f) c.loop-k.k c.loop-k.auto.k)
      (Puts-then (c.loop-k.invariant.puts table gives) (c.put_line.ensures.puts table gives));
}

pub returns-clause-puts : goal.returns-clause-puts
returns-clause-puts g c = λ table gives.
    let all : c.loop-k.k - 1 ≡ c.args.n = omega (arith, c.loop-k.auto.k-end) in
    let lines = ap (λ count. flat_map (matrix_line c.args.n table c.args.f) (range_with_len 1 count)) all in
    Puts-then (Puts-then c.put_head.ensures
    (subst (Puts _ _ _) lines (c.loop-k.invariant.puts table gives))) c.put.ensures
