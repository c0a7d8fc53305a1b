use Rattle.std.proofs.Common.{subst, ap, ◌≡◌, ◌+◌, ◌<◌, decimal, arith}
use Rattle.tk_writers.specs.Pens.{Puts}
use Rattle.tk_writers.proofs.MatrixLines.{spaced_more, matrix_line-parts}
use Rattle.tk_writers.proofs.Pieces.Putting.{Puts-then}
use Rattle.tk_writers.proofs.matrix.put_line.Goals as goal

pub loop-m-preserved : goal.loop-m-preserved
loop-m-preserved g c = record {
  same = cc;
  puts = λ table gives.
      let first = c.places_on_line-first.result.0 in
      rw (spaced_more table c.args.f c.args.k (first + 1) c.loop-m.m c.loop-m.auto.m)
      (Puts-then (c.loop-m.invariant.puts table gives)
      (Puts-then c.put.ensures
      (subst (Puts _ _ _) (ap decimal (c.entry-in-loop-m.ensures table gives)) c.put_number-in-loop-m.ensures)));
}

pub returns-clause-puts : goal.returns-clause-puts
returns-clause-puts g c = λ table gives.
    let first = c.places_on_line-first.result.0 in
    let end = c.places_on_line-first.result.1 in
    let some : first < end = omega (arith, c.places_on_line-first.ensures.order) in
    let all : c.loop-m.m ≡ end = omega (arith, c.loop-m.auto.m-end) in
    subst (Puts _ _ _)
    (matrix_line-parts table c.args.f c.args.n c.args.k first end c.places_on_line-first.ensures.places some)
    (Puts-then (subst (Puts _ _ _) (ap decimal (c.entry.ensures table gives)) c.put_number.ensures)
    (Puts-then (rw (← all) (c.loop-m.invariant.puts table gives)) c.put-2.ensures))
