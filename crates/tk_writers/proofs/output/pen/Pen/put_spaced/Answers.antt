use Rattle.std.proofs.Common.{subst, ◌≡◌, ◌++◌, length, arith}
use Rattle.std.specs.Prelude.{codes, decimal}
use Rattle.tk_writers.specs.Pens.{Puts}
use Rattle.tk_writers.proofs.Pieces.PutEach.{flat_map_take, flat_map_all}
use Rattle.tk_writers.proofs.Pieces.Putting.{Puts-then}
use Rattle.tk_writers.proofs.output.pen.Pen.put_spaced.Goals as goal

pub loop-number-preserved : goal.loop-number-preserved
loop-number-preserved g c =
    rw (flat_map_take (λ y. codes " " ++ decimal y) c.in-Some.rest.now c.loop-number.number-index
    c.loop-number-test.true)
    (Puts-then c.loop-number.invariant
    (Puts-then c.put.ensures c.put_number-in-loop-number.ensures))

pub returns : goal.returns
returns g c =
    let rest = c.in-Some.rest.now in
    let i = c.loop-number.number-index in
    let all : i ≡ length rest = omega (arith, c.loop-number.auto.number-index-end) in
    rw c.in-Some.ensures.cases.0
    (Puts-then c.put_number.ensures
    (subst (Puts _ _ _) (flat_map_all (λ y. codes " " ++ decimal y) rest i all) c.loop-number.invariant))
