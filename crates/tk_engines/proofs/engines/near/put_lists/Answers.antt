use Rattle.std.proofs.Common.{◌≡◌, ◌-◌, arith}
use Rattle.tk_near.specs.Near.{near_of}
use Rattle.tk_writers.specs.Written.{near_line}
use Rattle.tk_writers.proofs.MatrixLines.{lines_more}
use Rattle.tk_writers.proofs.Pieces.Putting.{Puts-then}
use Rattle.tk_engines.proofs.engines.near.put_lists.Goals as goal

pub loop-city-preserved : goal.loop-city-preserved
loop-city-preserved g c =
    let near = c.args.near.now in
    rw (lines_more (λ x. near_line x (near_of near x)) c.loop-city.city c.loop-city.auto.city)
    (Puts-then c.loop-city.invariant c.put_list.ensures)

pub returns : goal.returns
returns g c =
    let near = c.args.near.now in
    let all : c.loop-city.city - 1 ≡ near.size =
    omega (arith, c.loop-city.auto.city-end, c.size-city-end.ensures.value) in
    rw all at c.loop-city.invariant
