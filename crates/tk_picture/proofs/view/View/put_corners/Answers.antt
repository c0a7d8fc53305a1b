use Rattle.std.proofs.Common.{◌≡◌, length, subst, arith}
use Rattle.tk_writers.specs.Pens.{Puts}
use Rattle.tk_writers.proofs.Pieces.PutEach.{flat_map_take, flat_map_all}
use Rattle.tk_writers.proofs.Pieces.Putting.{Puts-then}
use Rattle.tk_writers.specs.Written.{line}
use Rattle.tk_picture.specs.Views.{spot_in}
use Rattle.tk_picture.proofs.view.View.put_corners.Goals as goal

pub loop-city-preserved : goal.loop-city-preserved
loop-city-preserved g c =
    let view = c.args.self.now in
    rw (flat_map_take (λ x. line (spot_in view x)) c.args.cities.now c.loop-city.city-index
    c.loop-city-test.true)
    (Puts-then c.loop-city.invariant c.put_corner.ensures)

pub returns : goal.returns
returns g c =
    let view = c.args.self.now in
    let all : c.loop-city.city-index ≡ length c.args.cities.now = omega (arith, c.loop-city.auto.city-index-end) in
    subst (Puts _ _ _)
    (flat_map_all (λ x. line (spot_in view x)) c.args.cities.now c.loop-city.city-index
    all) c.loop-city.invariant
