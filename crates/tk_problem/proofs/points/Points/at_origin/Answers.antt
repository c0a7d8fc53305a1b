use Rattle.std.proofs.Common.{◌∙◌, ap, map}
use Rattle.tk_problem.proofs.EqualPoints.{map-replicate}
use Rattle.tk_problem.proofs.UnitPoints.{places_in-near}
use Rattle.tk_problem.specs.Units.{place_in}
use Rattle.tk_problem.specs.declared.unit.Unit.TheVariants.{One}
use Rattle.tk_problem.proofs.points.Points.at_origin.Goals as goal

pub invariant_of-result : goal.invariant_of-result
invariant_of-result c = places_in-near One _

pub returns : goal.returns
returns c =
    ap (map (place_in One)) (c.in_ok-places.ensures.items_if_clones_equal (λ y h. h))
    ∙ map-replicate (place_in One) c.args.n _
