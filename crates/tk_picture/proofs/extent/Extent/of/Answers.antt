use Rattle.std.proofs.Common.{◌<◌, ◌≤◌, List, length, arith, rules}
use mir.Syntax.{w64}
use mir.Val.{SFits}
use Rattle.tk_problem.specs.declared.point.Point.{Point}
use Rattle.tk_problem.specs.PlacesOf.{places_of}
use Rattle.tk_picture.proofs.Bounds.{bound_whole, coordinates_more, least_next, greatest_next, side_kept}
use Rattle.tk_picture.proofs.extent.Extent.of.Goals as goal

pub loop-i-preserved : goal.loop-i-preserved
loop-i-preserved c =
    let places : List Point = places_of c.args.places in
    let n = c.loop-i in
    let place = c.get-place.result in
    let within : n.i < length places = omega (arith, c.len-i-end.ensures, c.loop-i-test.true) in
    let across = coordinates_more (λ p. p.x) places n.i place within c.get-place.ensures in
    let up = coordinates_more (λ p. p.y) places n.i place within c.get-place.ensures in
    let x_fits : SFits w64 place.x = search rules in
    let y_fits : SFits w64 place.y = search rules in
    record {
      left = least_next n.low.x _ c.min.result _ _ (search rules) x_fits (search rules) c.min.ensures.value across
          n.invariant.left;
      right = greatest_next n.high.x _ c.max.result _ _ (search rules) x_fits (search rules) c.max.ensures.value across
          n.invariant.right;
      bottom = least_next n.low.y _ c.min-in-loop-i.result _ _ (search rules) y_fits (search rules)
          c.min-in-loop-i.ensures.value up n.invariant.bottom;
      top = greatest_next n.high.y _ c.max-in-loop-i.result _ _ (search rules) y_fits (search rules)
          c.max-in-loop-i.ensures.value up n.invariant.top;
    }

pub invariant_of-result : goal.invariant_of-result
invariant_of-result c =
    let n = c.loop-i in
    record {
      is_side = side_kept n.low.x n.high.x n.low.y n.high.y c.side_of.result (search rules) (search rules)
          (search rules) (search rules) c.side_of.ensures;
    }

pub returns : goal.returns
returns c =
    let places : List Point = places_of c.args.places in
    let n = c.loop-i in
    let all : length places ≤ n.i = omega (arith, c.len-i-end.ensures, c.loop-i-test.false) in
    record {
      left = bound_whole _ (λ p. p.x) places n.i n.low.x (search rules) all n.invariant.left;
      right = bound_whole _ (λ p. p.x) places n.i n.high.x (search rules) all n.invariant.right;
      bottom = bound_whole _ (λ p. p.y) places n.i n.low.y (search rules) all n.invariant.bottom;
      top = bound_whole _ (λ p. p.y) places n.i n.high.y (search rules) all n.invariant.top;
    }
