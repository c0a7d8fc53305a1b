use Rattle.std.proofs.Common.{◌∙◌, ap, arith, rules, length}
use Rattle.std.proofs.lemmas.List.{length-set}
use Rattle.tk_problem.specs.Places.{origin}
use Rattle.tk_for_c.proofs.PointArrays.{one_near}
use Rattle.tk_for_c.proofs.Written.{one_written}
use Rattle.tk_for_c.specs.Points.{place_at}
use Rattle.tk_for_c.proofs.points.places_of.Goals as goal

pub loop-i-preserved : goal.loop-i-preserved
loop-i-preserved c = (
  ap length c.in_ok-set.ensures.ok ∙ length-set _ _ _ ∙ c.loop-i.invariant.0,
  one_written c.loop-i.points c.set.new.self c.loop-i.i _ origin (place_at c.args.xs.now c.args.ys.now)
      c.in_ok-set.ensures.ok (search rules) (search rules) c.loop-i.invariant.1,
  one_near c.args.xs.now c.args.ys.now c.loop-i.i c.loop-i.invariant.2 (search rules),
)

pub returns : goal.returns
returns c =
    let held = c.loop-i.invariant in
    let all = c.loop-i-test.false in
    record {
      places = record {
        count = held.0;
        others = c.if-ys-xs.false;
        each = λ i within. held.1 i (omega (arith, within, all));
      };
      low = omega (arith, held.0);
      high = omega (arith, held.0);
      some = record {
        some = omega arith;
        few = omega arith;
        count = c.if-ys-xs.false;
        near = λ i within. held.2 i (omega (arith, within, all));
      };
      none = tt;
    }

pub returns-in_default : goal.returns-in_default
returns-in_default c = record {
  places = tt;
  low = tt;
  high = tt;
  some = tt;
  none = λ can. c.in_default.ensures.none (can.near c.loop-i.i c.loop-i-test.true);
}
