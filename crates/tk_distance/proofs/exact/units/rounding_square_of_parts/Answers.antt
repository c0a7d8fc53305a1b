use Rattle.tk_problem.specs.declared.unit.Unit.TheVariants.{One, Tenth, Hundredth, Thousandth}
use Rattle.tk_distance.proofs.ExactRoots.Units.{rounds_by}
use Rattle.tk_distance.proofs.exact.units.rounding_square_of_parts.Goals as goal

pub returns-in-One-clause-alike : goal.returns-in-One-clause-alike
returns-in-One-clause-alike c = rounds_by c.args.unit One c.args.square c.in-One.is

pub returns-in-Tenth-clause-alike : goal.returns-in-Tenth-clause-alike
returns-in-Tenth-clause-alike c = rounds_by c.args.unit Tenth c.args.square c.in-Tenth.is

pub returns-in-Hundredth-clause-alike : goal.returns-in-Hundredth-clause-alike
returns-in-Hundredth-clause-alike c = rounds_by c.args.unit Hundredth c.args.square c.in-Hundredth.is

pub returns-in-Thousandth-clause-alike : goal.returns-in-Thousandth-clause-alike
returns-in-Thousandth-clause-alike c = rounds_by c.args.unit Thousandth c.args.square c.in-Thousandth.is
