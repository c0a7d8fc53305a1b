use Rattle.tk_problem.specs.declared.unit.Unit.TheVariants.{One, Tenth, Hundredth, Thousandth}
use Rattle.tk_distance.proofs.ExactRoots.Units.{length_by}
use Rattle.tk_distance.proofs.exact.units.rounded_length.Goals as goal

pub returns-in-One-clause-nearest : goal.returns-in-One-clause-nearest
returns-in-One-clause-nearest c = length_by c.args.unit One c.args.length c.in-One.is

pub returns-in-Tenth-clause-nearest : goal.returns-in-Tenth-clause-nearest
returns-in-Tenth-clause-nearest c = length_by c.args.unit Tenth c.args.length c.in-Tenth.is

pub returns-in-Hundredth-clause-nearest : goal.returns-in-Hundredth-clause-nearest
returns-in-Hundredth-clause-nearest c = length_by c.args.unit Hundredth c.args.length c.in-Hundredth.is

pub returns-in-Thousandth-clause-nearest : goal.returns-in-Thousandth-clause-nearest
returns-in-Thousandth-clause-nearest c = length_by c.args.unit Thousandth c.args.length c.in-Thousandth.is
