use Rattle.tk_problem.specs.declared.unit.Unit.TheVariants.{One, Tenth, Hundredth, Thousandth}
use Rattle.tk_distance.proofs.ExactRoots.Units.{covers_by}
use Rattle.tk_distance.proofs.exact.units.covering_square.Goals as goal

pub returns-in-One-clause-covers : goal.returns-in-One-clause-covers
returns-in-One-clause-covers c = λ n. covers_by c.args.unit One c.args.square n c.in-One.is

pub returns-in-Tenth-clause-covers : goal.returns-in-Tenth-clause-covers
returns-in-Tenth-clause-covers c = λ n. covers_by c.args.unit Tenth c.args.square n c.in-Tenth.is

pub returns-in-Hundredth-clause-covers : goal.returns-in-Hundredth-clause-covers
returns-in-Hundredth-clause-covers c = λ n. covers_by c.args.unit Hundredth c.args.square n c.in-Hundredth.is

pub returns-in-Thousandth-clause-covers : goal.returns-in-Thousandth-clause-covers
returns-in-Thousandth-clause-covers c = λ n. covers_by c.args.unit Thousandth c.args.square n c.in-Thousandth.is
