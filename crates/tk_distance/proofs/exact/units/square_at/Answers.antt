use Rattle.std.proofs.Common.{◌+◌, ◌-◌, ◌*◌, ap}
use Rattle.tk_problem.specs.declared.unit.Unit.TheVariants.{One}
use Rattle.tk_distance.proofs.ExactRoots.Units.{below_by, not_one}
use Rattle.tk_distance.proofs.exact.units.square_at.Goals as goal

pub returns-in-One : goal.returns-in-One
returns-in-One c = λ square d near is.
    below_by c.args.unit One square d c.args.bound _ c.in-One.is
    (ap (λ m. c.args.bound * c.args.bound - c.args.bound + m) c.min.ensures) near is

pub returns-in-Tenth : goal.returns-in-Tenth
returns-in-Tenth c = c.square_at_in_parts.ensures (not_one c.args.unit c.in-Tenth.is)
