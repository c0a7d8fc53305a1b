use Rattle.tk_distance.proofs.ExactRoots.Units.{below_half}
use Rattle.tk_distance.proofs.exact.units.square_at_in_parts.Goals as goal

pub returns : goal.returns
returns c = λ part square d near is.
    below_half c.args.unit _ square d c.args.bound _ c.half_of.ensures.half part c.square_of_half.ensures.value near is
