use Rattle.tk_rings.specs.StretchLaws.{fits-cycle}
use Rattle.tk_rings.proofs.laws.same_cycles_fit.Goals as goal

pub returns : goal.returns
returns c = λ load is_depot. fits-cycle c.args.capacity load is_depot c.args.ring.now c.args.other.now c.requires
