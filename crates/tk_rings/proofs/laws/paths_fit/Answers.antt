use Rattle.tk_rings.specs.StretchLaws.{path_fits}
use Rattle.tk_rings.proofs.laws.paths_fit.Goals as goal

pub returns : goal.returns
returns c = λ load is_depot h same plain.
    path_fits c.args.capacity load is_depot c.args.ring.now c.args.path.now c.args.rest.now h same plain
