use Rattle.std.proofs.Common.{ap}
use Rattle.tk_problem.specs.Stored.{stored_places}
use Rattle.tk_problem.proofs.points.Points.places.Goals as goal

pub returns-in-Fine-clause-places : goal.returns-in-Fine-clause-places
returns-in-Fine-clause-places c =
    let is = ap stored_places c.in-Fine.is in
    let view = c.self.view_is in
    cc
