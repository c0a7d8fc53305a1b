use Rattle.std.proofs.Common.{◌∙◌, ap, length, sym}
use Rattle.std.proofs.lemmas.List.{length-map}
use Rattle.tk_problem.specs.Stored.{stored_places}
use Rattle.tk_problem.proofs.points.Points.len.Goals as goal

pub returns-in-Whole : goal.returns-in-Whole
returns-in-Whole c =
    let all = sym (ap stored_places c.in-Whole.is) ∙ c.self.view_is in
    let count = rw length-map at (ap length all) in
    cc
