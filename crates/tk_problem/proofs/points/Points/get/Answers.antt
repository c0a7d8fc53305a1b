use Rattle.std.proofs.Common.{◌∙◌, ap, arith, get_or, length, sym}
use Rattle.std.proofs.lemmas.List.{get_or_read}
use Rattle.std.proofs.lemmas.Grind.{common_steps}
use Rattle.tk_problem.specs.Places.{origin}
use Rattle.tk_problem.specs.Stored.{stored_places}
use Rattle.tk_problem.proofs.points.Points.get.Goals as goal

pub returns-in-Whole-clause-place : goal.returns-in-Whole-clause-place
returns-in-Whole-clause-place c = grind (arith, common_steps)

pub returns-in-Whole-clause-near : goal.returns-in-Whole-clause-near
returns-in-Whole-clause-near c = grind (arith, common_steps)

pub returns-in-Fine-clause-place : goal.returns-in-Fine-clause-place
returns-in-Fine-clause-place c =
    let places = c.in-Fine.places.items in
    let all = sym (ap stored_places c.in-Fine.is) ∙ c.self.view_is in
    get_or_read places c.args.index _ (omega (arith, ap length all)) c.index-in-Fine.ensures origin
    ∙ ap (λ ps. get_or ps c.args.index origin) all

pub returns-in-Fine-clause-near : goal.returns-in-Fine-clause-near
returns-in-Fine-clause-near c = grind (arith, common_steps)
