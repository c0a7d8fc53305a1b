use Rattle.std.proofs.Common.{◌≡◌, Some, refl, rules}
use Rattle.tk_problem_text.specs.declared.header_values.WeightType.TheVariants.{Explicit}
use Rattle.tk_problem_text.proofs.parts.Parts.take_places.Goals as goal

pub returns-in-Read-clause-places : goal.returns-in-Read-clause-places
returns-in-Read-clause-places c =
    let typed : c.args.self.now.headers.weight_type ≡ Some Explicit = search rules in
    rw (typed, c.in-Read.is) refl
