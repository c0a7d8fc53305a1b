use Rattle.std.proofs.Common.{◌∙◌}
use Rattle.tk_problem_text.proofs.sections.begin.begin_known.Goals as goal

pub returns-in-EdgeWeightSection-clause-err : goal.returns-in-EdgeWeightSection-clause-err
returns-in-EdgeWeightSection-clause-err c =
    λ before n has_parts typed sized. rw c.in-EdgeWeightSection.is
    (c.begin_weights.ensures.err before n has_parts sized)

pub returns-in-DemandSection-clause-err : goal.returns-in-DemandSection-clause-err
returns-in-DemandSection-clause-err c =
    λ before n has_parts typed sized. rw c.in-DemandSection.is
    (c.begin_loads.ensures.err before n (has_parts.headers.problem_type.says ∙ typed) sized)

pub returns-in-DepotSection-clause-err : goal.returns-in-DepotSection-clause-err
returns-in-DepotSection-clause-err c =
    λ before n has_parts typed sized. rw c.in-DepotSection.is
    (c.begin_depot.ensures.err before n (has_parts.headers.problem_type.says ∙ typed))
