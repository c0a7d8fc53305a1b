use Rattle.std.proofs.Common.{subst, sym, ◌∙◌}
use Rattle.tk_problem_text.specs.Reader.OpenSections.{IsPast}
use Rattle.tk_problem_text.specs.Reader.Parts.{HasParts}
use Rattle.tk_problem_text.specs.Problem.{size_of}
use Rattle.tk_problem_text.proofs.ProblemHandlers.{past_places, past_loads}
use Rattle.tk_problem_text.proofs.problem_handler.ProblemHandler.close.Goals as goal

pub returns-in-Places : goal.returns-in-Places
returns-in-Places c = λ before word n ps parts sized fresh past.
    let is = sym c.replace.ensures.value ∙ c.in-Places.is in
    past_places before word n ps (HasParts c.keep_places.new.self) fresh c.in-Places.section
    (subst (λ s. IsPast before word n s ps) is past)
    (λ toks after has all new. c.keep_places.ensures before n toks after parts sized new
    (c.into_places.ensures (size_of before) toks has all))

pub returns-in-Loads : goal.returns-in-Loads
returns-in-Loads c = λ before word n ps parts sized fresh past.
    let is = sym c.replace.ensures.value ∙ c.in-Loads.is in
    past_loads before word n ps (HasParts c.keep_demand.new.self) fresh c.in-Loads.section
    (subst (λ s. IsPast before word n s ps) is past)
    (λ toks after has all few new. c.keep_demand.ensures before n toks after parts sized new
    (c.into_loads.ensures (size_of before) toks has all) few)
