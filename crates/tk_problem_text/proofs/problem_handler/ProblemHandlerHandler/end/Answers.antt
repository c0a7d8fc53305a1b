use Rattle.tk_problem_text.proofs.PartsWhole.{whole_parts}
use Rattle.tk_problem_text.proofs.problem_handler.ProblemHandlerHandler.end.Goals as goal

pub returns-clause-value : goal.returns-clause-value
returns-clause-value c = λ before parts none.
    let good = c.end.ensures.none before parts none in
    (good, (whole_parts c.args.self.now.parts before parts good).1)

pub returns-clause-complete : goal.returns-clause-complete
returns-clause-complete c =
    λ before parts none. (whole_parts c.args.self.now.parts before parts (c.end.ensures.none before parts none)).0
