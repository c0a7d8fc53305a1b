use Rattle.tk_problem_text.proofs.problem_handler.ProblemHandlerHandler.end_section.Goals as goal

pub returns-then-not-may_end-clause-ok : goal.returns-then-not-may_end-clause-ok
returns-then-not-may_end-clause-ok c = λ before word n toks line wants. tt

pub returns-clause-ok : goal.returns-clause-ok
returns-clause-ok c = λ before word n toks line wants.
    let may = c.may_end.ensures.yes c.if-not-may_end.false before word n toks line wants.section in
    (c.close.ensures before word n _ wants.parts wants.sized wants.fresh may.0, may.1)
