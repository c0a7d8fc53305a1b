use Rattle.std.proofs.lemmas.Result.{err_from_is_err_and}
use Rattle.tk_problem_text.specs.declared.problem_handler.ProblemHandler.{ProblemHandler}
use Rattle.tk_lines.specs.Reader.Handlers.{whole}
use Rattle.tk_problem_text.specs.Reader.OpenSections.{IsOpen, IsPast}
use Rattle.tk_problem_text.specs.Problem.{problem_format}
use Rattle.tk_problem_text.specs.Reader.ProblemHandler.{ProblemHolds, ProblemWants}
use Rattle.tk_problem_text.proofs.ProblemHandlers.{taken_more, taken_end}
use Rattle.tk_problem_text.proofs.problem_handler.ProblemHandlerHandler.token.Goals as goal

pub returns-in_err-taken-clause-err : goal.returns-in_err-taken-clause-err
returns-in_err-taken-clause-err c = λ before word n toks line wants.
    let p = err_from_is_err_and c.from_residual.result c.from_residual.ensures.1 in
    rw (p.1, p.2) (c.in_err-taken.ensures.err before word n toks line wants.section)

pub returns-in-More-clause-ok : goal.returns-in-More-clause-ok
returns-in-More-clause-ok c = λ before word n toks line wants.
    let current = c.take.new.self in
    let now : ProblemHandler =
    record { alloc = c.args.self.now.alloc; parts = c.args.self.now.parts; current = current } in
    taken_more problem_format (IsPast before word n current) (ProblemHolds now) (λ ps w m ts. IsOpen ps w m ts current)
    (ProblemWants now) before word n toks (whole c.args.token.now line) c.in_ok-taken.taken c.in-More.is
    (λ ts is. record { parts = wants.parts; sized = wants.sized; fresh = wants.fresh; section = is })
    (c.in_ok-taken.ensures.ok before word n toks line wants.section)

pub returns-in_default-clause-ok : goal.returns-in_default-clause-ok
returns-in_default-clause-ok c = λ before word n toks line wants.
    let current = c.take.new.self in
    taken_end problem_format (IsPast before word n current) (ProblemHolds c.close.new.self)
    (λ ps w m ts. IsOpen ps w m ts current) (ProblemWants c.close.new.self) before word n toks
    (whole c.args.token.now line) c.in_ok-taken.taken c.in_default.not-More
    (λ ps past. c.close.ensures before word n ps wants.parts wants.sized wants.fresh past)
    (c.in_ok-taken.ensures.ok before word n toks line wants.section)
