use Rattle.std.proofs.Common.{[], Some, ◌≡◌, List}
use Rattle.std.proofs.lemmas.Result.{err_from_is_err_and}
use Rattle.tk_lines.specs.Pieces.{Fault, first_at, After}
use Rattle.tk_problem_text.specs.Problem.{problem_format, word_tests}
use Rattle.tk_words.specs.Lex.{Token}
use Rattle.tk_problem_text.proofs.SectionTokens.OpenSections.{problem_refused}
use Rattle.tk_lines.proofs.Pieces.ReportedFaults.{reported_word}
use Rattle.tk_problem_text.proofs.ProblemHandlers.{goes_open}
use Rattle.tk_problem_text.proofs.problem_handler.ProblemHandlerHandler.section.Goals as goal

pub returns-in_err-self-clause-err : goal.returns-in_err-self-clause-err
returns-in_err-self-clause-err c = λ before n parts.
    let word = c.args.word in
    let k = c.in_err-self.field-0.0 in
    let p = err_from_is_err_and c.from_residual.result c.from_residual.ensures.1 in
    rw (p.1, p.2)
    (reported_word (λ k. first_at n (word_tests before word) ≡ Some (Fault n k))
    (λ k. (toks : List Token) (after : After) → problem_format.section before word n toks after ≡ Some (Fault n k))
    k (λ fault toks after. problem_refused before word n k fault toks after)
    (c.in_err-self.ensures.err before n parts))

pub returns-clause-ok : goal.returns-clause-ok
returns-clause-ok c = λ before n parts.
    let begun = c.in_ok-self.ensures.ok before n parts in (
      record { parts = parts; sized = begun.sized; fresh = begun.fresh; section = begun.begun },
      goes_open before c.args.word n [] c.in_ok-self.field-0 begun.begun,
    )
