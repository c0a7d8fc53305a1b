use Rattle.std.proofs.Common.{◌++◌, ℕ, List, subst, sym, arith}
use Rattle.std.proofs.lemmas.Result.{err_from_is_err_and}
use Rattle.tk_words.proofs.FirstBytes.{first_byte, first_reported}
use Rattle.tk_lists.specs.Solution.{solution_texts}
use Rattle.tk_lists.specs.Reader.SolutionReader.{FedLines}
use Rattle.tk_lists.proofs.SolutionTexts.{fed_waits}
use Rattle.tk_lists.proofs.solution.SolutionReaderTextReader.feed.Goals as goal

pub returns-in_err-feed_byte : goal.returns-in_err-feed_byte
returns-in_err-feed_byte c = λ before waits.
    let p = err_from_is_err_and c.from_residual.result c.from_residual.ensures.1 in
    rw (p.1, p.2)
    (first_reported solution_texts before c.args.bytes.now c.requires.some c.in_err-feed_byte.field-0.0
    (c.in_err-feed_byte.ensures before waits.fed))

pub returns : goal.returns
returns c = λ before waits. (
  omega arith,
  c.requires.some,
  fed_waits _ _ (subst (λ (l : List ℕ). FedLines c.feed_byte.new.self (before ++ l))
      (sym (first_byte c.args.bytes.now c.requires.some)) (c.in_ok-feed_byte.ensures before waits.fed)),
)
