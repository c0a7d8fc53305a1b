use Rattle.std.proofs.Common.{subst}
use Rattle.tk_lines.specs.Reader.Steps.{EndsPlace}
use Rattle.tk_lines.proofs.reader.PieceReader.close.Goals as goal

pub returns-in-Word-clause-closed : goal.returns-in-Word-clause-closed
returns-in-Word-clause-closed g c = λ next before ends fed.
    c.end_word.ensures.closed next before (subst (EndsPlace next) c.in-Word.is ends) fed

pub returns-in-Token-clause-closed : goal.returns-in-Token-clause-closed
returns-in-Token-clause-closed g c = λ next before ends fed.
    c.end_token.ensures.closed next before (subst (EndsPlace next) c.in-Token.is ends) fed

pub returns-in-MinusOne-clause-closed : goal.returns-in-MinusOne-clause-closed
returns-in-MinusOne-clause-closed g c = λ next before ends fed.
    c.end_minus_one.ensures.closed next before (subst (EndsPlace next) c.in-MinusOne.is ends) fed
