use Rattle.std.proofs.lemmas.Result.{IfOk-weaker}
use Rattle.tk_problem_text.proofs.PlacedPieces.{kept_header}
use Rattle.tk_problem_text.proofs.placed_handler.PlacedHandlerHandler.header.Goals as goal

pub returns-clause-ok : goal.returns-clause-ok
returns-clause-ok c = λ before v n holds scans.
    IfOk-weaker c.header.result _ _ (λ _ taken. (
      record {
        parts = taken.0;
        display = kept_header c.args.self.now.problem.parts before c.args.word v n c.args.self.now.display holds.parts
            taken.1 holds.display;
      },
      taken.1,
    )) (c.header.ensures.ok before v n holds.parts scans)

pub returns-clause-err : goal.returns-clause-err
returns-clause-err c = λ before v n holds scans. c.header.ensures.err before v n holds.parts scans
