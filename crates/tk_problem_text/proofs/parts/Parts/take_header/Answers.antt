use Rattle.std.proofs.lemmas.Result.{IfOk-weaker}
use Rattle.tk_problem_text.proofs.PartHeaders.{after_header}
use Rattle.tk_problem_text.proofs.parts.Parts.take_header.Goals as goal

pub returns-clause-ok : goal.returns-clause-ok
returns-clause-ok c =
    λ ps v n h s. IfOk-weaker c.take.result
    _ _ (λ _ k. (after_header c.args.self.now ps c.args.word v n c.take.new.self k.0 h k.1, k.1))
    (c.take.ensures.ok ps v n h.headers s)

pub returns-clause-err : goal.returns-clause-err
returns-clause-err c = λ ps v n h s. c.take.ensures.err ps v n h.headers s
