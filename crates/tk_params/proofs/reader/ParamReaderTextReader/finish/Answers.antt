use Rattle.std.proofs.Common.{◌∙◌, ap, sym}
use Rattle.std.proofs.lemmas.Result.{err_from_is_err_and}
use Rattle.tk_words.specs.Texts.{DecidesEnded}
use Rattle.tk_params.specs.Params.{spells_eof, params_texts}
use Rattle.tk_params.proofs.ReaderBytes.{ended_as, ends_eof, ends_faulty, ends_line}
use Rattle.tk_params.proofs.LineFaults.{reported_line}
use Rattle.tk_params.proofs.reader.ParamReaderTextReader.finish.Goals as goal

pub returns-then-spelled : goal.returns-then-spelled
returns-then-spelled c = λ before waits.
    rw c.answer.ensures
    (ended_as c.args.self.line c.args.self.settings before
    (ends_eof c.args.self before waits.fed
    (ap spells_eof (sym c.deref.ensures.value) ∙ sym c.spelled.ensures ∙ c.if-spelled.true)))

pub returns-in_err-take_held : goal.returns-in_err-take_held
returns-in_err-take_held c = λ before waits.
    let p = err_from_is_err_and c.from_residual.result c.from_residual.ensures.1 in
    let s = c.args.self in
    let stopped = c.in_err-take_held.ensures in
    rw (p.1, p.2)
    (reported_line s.settings s.held.items c.in_err-take_held.field-0.0 s.line (DecidesEnded params_texts before)
    stopped.line stopped.reported (ends_faulty s before waits.fed
    (ap spells_eof (sym c.deref.ensures.value) ∙ sym c.spelled.ensures ∙ c.if-spelled.false)))

pub returns : goal.returns
returns c = λ before waits.
    let t = c.take_held.new.self in
    let taken = c.in_ok-take_held.ensures in
    rw c.answer-2.ensures
    (ended_as t.line t.settings before
    (rw taken.line (ends_line c.args.self t before waits.fed taken
    (ap spells_eof (sym c.deref.ensures.value) ∙ sym c.spelled.ensures ∙ c.if-spelled.false))))
