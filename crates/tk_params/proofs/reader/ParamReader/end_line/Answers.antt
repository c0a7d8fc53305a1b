use Rattle.std.proofs.Common.{refl, ◌∷◌, [], ◌++◌}
use Rattle.std.proofs.lemmas.Result.{err_from_is_err_and}
use Rattle.tk_words.specs.Texts.{Decides}
use Rattle.tk_params.specs.Params.{params_texts}
use Rattle.tk_params.proofs.ReaderBytes.{fed_line, line_faulty}
use Rattle.tk_params.proofs.LineFaults.{reported_line}
use Rattle.tk_params.proofs.reader.ParamReader.end_line.Goals as goal

pub returns-in_err-take_held : goal.returns-in_err-take_held
returns-in_err-take_held c = λ before fed.
    let p = err_from_is_err_and c.from_residual.result c.from_residual.ensures.1 in
    let s = c.args.self.now in
    let stopped = c.in_err-take_held.ensures in
    rw (p.1, p.2)
    (reported_line s.settings s.held.items c.in_err-take_held.field-0.0 s.line
    (Decides params_texts (before ++ 10 ∷ []))
    stopped.line stopped.reported (line_faulty s before fed 10 refl c.requires.line))

pub returns : goal.returns
returns c = λ before fed. (
  refl,
  fed_line c.args.self.now c.take_held.new.self before fed c.in_ok-take_held.ensures c.requires.line
      _ refl refl refl c.clear.ensures.items,
)
