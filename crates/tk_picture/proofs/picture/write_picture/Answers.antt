use Rattle.std.proofs.Common.{rules}
use Rattle.tk_writers.proofs.Pieces.Putting.{Writes-end, broken_at_err}
use Rattle.tk_picture.specs.Pictures.{text_in}
use Rattle.tk_picture.proofs.PageLength.{length_form}
use Rattle.tk_picture.proofs.picture.write_picture.Goals as goal

pub returns-clause-text : goal.returns-clause-text
returns-clause-text g c =
    Writes-end g.W.Sink c.args.out.now _ _ _ _ _ (text_in c.args.form c.args.picture.now)
    c.new-pen.ensures.empty c.put_form.ensures c.end.ensures (search rules)

pub returns-clause-failed : goal.returns-clause-failed
returns-clause-failed g c =
    broken_at_err g.W.Sink c.args.out.now _ _ _
    (length_form c.args.form c.args.picture.now c.requires.name c.requires.fits)
    (returns-clause-text g c)
