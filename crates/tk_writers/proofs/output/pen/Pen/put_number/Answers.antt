use Rattle.std.proofs.Common.{◌∙◌, subst}
use Rattle.tk_writers.specs.Pens.{Puts}
use Rattle.tk_writers.proofs.output.pen.Pen.put_number.Goals as goal

pub returns : goal.returns
returns g c = subst (Puts _ _ _) (c.as_bytes.ensures.value ∙ c.format.ensures.text) c.put.ensures
