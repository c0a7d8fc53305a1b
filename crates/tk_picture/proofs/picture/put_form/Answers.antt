use Rattle.std.proofs.Common.{rules}
use Rattle.tk_picture.proofs.picture.put_form.Goals as goal

pub returns-in-Svg : goal.returns-in-Svg
returns-in-Svg g c = rw c.in-Svg.is c.put_picture.ensures

pub returns-in-Page : goal.returns-in-Page
returns-in-Page = search rules
