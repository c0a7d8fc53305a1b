use Rattle.std.proofs.Common.{ap, sym, ◌∙◌}
use Rattle.tk_picture.specs.PictureText.{has_dots}
use Rattle.tk_picture.specs.Pictures.{drawing_of}
use Rattle.tk_picture.proofs.EmptyPen.{Puts-none}
use Rattle.tk_picture.proofs.dots.put_city_dots.Goals as goal

pub returns-then-has_dots : goal.returns-then-has_dots
returns-then-has_dots g c =
    let has = c.has_dots.ensures ∙ ap (has_dots (drawing_of c.args.subject)) c.size.ensures.value in
    rw (sym has ∙ c.if-has_dots.true) c.put_all_dots.ensures

pub returns-else-has_dots : goal.returns-else-has_dots
returns-else-has_dots g c =
    let has = c.has_dots.ensures ∙ ap (has_dots (drawing_of c.args.subject)) c.size.ensures.value in
    rw (sym has ∙ c.if-has_dots.false) Puts-none
