use Rattle.std.proofs.Common.{ℕ, ap, length, subst, sym, ◌∙◌}
use Rattle.std.specs.Prelude.{IfSome}
use Rattle.tk_problem.specs.PlacesOf.{places_of}
use Rattle.tk_distance.specs.Cities.{IsCity}
use Rattle.tk_picture.specs.Pictures.{text_in}
use Rattle.tk_plot.proofs.DrawnOutcomes.{picture_drawn}
use Rattle.tk_plot.proofs.plot.draw.Goals as goal

pub write_picture-requires-clause-depot : goal.write_picture-requires-clause-depot
write_picture-requires-clause-depot g c =
    let size = ap (λ v. length (places_of v.places)) c.picture_of.ensures.view ∙ c.requires.view.size in
    subst (λ (n : ℕ). IfSome c.picture_of.result.depot (IsCity n)) (sym size) c.picture_of.ensures.known

pub returns-clause-text : goal.returns-clause-text
returns-clause-text g c =
    let ensures = c.picture_of.ensures in
    let placed = c.args.placed.now in
    let drawn = picture_drawn c.args.form.now placed.places placed.problem c.picture_of.result c.args.view.now
    c.args.subject
    c.requires.view ensures.name ensures.origin ensures.view ensures.subject ensures.depot ensures.demands in
    (text_in c.args.form.now c.picture_of.result, (drawn, c.write_picture.ensures.text))
