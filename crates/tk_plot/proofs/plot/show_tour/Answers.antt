use Rattle.std.proofs.Common.{ℕ, refl, subst, ◌∙◌}
use Rattle.tk_problem_text.specs.ProblemOf.{problem_is}
use Rattle.tk_picture.specs.Drawings.{ATour}
use Rattle.tk_plot.specs.Plot.{Drawn, Refused, IsPicture}
use Rattle.tk_plot.proofs.DrawnOutcomes.{length_read, tour_reported}
use Rattle.tk_plot.proofs.plot.show_tour.Goals as goal

pub draw-requires-clause-fits : goal.draw-requires-clause-fits
draw-requires-clause-fits g c = rw c.in-Tour.is at c.requires.verdict

pub returns-in-Tour-clause-text : goal.returns-in-Tour-clause-text
returns-in-Tour-clause-text g c =
    let p = c.args.placed.now.problem in
    let cities = c.args.cities.now in
    let size = c.length_of-length.ensures ∙ length_read p cities in
    let reported = c.draw.ensures.text in
    let drawn = subst (λ (n : ℕ). IsPicture c.args.form.now c.args.placed.now.places (problem_is p) (ATour cities n)
    reported.0) size reported.1.0 in
    rw c.in-Tour.is (Drawn reported.0, (drawn, (reported.1.1, (refl, refl))))

pub returns-in_default-clause-text : goal.returns-in_default-clause-text
returns-in_default-clause-text g c =
    let placed = c.args.placed.now in
    let reported = tour_reported c.args.form.now placed.places placed.problem c.args.cities.now c.args.verdict
    c.in_default.not-Tour in
    (Refused _, (reported, ((refl, refl), rw c.of.ensures at c.write_tour_outcome.ensures.text)))
