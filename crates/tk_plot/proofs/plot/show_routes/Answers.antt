use Rattle.std.proofs.Common.{◌≡◌, ℕ, inl, inr, refl, rules, subst}
use Rattle.std.proofs.lemmas.Result.{on_err_weaker}
use Rattle.std.specs.Prelude.{map}
use Rattle.std.specs.Int.RustNames.{unsigned_abs}
use Rattle.tk_problem_text.specs.ProblemOf.{problem_is}
use Rattle.tk_routes.specs.Cvrps.{instance_of}
use Rattle.tk_picture.specs.Drawings.{SomeRoutes}
use Rattle.tk_plot.specs.Plot.{Drawn, Refused, IsPicture}
use Rattle.tk_plot.proofs.DrawnOutcomes.{routes_reported, served_once}
use Rattle.tk_plot.proofs.plot.show_routes.Goals as goal

pub draw-requires-clause-fits : goal.draw-requires-clause-fits
draw-requires-clause-fits g c =
    let i = instance_of c.args.cvrp.now in
    let routes = map (λ r. r.items) c.args.solution.now.routes.items in
    let valid = rw c.in-Valid.is at c.requires.verdict in
    (c.requires.instance.size, rw c.deref.ensures.value (served_once i routes valid.0))

pub returns-in-Valid-clause-text : goal.returns-in-Valid-clause-text
returns-in-Valid-clause-text g c =
    let p = c.args.placed.now.problem in
    let i = instance_of c.args.cvrp.now in
    let count = c.in-Valid.routes in
    let cost : c.unsigned_abs.result ≡ unsigned_abs c.in-Valid.cost = search rules in
    let reported = rw c.deref.ensures.value at c.draw.ensures.text in
    let drawn = subst (λ (n : ℕ). IsPicture c.args.form.now c.args.placed.now.places (problem_is p)
    (SomeRoutes i (map (λ r. r.items) c.args.solution.now.routes.items) count n) reported.0) cost reported.1.0 in
    rw c.in-Valid.is (Drawn reported.0, (drawn, (reported.1.1, (refl, refl))))

pub returns-in_default-clause-text : goal.returns-in_default-clause-text
returns-in_default-clause-text g c =
    let placed = c.args.placed.now in
    let reported = routes_reported c.args.form.now placed.places placed.problem (instance_of c.args.cvrp.now)
    (map (λ r. r.items) c.args.solution.now.routes.items) c.args.verdict c.in_default.not-Valid in
    (Refused _, (reported, ((refl, refl), c.write_route_verdict.ensures.text)))

pub returns-in-Valid-clause-failed : goal.returns-in-Valid-clause-failed
returns-in-Valid-clause-failed g c =
    on_err_weaker c.draw.result inl c.draw.ensures.failed

pub returns-in_default-clause-failed : goal.returns-in_default-clause-failed
returns-in_default-clause-failed g c =
    on_err_weaker c.write_route_verdict.result inr c.write_route_verdict.ensures.failed
