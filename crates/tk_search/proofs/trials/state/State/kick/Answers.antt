use Rattle.std.proofs.Common.{ℕ, List, ◌≤◌, length, ap, ◌∙◌, sym, subst, arith}
use Rattle.std.proofs.lemmas.Int.{ints}
use Rattle.tk_problem.specs.declared.limits.TheConstants.{CITY_LIMIT}
use Rattle.tk_descent.proofs.WakeExecutions.DescentSteps.{fits_length}
use Rattle.tk_descent.specs.Awake.{one_to, woken_each}
use Rattle.tk_tour.specs.JournalTours.{cities_of, tour_of}
use Rattle.tk_search.specs.Cuts.{AreCuts, drawn_cuts}
use Rattle.tk_search.proofs.DoubleBridge.Kicks.{length_at_ends}
use Rattle.tk_search.proofs.SearchTrials.Woken.{ends_are_cities}
use Rattle.tk_search.proofs.trials.state.State.kick.Goals as goal

pub bridged_length-requires-clause-cities : goal.bridged_length-requires-clause-cities
bridged_length-requires-clause-cities g c =
    ends_are_cities (cities_of c.args.self.now.tour) _ _ _ (g.met.S.TourStore.is_tour (tour_of c.args.self.now.tour)).2
    c.draw-cuts.result c.size.ensures c.draw-cuts.ensures.cuts c.ends-ends.ensures (sym c.requires.fits.0)

pub wake_kicked-requires : goal.wake_kicked-requires
wake_kicked-requires g c =
    ends_are_cities (cities_of c.args.self.now.tour) _ _ _ (g.met.S.TourStore.is_tour (tour_of c.args.self.now.tour)).2
    c.draw-cuts.result c.size.ensures c.draw-cuts.ensures.cuts c.ends-ends.ensures (sym c.requires.fits.1)

pub returns-clause-kicked : goal.returns-clause-kicked
returns-clause-kicked g c = (
  record {
    cuts = c.draw-cuts.result;
    are = let Are : ℕ → Type 0 = λ v. AreCuts v c.draw-cuts.result in subst Are c.size.ensures c.draw-cuts.ensures.cuts;
    drawn = c.draw-cuts.ensures.drawn ∙ ap (λ v. drawn_cuts v (g.R.Rng.stream c.args.rng.now)) c.size.ensures;
    bridge = c.kick.ensures.bridged;
    swept = λ h. c.wake_kicked.ensures.swept h
        ∙ ap (λ v. woken_each c.args.self.now.waking.queue (one_to v)) c.requires.fits.1;
    ends = λ h. c.wake_kicked.ensures.ends h ∙ ap (woken_each c.args.self.now.waking.queue) c.ends-ends.ensures;
  },
  c.kick.ensures.swaps,
)

pub bridged_length-requires-clause-before : goal.bridged_length-requires-clause-before
bridged_length-requires-clause-before g c =
    let m = c.args.metric.now in
    let d = g.M.Metric.distance m in
    let C : List ℕ = cities_of c.args.self.now.tour in
    let few : length C ≤ CITY_LIMIT = omega (arith, c.requires.fits.0, g.met.M.Metric.size_limit m) in
    let bound = fits_length d C (g.met.M.Metric.symmetric m, g.met.M.Metric.distance_limit m) few in
    (omega (arith, ints, c.requires.shortest, bound), omega (arith, ints, c.requires.shortest, bound))

pub returns-clause-length : goal.returns-clause-length
returns-clause-length g c =
    let m = c.args.metric.now in
    let d = g.M.Metric.distance m in
    let C : List ℕ = cities_of c.args.self.now.tour in
    let D : List ℕ = cities_of c.kick.new.store in
    let few : length D ≤ CITY_LIMIT =
    omega (arith, c.kick.ensures.size, c.requires.fits.0, g.met.M.Metric.size_limit m) in
    let bound = fits_length d D (g.met.M.Metric.symmetric m, g.met.M.Metric.distance_limit m) few in
    let Are : ℕ → Type 0 = λ v. AreCuts v c.draw-cuts.result in
    let law = length_at_ends C _ c.draw-cuts.result (subst Are c.size.ensures c.draw-cuts.ensures.cuts)
    c.ends-ends.ensures d (g.met.M.Metric.symmetric m) D c.kick.ensures.bridged in
    omega (arith, ints, bound, law, c.requires.shortest, c.bridged_length.ensures)
