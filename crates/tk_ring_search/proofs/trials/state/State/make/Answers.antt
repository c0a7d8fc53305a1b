use Rattle.std.proofs.Common.{ℕ, List, ◌≤◌, length, sym, subst, arith}
use Rattle.std.proofs.lemmas.Int.{ints}
use Rattle.std.specs.List.{All}
use Rattle.tk_distance.specs.Cities.{IsCity}
use Rattle.tk_problem.specs.declared.limits.TheConstants.{CITY_LIMIT}
use Rattle.tk_descent.proofs.WakeExecutions.DescentSteps.{fits_length}
use Rattle.tk_rings.specs.LoadedRings.{cities_in}
use Rattle.tk_ring_search.proofs.KickParts.{length_of}
use Rattle.tk_ring_search.proofs.trials.state.State.make.Goals as goal

pub wake_each-requires : goal.wake_each-requires
wake_each-requires g c =
    let P : ℕ → Type 0 = λ n. All (IsCity n) c.ends-ends.result in
    subst P (sym c.requires.sizes.1) c.ends-ends.ensures.cities

pub bridged_length-requires-clause-cities : goal.bridged_length-requires-clause-cities
bridged_length-requires-clause-cities g c =
    let P : ℕ → Type 0 = λ n. All (IsCity n) c.ends-ends.result in
    subst P (sym c.requires.sizes.0) c.ends-ends.ensures.cities

pub bridged_length-requires-clause-before : goal.bridged_length-requires-clause-before
bridged_length-requires-clause-before g c =
    let m = c.args.metric.now in
    let d = g.M.Metric.distance m in
    let C : List ℕ = cities_in c.args.self.now.ring in
    let few : length C ≤ CITY_LIMIT = omega (arith, c.requires.sizes.0, g.met.M.Metric.size_limit m) in
    let bound = fits_length d C (g.met.M.Metric.symmetric m, g.met.M.Metric.distance_limit m) few in
    (omega (arith, ints, c.requires.cost, bound), omega (arith, ints, c.requires.cost, bound))

pub returns-clause-cost : goal.returns-clause-cost
returns-clause-cost g c =
    let m = c.args.metric.now in
    let d = g.M.Metric.distance m in
    let C : List ℕ = cities_in c.args.self.now.ring in
    let D : List ℕ = cities_in c.make.new.ring in
    let few : length D ≤ CITY_LIMIT =
    omega (arith, c.make.ensures.size, c.requires.sizes.0, g.met.M.Metric.size_limit m) in
    let bound = fits_length d D (g.met.M.Metric.symmetric m, g.met.M.Metric.distance_limit m) few in
    let law = length_of C _ c.args.kick c.requires.kick c.ends-ends.ensures.value d (g.met.M.Metric.symmetric m) D
    c.make.ensures.kicked in
    omega (arith, ints, bound, law, c.requires.cost, c.bridged_length.ensures)
