use Rattle.std.proofs.Common.{◌≡◌, ◌<◌, ◌∷◌, ℕ, suc, List, length, get_or, arith}
use Rattle.std.specs.Prelude.{All}
use Rattle.std.proofs.lemmas.Int.{ints}
use Rattle.std.proofs.lemmas.List.Elements.{All-get_or}
use Rattle.tk_problem.specs.declared.limits.TheConstants.{DISTANCE_LIMIT}
use Rattle.tk_distance.specs.Cities.{IsCity}
use Rattle.tk_tour.proofs.Lengths.{way_back-step, way_back-end, tour_length-limit}
use Rattle.tk_tour.proofs.measure.length.Goals as goal

-- the cities after the first one are cities of the metric
city_in : (n first k : ℕ) (cities others : List ℕ) → cities ≡ first ∷ others → All (IsCity n) cities →
    k < length others → IsCity n (get_or others k 0)
city_in n first k cities others e h lt =
    All-get_or (IsCity n) (first ∷ others) (suc k) 0 (omega arith) (rw e at h)

pub dist-total-requires-clause-b : goal.dist-total-requires-clause-b
dist-total-requires-clause-b g c =
    city_in (g.M.Metric.size_of c.args.metric.now) c.in-Some.field-0-0.now c.loop-city.city-index c.args.cities.now
    c.in-Some.others.now c.in-Some.ensures.cases.0 c.requires.cities c.loop-city-test.true

pub overflow_add-total : goal.overflow_add-total
overflow_add-total g c =
    let m = c.args.metric.now in
    let d = g.M.Metric.distance m in
    let h = c.loop-city in
    let limit = tour_length-limit d DISTANCE_LIMIT c.args.cities.now (g.met.M.Metric.distance_limit m) in
    let step = way_back-step d h.from c.in-Some.field-0-0.now h.city-index c.in-Some.others.now c.loop-city-test.true in
    omega (arith, ints, limit, step, h.invariant.low, h.invariant.left, c.dist-total.ensures)

pub loop-city-preserved : goal.loop-city-preserved
loop-city-preserved g c =
    let m = c.args.metric.now in
    let d = g.M.Metric.distance m in
    let h = c.loop-city in
    let fits = overflow_add-total g c in
    let step = way_back-step d h.from c.in-Some.field-0-0.now h.city-index c.in-Some.others.now c.loop-city-test.true in
    record {
      from_in = city_in (g.M.Metric.size_of m) c.in-Some.field-0-0.now h.city-index c.args.cities.now
          c.in-Some.others.now c.in-Some.ensures.cases.0 c.requires.cities c.loop-city-test.true;
      low = omega (arith, ints, fits, step, h.invariant.low, h.invariant.left, c.dist-total.ensures);
      left = omega (arith, ints, fits, step, h.invariant.low, h.invariant.left, c.dist-total.ensures);
    }

pub overflow_add-result : goal.overflow_add-result
overflow_add-result g c =
    let m = c.args.metric.now in
    let d = g.M.Metric.distance m in
    let h = c.loop-city in
    let limit = tour_length-limit d DISTANCE_LIMIT c.args.cities.now (g.met.M.Metric.distance_limit m) in
    let end = way_back-end d h.from c.in-Some.field-0-0.now h.city-index c.in-Some.others.now c.loop-city-test.false in
    omega (arith, ints, limit, end, h.invariant.low, h.invariant.left, c.dist.ensures)

pub returns : goal.returns
returns g c =
    let m = c.args.metric.now in
    let d = g.M.Metric.distance m in
    let h = c.loop-city in
    let fits = overflow_add-result g c in
    let end = way_back-end d h.from c.in-Some.field-0-0.now h.city-index c.in-Some.others.now c.loop-city-test.false in
    omega (arith, ints, fits, end, h.invariant.low, h.invariant.left, c.dist.ensures)
