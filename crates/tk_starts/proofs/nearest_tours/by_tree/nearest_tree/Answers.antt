use Rattle.std.proofs.Common.{arith, length, ◌≡◌, ◌+◌, ◌∷◌, ◌++◌, []}
use Rattle.std.proofs.lemmas.List.{length-append}
use Rattle.tk_starts.proofs.NearestCities.NearestPaths.{here_city, here_left, IsUnderWay-more, IsNearestTour-whole}
use Rattle.tk_starts.proofs.NearestCities.NearestPaths.{IsUnderWay, length_limit}
use Rattle.tk_starts.proofs.NearestCities.NearestTours.{IsTour-nearest}
use Rattle.tk_starts.proofs.nearest_tours.by_tree.nearest_tree.Given.{Over}
use Rattle.tk_starts.proofs.nearest_tours.by_tree.nearest_tree.Goals as goal
use Rattle.tk_starts.proofs.nearest_tours.by_tree.nearest_tree.Goals.{In-Some}

-- the list goes on with the city that was found
under_way : (g : Over) (c : In-Some g) →
    IsUnderWay (g.P.Metric.distance c.args.metric.now) (g.P.Metric.size_of c.args.metric.now) c.args.start
    c.in-Some.found.city c.visit.new.left (c.loop-found.cities.items ++ c.in-Some.found.city ∷ [])
under_way g c =
    let m = c.args.metric.now in
    let at = c.loop-found in
    let first = rw (c.in-Some.is, c.placed.ensures.city) at c.visit.ensures.first in
    IsUnderWay-more c.requires at.invariant.way (g.P.Planar.place_of m) c.placed.result c.visit.new.left
    c.in-Some.found.city c.placed.ensures.city at.invariant.apart c.visit.ensures.taken first

pub placed-requires : goal.placed-requires
placed-requires g c = here_city c.requires c.loop-found.invariant.way

pub visit-requires-clause-left : goal.visit-requires-clause-left
visit-requires-clause-left g c =
    let here = c.placed.ensures.city in
    rw here (here_left c.requires c.loop-found.invariant.way)

pub loop-found-smaller : goal.loop-found-smaller
loop-found-smaller g c =
    let cities = c.loop-found.cities.items in
    let found = c.in-Some.found.city in
    let longer : length c.push-in-Some.new.self.items ≡ length cities + 1 =
    rw c.in_ok-push-2.ensures.items (length-append cities (found ∷ [])) in
    let limit = length_limit c.requires (under_way g (goal.at.loop-found-smaller g c).In-Some) in
    omega (arith, longer, limit, length-append cities (found ∷ []))

pub loop-found-preserved : goal.loop-found-preserved
loop-found-preserved g c = record {
  apart = c.visit.ensures.apart;
  way = rw c.in_ok-push-2.ensures.items (under_way g (goal.at.loop-found-preserved g c).In-Some);
}

pub returns-clause-nearest : goal.returns-clause-nearest
returns-clause-nearest g c =
    let m = c.args.metric.now in
    let at = c.loop-found in
    IsNearestTour-whole c.requires at.invariant.way (g.P.Planar.place_of m) c.placed.result c.visit.new.left
    c.placed.ensures.city at.invariant.apart c.visit.ensures.taken (rw c.in_default.is at c.visit.ensures.first)

pub returns-clause-tour : goal.returns-clause-tour
returns-clause-tour g c = IsTour-nearest c.requires (returns-clause-nearest g c)
