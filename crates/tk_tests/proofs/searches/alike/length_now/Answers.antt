use Rattle.std.proofs.Common.{◌≡◌, ◌∙◌, ◌++◌, All, length, take, drop, ap, sym, subst, arith}
use Rattle.std.proofs.lemmas.Grind.{common_steps}
use Rattle.tk_metric.specs.Cities.{IsCity}
use Rattle.tk_tour.specs.JournalTours.{cities_of, tour_of}
use Rattle.tk_tour.proofs.CitiesOfTours.{cities_of_tour}
use Rattle.tk_tests.proofs.searches.alike.length_now.Goals as goal

pub length-requires : goal.length-requires
length-requires g c =
    let order = cities_of c.args.tour.now in
    let size = g.M.Metric.size_of c.args.metric.now in
    let tour = g.met.S.TourStore.is_tour (tour_of c.args.tour.now) in
    let vec = c.in_ok-cities.cities in
    let new = c.write_order.new.cities in
    let same : new ≡ order = c.write_order.ensures.order ∙ ap (λ t. g.S.TourStore.cities t) c.tour.ensures.tour in
    let whole : length new ≡ vec.len = omega (arith, ap length same, c.size.ensures, c.in_ok-cities.ensures.len) in
    let written : take vec.len (new ++ drop (length new) vec.items) ≡ new = grind (arith, common_steps) in
    let all : c.deref.result.now ≡ order = c.deref.ensures.value ∙ written ∙ same in
    record {
      cities = subst (All (IsCity size)) (sym all) (cities_of_tour (length order) size order c.requires tour.2);
      count = omega (arith, ap length all, tour.1);
    }
