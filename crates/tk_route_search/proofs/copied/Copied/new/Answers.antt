use Rattle.std.proofs.Common.{◌∙◌, ap, length, subst, ◌≤◌, ℕ, sym}
use Rattle.std.proofs.lemmas.List.{length-map}
use Rattle.tk_problem.specs.declared.limits.TheConstants.{CITY_LIMIT}
use Rattle.tk_problem.specs.PlacesOf.{places_of}
use Rattle.tk_problem.specs.declared.points.Places.TheVariants.{Whole}
use Rattle.tk_problem.proofs.UnitPoints.{places_in-near}
use Rattle.tk_distance.specs.PlaneOf.{city_place}
use Rattle.tk_route_search.proofs.copied.Copied.new.Goals as goal

pub invariant_of-copy : goal.invariant_of-copy
invariant_of-copy c =
    let P = places_of (Whole c.args.plane.unit c.args.plane.places) in
    let same = ap length c.requires.points ∙ length-map c.args.cities.now (city_place P) in
    record {
      near = places_in-near c.args.plane.unit c.args.points.now;
      few = subst (λ (n : ℕ). n ≤ CITY_LIMIT) (sym same) c.requires.few;
    }
