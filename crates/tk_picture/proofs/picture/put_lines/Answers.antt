use Rattle.std.proofs.Common.{append-nil, length, refl, subst, sym}
use Rattle.tk_writers.specs.Pens.{Puts}
use Rattle.tk_problem.specs.PlacesOf.{places_of}
use Rattle.tk_tour.proofs.CitiesOfTours.{cities_of_tour}
use Rattle.tk_picture.specs.Pictures.{Fits}
use Rattle.tk_picture.proofs.picture.put_lines.Goals as goal

pub put_tour-requires : goal.put_tour-requires
put_tour-requires g c =
    let n = length (places_of c.args.view.now.places) in
    cities_of_tour n n c.in-Tour.cities.now refl (subst (Fits n) c.in-Tour.is c.requires)

pub returns-in-Tour : goal.returns-in-Tour
returns-in-Tour g c = rw c.in-Tour.is (subst (Puts _ _ _) (sym (append-nil _)) c.put_tour.ensures)

pub returns-in-Routes : goal.returns-in-Routes
returns-in-Routes g c = rw c.in-Routes.is c.put_route_lines.ensures
