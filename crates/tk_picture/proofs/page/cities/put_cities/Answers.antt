use Rattle.std.proofs.Common.{subst, ap, ◌≡◌, ◌-◌, length, arith}
use Rattle.std.specs.Prelude.{flat_map}
use Rattle.std.specs.List.{range_with_len}
use Rattle.tk_problem.specs.PlacesOf.{places_of}
use Rattle.tk_writers.proofs.MatrixLines.{lines_more}
use Rattle.tk_writers.specs.Pens.{Puts}
use Rattle.tk_writers.proofs.Pieces.Putting.{Puts-then}
use Rattle.tk_picture.specs.PageText.{city_line}
use Rattle.tk_picture.proofs.page.cities.put_cities.Goals as goal

pub loop-city-preserved : goal.loop-city-preserved
loop-city-preserved g c =
    let p = c.args.picture.now in
    rw (lines_more (city_line p.view.extent (places_of p.view.places) p.demands.now p.depot) c.loop-city.city
    c.loop-city.auto.city)
    (Puts-then c.loop-city.invariant c.put_city.ensures)

pub returns : goal.returns
returns g c =
    let p = c.args.picture.now in
    let all : c.loop-city.city - 1 ≡ length (places_of p.view.places) =
    omega (arith, c.loop-city.auto.city-end, c.size-city-end.ensures.value) in
    Puts-then
    (Puts-then c.put.ensures
    (subst (Puts _ _ _)
    (ap (λ n. flat_map (city_line p.view.extent (places_of p.view.places) p.demands.now p.depot)
    (range_with_len 1 n)) all) c.loop-city.invariant))
    c.put-2.ensures
