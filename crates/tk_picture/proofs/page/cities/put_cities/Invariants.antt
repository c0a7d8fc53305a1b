-- the cities before this one are put
use Rattle.std.proofs.Common.{◌-◌}
use Rattle.std.specs.Prelude.{flat_map}
use Rattle.std.specs.List.{range_with_len}
use Rattle.tk_writers.specs.Pens.{Puts}
use Rattle.tk_problem.specs.PlacesOf.{places_of}
use Rattle.tk_picture.specs.PageText.{city_line}
use Rattle.tk_picture.proofs.page.cities.put_cities.Given as goal

abbrev pub invariant-loop-city : goal.invariant-loop-city
invariant-loop-city g l = Puts g.W.Sink l.initial.pen l.pen
    (flat_map (city_line l.picture.view.extent (places_of l.picture.view.places) l.picture.demands.now l.picture.depot)
    (range_with_len 1 (l.city - 1)))
