use Rattle.std.proofs.Common.{◌-◌}
use Rattle.tk_writers.proofs.Pieces.Putting.{Puts-then}
use Rattle.tk_picture.proofs.CityWords.{got}
use Rattle.tk_picture.proofs.page.cities.put_city.Goals as goal

pub returns : goal.returns
returns g c =
    let found = got c.get.result c.args.picture.now.demands.now (c.args.city - 1) _ c.get.ensures.lookup.1
    c.get.ensures.lookup.3 in
    Puts-then (Puts-then (Puts-then (Puts-then (Puts-then c.put_spot.ensures c.put.ensures) c.put_coordinates.ensures)
    (rw found at c.put_demand.ensures)) c.put_depot_word.ensures) c.put-2.ensures
