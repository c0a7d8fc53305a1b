use Rattle.std.proofs.Common.{sym, subst, arith}
use Rattle.tk_distance.specs.Tables.{table_size, table_size-limit}
use Rattle.tk_tour.specs.Tour.{IsTour}
use Rattle.tk_routes.proofs.Improving.ReadOffs.{IsTour-cycle}
use Rattle.tk_solve.proofs.TourEntries.{cities_of_tour}
use Rattle.tk_solve.proofs.tour.solved.Goals as goal

pub length-length-requires-clause-cities : goal.length-length-requires-clause-cities
length-length-requires-clause-cities c =
    let n = table_size c.args.table.now in
    let order =
    subst (IsTour n) (sym c.in-Ok.ensures.order) (subst (IsTour n) (sym c.deref.ensures.value) c.requires.tour) in
    let tour : IsTour n c.in_ok-cities.cities.items = IsTour-cycle n _ _ order c.in_ok-cities.ensures.printed.cycle in
    cities_of_tour n c.deref-2.result.now (subst (IsTour n) (sym c.deref-2.ensures.value) tour)

pub length-length-requires-clause-count : goal.length-length-requires-clause-count
length-length-requires-clause-count c =
    let n = table_size c.args.table.now in
    let order =
    subst (IsTour n) (sym c.in-Ok.ensures.order) (subst (IsTour n) (sym c.deref.ensures.value) c.requires.tour) in
    let tour : IsTour n c.in_ok-cities.cities.items = IsTour-cycle n _ _ order c.in_ok-cities.ensures.printed.cycle in
    let at : IsTour n c.deref-2.result.now = subst (IsTour n) (sym c.deref-2.ensures.value) tour in
    omega (arith, at.0, table_size-limit c.args.table.now)

pub returns-clause-tour : goal.returns-clause-tour
returns-clause-tour c =
    let n = table_size c.args.table.now in
    let order =
    subst (IsTour n) (sym c.in-Ok.ensures.order) (subst (IsTour n) (sym c.deref.ensures.value) c.requires.tour) in
    IsTour-cycle n _ _ order c.in_ok-cities.ensures.printed.cycle
