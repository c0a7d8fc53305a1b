-- What callers see of a `Rung`.
use Rattle.tk_routes.specs.RouteLists.{routes_of}
use Rattle.tk_route_search.specs.Ladder.{Savings}
use Rattle.tk_route_search.specs.declared.ladder.Rung.{Rung}

abbrev pub savings_of : Rung → Savings
savings_of rung = record { candidates = rung.candidates; routes = routes_of rung.routes }
