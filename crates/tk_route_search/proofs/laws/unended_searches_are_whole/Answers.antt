use Rattle.tk_routes.proofs.CutLists.{All-front}
use Rattle.tk_route_search.specs.Runs.{shown_of}
use Rattle.tk_route_search.specs.Watching.{GoesOn}
use Rattle.tk_route_search.proofs.Unended.{runs_unended, search_unended}
use Rattle.tk_route_search.proofs.laws.unended_searches_are_whole.Goals as goal

pub returns : goal.returns
returns c = λ task given ring runs stop are ends on. (
  search_unended task runs stop ends on,
  runs_unended task given ring are (All-front GoesOn (shown_of runs) stop on),
)
