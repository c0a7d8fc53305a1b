use Rattle.tk_routes.proofs.CutLists.{All-front}
use Rattle.tk_solve.specs.Runs.{shown_of}
use Rattle.tk_solve.specs.Watching.{GoesOn}
use Rattle.tk_solve.proofs.Unended.{runs_unended, search_unended}
use Rattle.tk_solve.proofs.laws.unended_searches_are_whole.Goals as goal

pub returns : goal.returns
returns c = λ task near runs stop are ends on. (
  search_unended task runs stop ends on,
  runs_unended task near are (All-front GoesOn (shown_of runs) stop on),
)
