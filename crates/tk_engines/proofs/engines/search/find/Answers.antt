use Rattle.tk_solve.specs.Watching.{nothing}
use Rattle.tk_params.specs.SearchOf.{search_is}
use Rattle.tk_engines.specs.Solve.{AreRoutesFound}
use Rattle.tk_engines.proofs.ReadTables.{some_instance_read}
use Rattle.tk_engines.proofs.engines.search.find.Goals as goal

pub returns-in-Some : goal.returns-in-Some
returns-in-Some g c = (
  some_instance_read c.args.problem.now _
      (λ i. AreRoutesFound (search_is c.args.settings.now) i c.in_ok-find_routes.field-0)
      c.in-Some.ensures.some c.in_ok-find_routes.ensures,
  nothing,
)
