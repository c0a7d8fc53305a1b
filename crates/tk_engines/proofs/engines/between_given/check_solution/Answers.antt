use Rattle.std.proofs.Common.{ap, sym}
use Rattle.std.specs.Prelude.{option_map}
use Rattle.tk_lists.specs.Solution.{as_solution}
use Rattle.tk_routes.specs.Cvrps.{instance_of}
use Rattle.tk_engines.specs.declared.fault.Fault.TheVariants.{InitialRoutes}
use Rattle.tk_engines.proofs.StartChecks.{valid_start}
use Rattle.tk_engines.proofs.engines.between_given.check_solution.Goals as goal

pub returns-in-Some-clause-err : goal.returns-in-Some-clause-err
returns-in-Some-clause-err c =
    (c.in-Ok.verdict, (c.in-Ok.ensures, ap (option_map InitialRoutes) c.in-Some.ensures))

pub returns-in-None-clause-ok : goal.returns-in-None-clause-ok
returns-in-None-clause-ok c =
    valid_start (instance_of c.args.cvrp.now) (as_solution c.args.solution.now) c.in-Ok.verdict c.in-Ok.ensures
    (sym c.in-None.ensures)

pub returns-in-None-clause-is : goal.returns-in-None-clause-is
returns-in-None-clause-is c =
    (c.in-Ok.verdict, (c.in-Ok.ensures, ap (option_map InitialRoutes) c.in-None.ensures))
