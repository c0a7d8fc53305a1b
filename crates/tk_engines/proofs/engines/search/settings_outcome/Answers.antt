use Rattle.std.proofs.Common.{sym}
use Rattle.tk_engines.specs.Engine.{WritesNothing}
use Rattle.tk_engines.specs.Solve.{start_misfit}
use Rattle.tk_engines.proofs.EngineEnds.{problem_read}
use Rattle.tk_engines.proofs.TextsRead.{is_read}
use Rattle.tk_engines.proofs.engines.search.settings_outcome.Goals as goal

pub returns-in-Ok-clause-ends : goal.returns-in-Ok-clause-ends
returns-in-Ok-clause-ends g c =
    problem_read _ _ _ WritesNothing _ (is_read c.in-Ok.ensures.reads) c.search_from.result
    (c.search_from.ensures.ends (start_misfit c.args.given) (sym c.unfit_start-unfit.ensures))
