use Rattle.std.proofs.Common.{◌≡◌, ap, rules, sym}
use Rattle.std.specs.Prelude.{is_some, option_map}
use Rattle.tk_engines.specs.Engine.{WritesNothing}
use Rattle.tk_engines.specs.Solve.{misfit_of}
use Rattle.tk_engines.specs.declared.fault.Fault.TheVariants.{NotForType}
use Rattle.tk_engines.proofs.EngineEnds.{problem_read}
use Rattle.tk_engines.proofs.TextsRead.{is_read}
use Rattle.tk_engines.proofs.engines.search.search_outcome.Goals as goal

pub returns-in-Ok-clause-ends : goal.returns-in-Ok-clause-ends
returns-in-Ok-clause-ends g c =
    let given : is_some c.args.params.now.initial_tour_file ≡ c.is_some-given.result = search rules in
    let misfit = ap (option_map NotForType) (sym c.unfit_key-unfit.ensures) in
    problem_read _ _ _ WritesNothing _ (is_read c.in-Ok.ensures.reads) c.search_from.result
    (rw (given, sym c.search-settings.ensures) (c.search_from.ensures.ends (misfit_of c.args.params.now) misfit))
