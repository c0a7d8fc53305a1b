use Rattle.std.proofs.Common.{None, refl}
use Rattle.tk_plot.specs.Plot.{ReadsPlaced, WritesOutput}
use Rattle.tk_engines.proofs.EngineEnds.{problem_read}
use Rattle.tk_engines.proofs.TextsRead.{is_read, is_refused}
use Rattle.tk_plot.proofs.plot.plot_engine.Goals as goal

pub returns-in-Ok-clause-ends : goal.returns-in-Ok-clause-ends
returns-in-Ok-clause-ends g c = (
  c.in-Ok.placed.places,
  problem_read _ (ReadsPlaced g.P.Source c.args.problem.now c.read_placed_problem.new.source c.in-Ok.placed.places) _
      (WritesOutput g.W.Sink g.T.Sink c.args.out.now c.plot_problem.new.out c.args.reported.now
      c.plot_problem.new.reported)
      _ (is_read c.in-Ok.ensures) c.plot_problem.result c.plot_problem.ensures.ends,
)

pub returns-in-Err-clause-ends : goal.returns-in-Err-clause-ends
returns-in-Err-clause-ends g c = (None, (c.in-Err.fault, refl, is_refused c.in-Err.ensures))
