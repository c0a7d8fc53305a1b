use Rattle.std.proofs.Common.{◌≡◌, ◌≤◌, ◌-◌, ◌∙◌, length, min, rules}
use Rattle.tk_distance.specs.Tables.{table_size, table_distance-swap}
use Rattle.tk_solve.specs.Events.{Asked}
use Rattle.tk_solve.specs.Starts.{AreCandidates, task_of}
use Rattle.tk_solve.specs.Watching.{WereShown}
use Rattle.tk_solve.proofs.Endings.{ends_some}
use Rattle.tk_solve.proofs.ResultsOfRuns.{IfOk-solved, IfOk-sound}
use Rattle.tk_solve.proofs.tour.solve_tour.Given.{Over}
use Rattle.tk_solve.proofs.tour.solve_tour.Goals.{After-drop-near-inside-2}
use Rattle.tk_solve.proofs.tour.solve_tour.Goals as goal

pub solved-requires-clause-tour : goal.solved-requires-clause-tour
solved-requires-clause-tour g c =
    c.in_ok-outcome.ensures.kept.tour
    (ends_some Asked c.in_ok-outcome.ensures.ends c.args.options.now.some_runs.0)

-- the near lists
candidates : (g : Over) (c : After-drop-near-inside-2 g) →
    AreCandidates (task_of c.args.table.now c.args.options.now) c.in_ok-near.near
candidates g c =
    let least : c.min.result ≡ min c.args.options.now.candidates (table_size c.args.table.now - 1) = search rules in
    record {
      size = c.in_ok-near.ensures.size;
      width = c.in_ok-near.ensures.width ∙ least;
      nearest = c.in_ok-near.ensures.near;
    }

pub returns-clause-solved : goal.returns-clause-solved
returns-clause-solved g c =
    IfOk-solved c.solved.result (task_of c.args.table.now c.args.options.now) c.in_ok-near.near
    (WereShown g.W.Watch.shows c.args.watch.now c.run_all.new.watch) c.in_ok-outcome.outcome (candidates g c)
    c.in_ok-outcome.ensures c.args.options.now.some_runs.0 c.solved.ensures.runs c.solved.ensures.printed
    c.solved.ensures.length

pub returns-clause-sound : goal.returns-clause-sound
returns-clause-sound g c =
    let kept = c.in_ok-outcome.ensures.kept in
    let some : 1 ≤ length c.in_ok-outcome.ensures.runs =
    ends_some Asked c.in_ok-outcome.ensures.ends c.args.options.now.some_runs.0 in
    IfOk-sound c.solved.result (task_of c.args.table.now c.args.options.now) c.in_ok-near.near
    c.in_ok-outcome.ensures.runs c.in_ok-outcome.outcome.cities.items c.in_ok-outcome.outcome
    (table_distance-swap c.args.table.now) (candidates g c) kept.are (kept.first some) kept.reports_are
    c.solved.ensures.runs c.solved.ensures.printed c.solved.ensures.length c.solved.ensures.tour
