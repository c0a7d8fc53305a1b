use Rattle.std.proofs.Common.{◌≡◌, ℕ, List, ◌∷◌, ap, ◌∙◌, subst, IfOk}
use Rattle.tk_distance.specs.Tables.{table_distance}
use Rattle.tk_params.specs.SearchOf.{search_is}
use Rattle.tk_problem_text.specs.ProblemOf.{problem_is}
use Rattle.tk_solve.specs.SolvedTours.{IsSolved, IsSound}
use Rattle.tk_solve.specs.Starts.{TourTask, task_of, task_over}
use Rattle.tk_solve.specs.Events.{Event, Begun}
use Rattle.tk_solve.specs.Watching.{WereShown, nothing, next}
use Rattle.tk_solve.proofs.Watched.{shown_both}
use Rattle.tk_engines.proofs.SolveEnds.{IfOk-watched}
use Rattle.tk_engines.proofs.ReadTables.{distances_read}
use Rattle.tk_engines.proofs.FoundCounts.{IfOk-count}
use Rattle.tk_engines.specs.Solve.{cities_in, tour_task}
use Rattle.tk_engines.proofs.engines.search.search_tour.Given.{Over}
use Rattle.tk_engines.proofs.engines.search.search_tour.Goals as goal
use Rattle.tk_engines.proofs.engines.search.search_tour.Goals.{After-solve_tour}

-- what is searched is what the settings ask for
asked : (g : Over) (c : After-solve_tour g) → task_of c.of.result c.options_of-options.result
    ≡ tour_task (search_is c.args.settings.now) (problem_is c.args.problem.now) (cities_in c.args.initial.now)
asked g c =
    let options = c.options_of-options.result in
    ap (λ (n : ℕ). task_over n (table_distance c.of.result) options) c.of.ensures.size
    ∙ ap (λ (d : ℕ → ℕ → ℕ). task_over c.args.problem.now.n d options)
    (distances_read (table_distance c.of.result) c.args.problem.now.weights c.of.ensures.distances)
    ∙ c.options_of-options.ensures

pub returns-clause-solved : goal.returns-clause-solved
returns-clause-solved g c =
    let begun = next nothing (rw c.deref.ensures.value at c.begin.ensures) in
    let Watched : List Event → Type 0 =
    λ shown. WereShown g.V.Watch.shows c.args.watch.now c.solve_tour.new.watch
    (Begun c.args.problem.now.name.items ∷ shown) in
    subst (λ (task : TourTask). IfOk c.solve_tour.result (IsSolved task Watched))
    (asked g (goal.at.returns-clause-solved g c).After-solve_tour)
    (IfOk-watched c.solve_tour.result (task_of c.of.result c.options_of-options.result)
    (WereShown g.V.Watch.shows c.begin.new.self c.solve_tour.new.watch) Watched (λ shown is. shown_both begun is)
    c.solve_tour.ensures.solved)

pub returns-clause-sound : goal.returns-clause-sound
returns-clause-sound g c =
    subst (λ (task : TourTask). IfOk c.solve_tour.result (IsSound task))
    (asked g (goal.at.returns-clause-sound g c).After-solve_tour) c.solve_tour.ensures.sound

pub returns-clause-runs : goal.returns-clause-runs
returns-clause-runs g c =
    IfOk-count c.solve_tour.result (task_of c.of.result c.options_of-options.result) _ 10000
    c.options_of-options.result.some_runs.1 c.solve_tour.ensures.solved
