use Rattle.std.proofs.Common.{◌+◌, sym, subst}
use Rattle.tk_tour.specs.ArrayTours.{order_of}
use Rattle.tk_tour.specs.Tour.{IsTour}
use Rattle.tk_search.specs.SearchOf.{search_of}
use Rattle.tk_solve.specs.Starts.{TourTask, task_over}
use Rattle.tk_solve.specs.Watching.{WereShown, next}
use Rattle.tk_solve.specs.Events.{Ended}
use Rattle.tk_solve.specs.Outcomes.{IsTaken}
use Rattle.tk_solve.specs.declared.outcome.RunReport.{RunReport}
use Rattle.tk_solve.proofs.RunsSoFar.{ended_tour, run_added}
use Rattle.tk_solve.proofs.outcome.Outcome.add_run_over.Goals as goal

pub take-requires : goal.take-requires
take-requires g c =
    let task : TourTask = task_over (g.M.Metric.size_of c.args.metric.now) (g.M.Metric.distance c.args.metric.now)
    c.args.options.now in
    let start : IsTour task.size (order_of c.args.start) =
    subst (λ k. IsTour k (order_of c.args.start)) (sym c.requires.fits.0) c.args.start.tour.2 in
    record {
      tour = ended_tour task c.args.near.now c.args.j (order_of c.args.start) c.in_ok-search.ensures.0 (search_of
          c.in_ok-search.search) c.in_ok-search.ensures.1.0 start;
    }

pub returns : goal.returns
returns g c =
    let task : TourTask = task_over (g.M.Metric.size_of c.args.metric.now) (g.M.Metric.distance c.args.metric.now)
    c.args.options.now in
    let ended = search_of c.in_ok-search.search in
    let start : IsTour task.size (order_of c.args.start) =
    subst (λ k. IsTour k (order_of c.args.start)) (sym c.requires.fits.0) c.args.start.tour.2 in
    let taken : IsTaken task.distance ended c.args.self.now c.take.new.self = record {
      reports = c.in_ok-report.ensures.reports;
      first = c.in_ok-report.ensures.first;
      shorter = c.in_ok-report.ensures.shorter;
      kept = c.in_ok-report.ensures.kept;
    } in
    let shown =
    subst (λ (r : RunReport). g.W.Watch.shows c.search_run.new.watch (Ended (c.args.j + 1) r) c.end_run.new.self)
    c.in_ok-report.ensures.report c.end_run.ensures in
    run_added task c.args.near.now c.args.j (order_of c.args.start) c.in_ok-search.ensures.0 ended c.requires.start
    c.in_ok-search.ensures.1.0 start
    (WereShown g.W.Watch.shows c.args.watch.now c.end_run.new.self) (next c.in_ok-search.ensures.1.1 shown)
    c.args.self.now c.take.new.self taken
