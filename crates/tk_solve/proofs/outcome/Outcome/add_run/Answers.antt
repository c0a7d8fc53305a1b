use Rattle.std.proofs.Common.{OnOk, ap, sym, ◌∙◌, subst}
use Rattle.tk_distance.specs.Tables.{table_size}
use Rattle.tk_tour.specs.ArrayTours.{order_of}
use Rattle.tk_solve.specs.Outcomes.{IsRunAdded}
use Rattle.tk_solve.specs.Starts.{TourTask, IsStart, task_of}
use Rattle.tk_solve.specs.Watching.{WereShown}
use Rattle.tk_solve.proofs.EuclidTables.{euclid_task}
use Rattle.tk_solve.proofs.outcome.Outcome.add_run.Goals as goal

pub add_run_over-requires : goal.add_run_over-requires
add_run_over-requires g c =
    let same = euclid_task c.args.table.now c.in-Planes.planes c.in-Some.euclid c.args.options.now c.in-Planes.is
    c.in-Some.ensures.some in
    record {
      fits = (sym (ap (λ (t : TourTask). t.size) same) ∙ c.requires.fits.0, c.requires.fits.1);
      run = c.requires.run;
      start = subst (λ (t : TourTask). IsStart t c.args.near.now c.args.j (order_of c.args.start)) same
          c.requires.start;
    }

pub add_run_over-requires-in-None : goal.add_run_over-requires-in-None
add_run_over-requires-in-None g c = record {
  fits = (sym (ap table_size c.in-Planes.is) ∙ c.requires.fits.0, c.requires.fits.1);
  run = c.requires.run;
  start = subst (λ t. IsStart (task_of t c.args.options.now) c.args.near.now c.args.j (order_of c.args.start))
      c.in-Planes.is c.requires.start;
}

pub add_run_over-requires-in-Triangle : goal.add_run_over-requires-in-Triangle
add_run_over-requires-in-Triangle g c = record {
  fits = (sym (ap table_size c.in-Triangle.is) ∙ c.requires.fits.0, c.requires.fits.1);
  run = c.requires.run;
  start = subst (λ t. IsStart (task_of t c.args.options.now) c.args.near.now c.args.j (order_of c.args.start))
      c.in-Triangle.is c.requires.start;
}

pub returns-in-Some : goal.returns-in-Some
returns-in-Some g c =
    let same = euclid_task c.args.table.now c.in-Planes.planes c.in-Some.euclid c.args.options.now c.in-Planes.is
    c.in-Some.ensures.some in
    subst (λ (t : TourTask). OnOk c.add_run_over.result
    (IsRunAdded t c.args.near.now c.args.j (WereShown g.W.Watch.shows c.args.watch.now c.add_run_over.new.watch)
    c.args.self.now c.add_run_over.new.self)) (sym same) c.add_run_over.ensures

pub returns-in-None : goal.returns-in-None
returns-in-None g c =
    subst (λ t. OnOk c.add_run_over-in-None.result
    (IsRunAdded (task_of t c.args.options.now) c.args.near.now c.args.j
    (WereShown g.W.Watch.shows c.args.watch.now c.add_run_over-in-None.new.watch) c.args.self.now
    c.add_run_over-in-None.new.self))
    (sym c.in-Planes.is) c.add_run_over-in-None.ensures

pub returns-in-Triangle : goal.returns-in-Triangle
returns-in-Triangle g c =
    subst (λ t. OnOk c.add_run_over-in-Triangle.result
    (IsRunAdded (task_of t c.args.options.now) c.args.near.now c.args.j
    (WereShown g.W.Watch.shows c.args.watch.now c.add_run_over-in-Triangle.new.watch) c.args.self.now
    c.add_run_over-in-Triangle.new.self))
    (sym c.in-Triangle.is) c.add_run_over-in-Triangle.ensures
