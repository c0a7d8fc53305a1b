use Rattle.std.proofs.Common.{rules, arith, subst, ap, ◌≡◌}
use Rattle.std.specs.Prelude.{map}
use Rattle.std.proofs.lemmas.List.{length-map}
use Rattle.std.specs.Int.RustNames.{unsigned_abs}
use Rattle.tk_writers.specs.Pens.{Puts}
use Rattle.tk_writers.specs.SolutionWritten.{solution_text}
use Rattle.tk_writers.proofs.Lengths.ListLength.{length_solution_text}
use Rattle.tk_writers.proofs.Pieces.Putting.{Writes-end, broken_at_err}
use Rattle.tk_writers.proofs.SolutionReadBack.{solution_read_back}
use Rattle.tk_writers.proofs.solution_writer.write_solution.Goals as goal

pub returns-clause-text : goal.returns-clause-text
returns-clause-text g c =
    let cost : c.unsigned_abs.result ≡ unsigned_abs c.args.cost = search rules in
    Writes-end g.W.Sink c.args.w.now
    _ _ _ _ _ (solution_text (map (λ r. r.items) c.args.routes.now) (unsigned_abs c.args.cost))
    c.new-pen.ensures.empty
    (subst (Puts _ _ _) (ap (solution_text (map (λ r. r.items) c.args.routes.now)) cost) c.put_solution.ensures)
    c.end.ensures (search rules)

pub returns-clause-failed : goal.returns-clause-failed
returns-clause-failed g c = λ few customers.
    broken_at_err g.W.Sink c.args.w.now
    _ _ (solution_text (map (λ r. r.items) c.args.routes.now) c.unsigned_abs.result)
    (omega (
      arith,
      length_solution_text (map (λ r. r.items) c.args.routes.now) c.unsigned_abs.result
          (rw length-map few) customers,
    ))
    (Writes-end g.W.Sink c.args.w.now _ _ _ _ _ _ c.new-pen.ensures.empty c.put_solution.ensures
    c.end.ensures (search rules))

pub returns-clause-read_back : goal.returns-clause-read_back
returns-clause-read_back g c = solution_read_back (map (λ r. r.items) c.args.routes.now) (unsigned_abs c.args.cost)
