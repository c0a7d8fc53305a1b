use Rattle.std.proofs.Common.{ap, arith, length, rules}
use Rattle.std.specs.Int.RustNames.{unsigned_abs}
use Rattle.tk_writers.specs.Puts.{Writes}
use Rattle.tk_lists.specs.Solution.{lists_of}
use Rattle.tk_writers.specs.SolutionWritten.{solution_text}
use Rattle.tk_writers.specs.TourWritten.{tour_text}
use Rattle.tk_engines.proofs.engines.solve.write_found.Goals as goal

pub returns-in-Tour-clause-text : goal.returns-in-Tour-clause-text
returns-in-Tour-clause-text g c =
    let text : Writes g.F.Sink c.args.file.now c.write_tour.new.w c.write_tour.result (tour_text c.deref.result.now
    (unsigned_abs c.in-Tour.found.solved.length) c.deref-in-Tour.result.now) = search rules in
    rw c.in-Tour.is (rw (c.deref.ensures.value, c.deref-in-Tour.ensures.value) at text)

pub returns-in-Tour-clause-failed : goal.returns-in-Tour-clause-failed
returns-in-Tour-clause-failed g c =
    c.write_tour.ensures.failed (rw c.deref.ensures.value c.in-Tour.found.few_bytes)
    (omega (arith, ap length c.deref-in-Tour.ensures.value, c.in-Tour.found.few_cities))

pub returns-in-Routes-clause-text : goal.returns-in-Routes-clause-text
returns-in-Routes-clause-text g c =
    let text : Writes g.F.Sink c.args.file.now c.write_solution.new.w c.write_solution.result
    (solution_text (lists_of c.deref-in-Routes.result.now) (unsigned_abs c.in-Routes.found.report.after)) =
    search rules in
    rw c.in-Routes.is (rw c.deref-in-Routes.ensures.value at text)
