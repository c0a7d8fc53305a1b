use Rattle.std.proofs.Common.{rules, arith, subst, ap, ◌≡◌}
use Rattle.std.specs.Int.RustNames.{unsigned_abs}
use Rattle.tk_writers.specs.Pens.{Puts}
use Rattle.tk_writers.specs.TourWritten.{tour_text}
use Rattle.tk_writers.proofs.Lengths.ListLength.{length_tour_text}
use Rattle.tk_writers.proofs.Pieces.Putting.{Writes-end, broken_at_err}
use Rattle.tk_writers.proofs.TourReadBack.{tour_read_back}
use Rattle.tk_writers.proofs.tour_writer.write_tour.Goals as goal

pub returns-clause-text : goal.returns-clause-text
returns-clause-text g c =
    let size : c.unsigned_abs.result ≡ unsigned_abs c.args.length = search rules in
    Writes-end g.W.Sink c.args.w.now
    _ _ _ _ _ (tour_text c.args.name.now (unsigned_abs c.args.length) c.args.cities.now)
    c.new-pen.ensures.empty
    (subst (Puts _ _ _) (ap (λ size. tour_text c.args.name.now size c.args.cities.now) size) c.put_tour.ensures)
    c.end.ensures (search rules)

pub returns-clause-failed : goal.returns-clause-failed
returns-clause-failed g c = λ short few.
    broken_at_err g.W.Sink c.args.w.now
    _ _ (tour_text c.args.name.now c.unsigned_abs.result c.args.cities.now)
    (omega (arith, length_tour_text c.args.name.now c.unsigned_abs.result c.args.cities.now short few))
    (Writes-end g.W.Sink c.args.w.now _ _ _ _ _ _ c.new-pen.ensures.empty c.put_tour.ensures
    c.end.ensures (search rules))

pub returns-clause-read_back : goal.returns-clause-read_back
returns-clause-read_back g c = tour_read_back c.args.name.now (unsigned_abs c.args.length) c.args.cities.now
