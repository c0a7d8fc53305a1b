use Rattle.std.proofs.Common.{◌∙◌, ap, arith}
use Rattle.tk_tour.specs.Reversal.{begun_at}
use Rattle.tk_segments.specs.Segments.{shown}
use Rattle.tk_segments.proofs.SeenTours.Facts.{facts}
use Rattle.tk_segments.proofs.seen.SeenTour.write_order.Goals as goal

pub write_seen-requires-clause-list : goal.write_seen-requires-clause-list
write_seen-requires-clause-list c =
    let f = facts c.args.self.now in
    omega (arith, c.requires, f.list)

pub returns : goal.returns
returns c =
    let s = c.args.self.now in
    record {
      order = c.write_seen.ensures
          ∙ ap (λ u. begun_at s.begin (shown u c.deref-2.result.now)) c.deref.ensures.value
          ∙ ap (λ u. begun_at s.begin (shown s.order.items u)) c.deref-2.ensures.value;
    }
