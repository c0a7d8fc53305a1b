use Rattle.std.proofs.Common.{◌-◌, refl, arith, get_or}
use Rattle.std.proofs.lemmas.List.{length-set}
use Rattle.tk_segments.specs.Segments.{shown}
use Rattle.tk_segments.specs.WriteLaws.{changed-refl}
use Rattle.tk_tour.proofs.Tours.{HoldsOnce-tour}
use Rattle.tk_segments.proofs.SeenTours.Turning.{within_of}
use Rattle.tk_segments.proofs.SeenTours.SeenReversing.{Exchanging-all, Exchanging-none}
use Rattle.tk_segments.proofs.SeenTours.Stepping.{Stepping-high, Stepping-more}
use Rattle.tk_segments.proofs.exchanging.exchange_seen.Goals as goal

pub loop-done-init : goal.loop-done-init
loop-done-init c =
    let r = c.requires in
    let e = c.end_of in
    record {
      low_v = c.args.first;
      high_v = e.result;
      low_is = c.spot_at-low.ensures;
      high_is = c.spot_at-high.ensures;
      exchanging = Exchanging-none c.args.size c.args.first c.args.count e.result c.args.order.now c.args.place.now
          c.args.segments.now
          (within_of c.args.size c.args.segments.now r.laid.within) r.length r.tour.0
          (HoldsOnce-tour c.args.size (shown c.args.order.now c.args.segments.now) r.tour) r.places r.first_in
          r.count_in e.ensures.inside e.ensures.round;
      written = omega (arith, changed-refl c.args.order.now);
    }

pub bounds-order-low : goal.bounds-order-low
bounds-order-low c =
    let h = c.loop-done in
    (Stepping-high c.args.size c.args.first c.args.count h.done h.low h.high c.before-high.result c.args.order.now
    h.order h.place c.args.segments.now c.requires.laid h.invariant c.before-high.ensures).0

pub bounds-order-high : goal.bounds-order-high
bounds-order-high c =
    let h = c.loop-done in
    (Stepping-high c.args.size c.args.first c.args.count h.done h.low h.high c.before-high.result c.args.order.now
    h.order h.place c.args.segments.now c.requires.laid h.invariant c.before-high.ensures).1

pub bounds-order-low-in-loop-done : goal.bounds-order-low-in-loop-done
bounds-order-low-in-loop-done c =
    let h = c.loop-done in
    (Stepping-high c.args.size c.args.first c.args.count h.done h.low h.high c.before-high.result c.args.order.now
    h.order h.place c.args.segments.now c.requires.laid h.invariant c.before-high.ensures).0

pub bounds-order-high-in-loop-done : goal.bounds-order-high-in-loop-done
bounds-order-high-in-loop-done c =
    let h = c.loop-done in
    let b = Stepping-high c.args.size c.args.first c.args.count h.done h.low h.high c.before-high.result
    c.args.order.now h.order h.place c.args.segments.now c.requires.laid h.invariant c.before-high.ensures in
    omega (arith, b.1, length-set h.order h.low.place (get_or h.order c.before-high.result.place 0))

pub overflow_sub-place : goal.overflow_sub-place
overflow_sub-place c =
    let h = c.loop-done in
    let b = Stepping-high c.args.size c.args.first c.args.count h.done h.low h.high c.before-high.result
    c.args.order.now h.order h.place c.args.segments.now c.requires.laid h.invariant c.before-high.ensures in
    omega (arith, (h.invariant.exchanging.inverse.1 c.before-high.result.place b.1).0)

pub overflow_sub-place-in-loop-done : goal.overflow_sub-place-in-loop-done
overflow_sub-place-in-loop-done c =
    let h = c.loop-done in
    let b = Stepping-high c.args.size c.args.first c.args.count h.done h.low h.high c.before-high.result
    c.args.order.now h.order h.place c.args.segments.now c.requires.laid h.invariant c.before-high.ensures in
    omega (arith, (h.invariant.exchanging.inverse.1 h.low.place b.0).0)

pub bounds-place-y : goal.bounds-place-y
bounds-place-y c =
    let h = c.loop-done in
    let b = Stepping-high c.args.size c.args.first c.args.count h.done h.low h.high c.before-high.result
    c.args.order.now h.order h.place c.args.segments.now c.requires.laid h.invariant c.before-high.ensures in
    let inverse = h.invariant.exchanging.inverse in
    omega (arith, inverse.0, inverse.1 c.before-high.result.place b.1)

pub bounds-place-x : goal.bounds-place-x
bounds-place-x c =
    let h = c.loop-done in
    let b = Stepping-high c.args.size c.args.first c.args.count h.done h.low h.high c.before-high.result
    c.args.order.now h.order h.place c.args.segments.now c.requires.laid h.invariant c.before-high.ensures in
    let inverse = h.invariant.exchanging.inverse in
    omega (
      arith,
      inverse.0,
      inverse.1 h.low.place b.0,
      length-set h.place (get_or h.order c.before-high.result.place 0 - 1) h.low.place,
    )

pub loop-done-preserved : goal.loop-done-preserved
loop-done-preserved c =
    let h = c.loop-done in
    Stepping-more c.args.size c.args.first c.args.count h.done _ _ h.low h.high c.after-low.result c.before-high.result
    c.args.order.now h.order h.place c.args.segments.now c.requires.laid h.invariant c.requires.first_in
    c.requires.count_in c.loop-done-test.true
    c.before-high.ensures c.after-low.ensures refl refl

pub returns-clause-shown : goal.returns-clause-shown
returns-clause-shown c =
    let h = c.loop-done in
    Exchanging-all c.args.size c.args.first c.args.count h.done h.invariant.low_v h.invariant.high_v c.args.order.now
    h.order h.place c.args.segments.now h.invariant.exchanging c.requires.first_in c.requires.count_in (omega arith)
