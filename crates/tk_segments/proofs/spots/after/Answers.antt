use Rattle.std.proofs.lemmas.Grind.{common_steps}
use Rattle.std.proofs.Common.{◌≡◌, ◌<◌, ◌+◌, ◌⊎◌, inl, inr, ℕ, length, take, refl, arith, get_or}
use Rattle.std.specs.Prelude.{sum_by}
use Rattle.tk_segments.specs.Segments.{segment_size}
use Rattle.tk_segments.proofs.NoSegment.{no_segment}
use Rattle.tk_segments.proofs.SeenTours.Spots.{spot_facts, last_ahead, last_behind, after_last}
use Rattle.tk_segments.proofs.spots.after.Goals as goal
use Rattle.tk_segments.proofs.spots.after.Goals.{then-segment+else-spot-segment, else-segment+else-spot-segment-2}
use Rattle.tk_segments.proofs.spots.after.Goals.{then-spot-segments, else-spot-segments}

pub returns : goal.returns
returns c = λ v w h a.
    let k = c.if-spot-segments.index in
    let segments = c.args.segments.now in
    let spot = c.args.spot in
    let segment = get_or segments spot.index no_segment in
    let s : ℕ = sum_by segment_size (take spot.index segments) in
    let f = spot_facts c.args.size v segments spot segment no_segment c.requires.laid refl h in
    let last : v + 1 ≡ s + segment_size segment =
    elim c.if-segment.branch [
      | then-segment+else-spot-segment x ↦ last_behind c.args.size s v segments spot segment f x.if-segment.true
          (omega (arith, x.if-spot-segment.false))
      | else-segment+else-spot-segment-2 x ↦ last_ahead c.args.size s v segments spot segment f x.if-segment.false
          (omega (arith, x.if-spot-segment-2.false))
    ] in
    let cases : ((spot.index + 1 ≡ length segments) × (k ≡ 0)) ⊎
    ((spot.index + 1 < length segments) × (k ≡ spot.index + 1)) =
    elim c.if-spot-segments.branch [
      | then-spot-segments x ↦ inl (omega arith, omega (arith, x.index-is))
      | else-spot-segments x ↦ inr (omega (arith, x.if-spot-segments.false, f.index_in), omega (arith, x.index-is))
    ] in
    after_last c.args.size s v w k segments spot (record { index = k; place = c.place_in.result }) segment
    (get_or segments k no_segment) no_segment c.requires.laid f a last cases refl refl c.place_in.ensures.place

pub returns-then-spot-segment : goal.returns-then-spot-segment
returns-then-spot-segment c = grind (arith, common_steps)

pub overflow_add-spot : goal.overflow_add-spot
overflow_add-spot c = grind (arith, common_steps)

pub returns-then-spot-segment-2 : goal.returns-then-spot-segment-2
returns-then-spot-segment-2 c = grind (arith, common_steps)
