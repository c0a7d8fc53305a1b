use Rattle.std.proofs.lemmas.Grind.{common_steps}
use Rattle.std.proofs.Common.{◌≡◌, ◌<◌, ◌+◌, ◌⊎◌, inl, inr, ℕ, length, take, refl, arith, get_or}
use Rattle.std.specs.Prelude.{sum_by}
use Rattle.tk_segments.specs.Segments.{segment_size}
use Rattle.tk_segments.proofs.NoSegment.{no_segment}
use Rattle.tk_segments.proofs.SeenTours.Spots.{spot_facts, first_ahead, first_behind, before_first}
use Rattle.tk_segments.proofs.spots.before.Goals as goal
use Rattle.tk_segments.proofs.spots.before.Goals.{then-segment+else-spot-segment, else-segment+else-spot-segment-2}
use Rattle.tk_segments.proofs.spots.before.Goals.{then-spot-eq0, else-spot-eq0}

pub returns : goal.returns
returns c = λ v w h a.
    let k = c.if-spot-eq0.index in
    let segments = c.args.segments.now in
    let spot = c.args.spot in
    let segment = get_or segments spot.index no_segment in
    let s : ℕ = sum_by segment_size (take spot.index segments) in
    let f = spot_facts c.args.size w segments spot segment no_segment c.requires.laid refl h in
    let first : w ≡ s =
    elim c.if-segment.branch [
      | then-segment+else-spot-segment x ↦ first_behind c.args.size s w segments spot segment f x.if-segment.true
          (omega (arith, x.if-spot-segment.false))
      | else-segment+else-spot-segment-2 x ↦ first_ahead c.args.size s w segments spot segment f x.if-segment.false
          (omega (arith, x.if-spot-segment-2.false))
    ] in
    let cases : ((spot.index ≡ 0) × (k + 1 ≡ length segments)) ⊎ ((0 < spot.index) × (k + 1 ≡ spot.index)) =
    elim c.if-spot-eq0.branch [
      | then-spot-eq0 x ↦ inl (omega arith, omega (arith, x.index-is, f.index_in))
      | else-spot-eq0 x ↦ inr (omega arith, omega (arith, x.index-is))
    ] in
    before_first c.args.size s v w k segments spot (record { index = k; place = c.place_in.result }) segment
    (get_or segments k no_segment) no_segment c.requires.laid f a first cases refl refl c.place_in.ensures.place

pub returns-then-spot-segment : goal.returns-then-spot-segment
returns-then-spot-segment c = grind (arith, common_steps)

pub returns-then-spot-segment-2 : goal.returns-then-spot-segment-2
returns-then-spot-segment-2 c = grind (arith, common_steps)
