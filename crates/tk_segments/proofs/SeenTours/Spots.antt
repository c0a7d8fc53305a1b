-- Spots: their positions in the array and in the sequence, and their neighbours.
use Rattle.std.proofs.Common.{◌≡◌, ℕ, true, false, ◌+◌, ◌-◌, ◌<◌, ◌≤◌, ◌⊎◌, ⊎_elim, List, length, take, refl, sym, ap}
use Rattle.std.proofs.Common.{◌∙◌, subst, arith, get_or}
use Rattle.std.specs.Prelude.{sum_by, if◌then◌else◌}
use Rattle.std.proofs.lemmas.List.{get_or_default}
use Rattle.tk_segments.specs.Segments.{segment_size, shown_place, shown, AreLaidOut, IsSpot, IsAfterPlace}
use Rattle.tk_segments.specs.declared.segment.Segment.{Segment}
use Rattle.tk_segments.specs.declared.spots.Spot.{Spot}
use Rattle.tk_segments.proofs.SeenTours.Splitting.{cases_bool}
use Rattle.tk_segments.proofs.SeenTours.Searching.{start_is, sum_more, sum_all, sum_mono, shown_at}

pub shown_ahead : (r : Segment) (d : ℕ) → r.back ≡ false → shown_place r d ≡ r.low + d
shown_ahead r d e = ap (λ b. if b then r.high - 1 - d else r.low + d) e

pub shown_behind : (r : Segment) (d : ℕ) → r.back ≡ true → shown_place r d ≡ r.high - 1 - d
shown_behind r d e = ap (λ b. if b then r.high - 1 - d else r.low + d) e

-- facts about the segment of a spot, which starts at s
pub record SpotFacts (n s v : ℕ) (segments : List Segment) (spot : Spot) (segment : Segment) : Type 0 where
  pub index_in : spot.index < length segments
  pub start : s ≡ sum_by segment_size (take spot.index segments)
  pub segment_start : segment.start ≡ s
  pub low_high : (segment.low < segment.high) × (segment.high ≤ n)
  pub size : sum_by segment_size (take (spot.index + 1) segments) ≡ s + segment_size segment
  pub inside : (s ≤ v) × (v < s + segment_size segment)
  pub end_in : s + segment_size segment ≤ n
  pub ahead : segment.back ≡ false → spot.place ≡ segment.low + (v - s)
  pub behind : segment.back ≡ true → spot.place ≡ segment.high - 1 - (v - s)

pub spot_facts : (n v : ℕ) (segments : List Segment) (spot : Spot) (segment d : Segment) → AreLaidOut n segments →
    segment ≡ get_or segments spot.index d → IsSpot segments v spot →
    SpotFacts n (sum_by segment_size (take spot.index segments)) v segments spot segment
spot_facts n v segments spot segment d laid e h =
    let k : ℕ = spot.index in
    let P : Segment → Type 0 = λ r. SpotFacts n (sum_by segment_size (take k segments)) v segments spot r in
    let r : Segment = get_or segments k d in
    let w = laid.within k d h.index_in in
    let more = sum_more k segments d h.index_in in
    let f : SpotFacts n (sum_by segment_size (take k segments)) v segments spot r = record {
      index_in = h.index_in;
      start = refl;
      segment_start = start_is n k segments d laid h.index_in;
      low_high = (w.0, w.1);
      size = more;
      inside = (h.from, omega (arith, h.to, more));
      end_in =
          omega (
            arith,
            more,
            sum_mono (k + 1) (length segments) segments (omega (arith, h.index_in)),
            sum_all n
                segments laid,
          );
      ahead = λ b. h.place_is d ∙ shown_ahead r (v - sum_by segment_size (take k segments)) b;
      behind = λ b. h.place_is d ∙ shown_behind r (v - sum_by segment_size (take k segments)) b;
    } in
    subst P (sym e) f

pub is_spot : (n v : ℕ) (segments : List Segment) (spot : Spot) (segment d : Segment) → segment ≡ get_or segments
    spot.index d →
    spot.index < length segments →
    sum_by segment_size (take spot.index segments) ≤ v → v < sum_by segment_size (take spot.index segments) +
    segment_size segment →
    spot.place ≡ shown_place segment (v - sum_by segment_size (take spot.index segments)) → IsSpot segments v spot
is_spot n v segments spot segment d e lt from to place =
    let k : ℕ = spot.index in
    record {
      index_in = lt;
      from = from;
      to = omega (arith, to, sum_more k segments d lt, ap segment_size e);
      place_is = λ d'. place
          ∙ ap (λ r. shown_place r (v - sum_by segment_size (take k segments))) (e ∙ get_or_default segments k d d' lt);
    }

-- the entry at position v of the sequence
pub spot_shows : (n v : ℕ) (segments : List Segment) (spot : Spot) (order : List ℕ) (none : Segment) → AreLaidOut n
    segments →
    n ≤ length order → IsSpot segments v spot →
    get_or (shown order segments) v 0 ≡ get_or order spot.place 0
spot_shows n v segments spot order none laid le h =
    let s = start_is n spot.index segments none laid h.index_in in
    shown_at n spot.index v segments none order laid h.index_in le h.from h.to
    ∙ ap (λ u. get_or order (shown_place (get_or segments spot.index none) (v - u)) 0) s
    ∙ ap (λ u. get_or order u 0) (sym (h.place_is none))

pub spot_held : (n s v : ℕ) (segments : List Segment) (spot : Spot) (segment : Segment) → SpotFacts n s v segments spot
    segment →
    (segment.low ≤ spot.place) × (spot.place < segment.high) × (spot.place < n)
spot_held n s v segments spot segment f =
    ⊎_elim
    (λ (e : segment.back ≡ true).
    let p = f.behind e in (
      omega (arith, p, f.inside, f.low_high),
      omega (arith, p, f.inside, f.low_high),
      omega (arith, p, f.inside, f.low_high),
    ))
    (λ (e : segment.back ≡ false).
    let p = f.ahead e in (
      omega (arith, p, f.inside, f.low_high),
      omega (arith, p, f.inside, f.low_high),
      omega (arith, p, f.inside, f.low_high),
    ))
    (cases_bool segment.back)

-- the position in the sequence of a spot d positions after the start of its segment
pub spot_of_place : (n d p : ℕ) (segments : List Segment) (spot : Spot) (segment none : Segment) → AreLaidOut n segments
    →
    segment ≡ get_or segments spot.index none → spot.index < length segments →
    d < segment_size segment → p ≡ shown_place segment d → spot.place ≡ p → IsSpot segments (segment.start + d) spot ×
    (segment.start + d < n)
spot_of_place n d p segments spot segment none laid e lt ld ep es =
    let k : ℕ = spot.index in
    let s : segment.start ≡ sum_by segment_size (take k segments) = ap (λ (r : Segment). r.start) e ∙ start_is n k
    segments none laid lt in
    let more = sum_more k segments none lt in
    let z : segment.start + d - sum_by segment_size (take k segments) ≡ d = omega (arith, s) in (
      is_spot n (segment.start + d) segments spot segment none e lt (omega (arith, s)) (omega (arith, s, ld))
          (es ∙ ep ∙ ap (shown_place segment) (sym z)),
      omega (
        arith,
        s,
        ld,
        more,
        ap segment_size e,
        sum_mono (k + 1) (length segments) segments (omega (arith, lt)),
        sum_all n segments laid,
      ),
    )

-- w comes right after v, in one segment
pub within_segment : (n s v w size : ℕ) → IsAfterPlace n v w → s ≤ v → v + 1 < s + size → s + size ≤ n → w ≡ v + 1
within_segment n s v w size h from to le =
    ⊎_elim (λ (a : (v + 1 < n) × (w ≡ v + 1)). a.1) (λ (a : (v + 1 ≡ n) × (w ≡ 0)). absurd (omega (arith, a, to, le))) h

-- the segment before the first one is the last
pub before_first : (n s v w k : ℕ) (segments : List Segment) (spot new : Spot) (segment prev d : Segment) → AreLaidOut n
    segments →
    SpotFacts n s w segments spot segment → IsAfterPlace n v w → w ≡ s →
    ((spot.index ≡ 0) × (k + 1 ≡ length segments)) ⊎ ((0 < spot.index) × (k + 1 ≡ spot.index)) →
    prev ≡ get_or segments k d → new.index ≡ k → new.place ≡ shown_place prev (segment_size prev - 1) → IsSpot segments
    v new
before_first n s v w k segments spot new segment prev d laid f h first cases e ei ep =
    let lk : k < length segments = ⊎_elim (λ (a : (spot.index ≡ 0) × (k + 1 ≡ length segments)). omega (arith, a))
    (λ (a : (0 < spot.index) × (k + 1 ≡ spot.index)). omega (arith, a, f.index_in)) cases in
    let size : 0 < segment_size prev = let P : Segment → Type 0 = λ r. 0 < segment_size r in
    subst P (sym e) (let l = laid.within k d lk in omega (arith, l)) in
    let more : sum_by segment_size (take (k + 1) segments) ≡ sum_by segment_size (take k segments) + segment_size prev =
    sum_more k segments d lk
    ∙ ap (λ r. sum_by segment_size (take k segments) + segment_size r) (sym e) in
    let at : sum_by segment_size (take (k + 1) segments) ≡ v + 1 =
    ⊎_elim
    (λ (a : (spot.index ≡ 0) × (k + 1 ≡ length segments)).
    let z : w ≡ 0 = first ∙ f.start ∙ ap (λ u. sum_by segment_size (take u segments)) a.0 in
    let t : v + 1 ≡ n =
    ⊎_elim (λ (b : (v + 1 < n) × (w ≡ v + 1)). absurd (omega (arith, b, z)))
    (λ (b : (v + 1 ≡ n) × (w ≡ 0)). b.0) h in
    ap (λ u. sum_by segment_size (take u segments)) a.1 ∙ sum_all n segments laid ∙ sym t)
    (λ (a : (0 < spot.index) × (k + 1 ≡ spot.index)).
    let t : sum_by segment_size (take (k + 1) segments) ≡ w = ap (λ u. sum_by segment_size (take u segments)) a.1 ∙ sym
    f.start
    ∙ sym first in
    t ∙ ⊎_elim (λ (b : (v + 1 < n) × (w ≡ v + 1)). b.1)
    (λ (b : (v + 1 ≡ n) × (w ≡ 0)). absurd (omega (arith, b, t, more, size))) h)
    cases in
    let start : sum_by segment_size (take new.index segments) + segment_size prev ≡ v + 1 =
    omega (arith, ap (λ u. sum_by segment_size (take u segments)) ei, at, more) in
    let z : v - sum_by segment_size (take new.index segments) ≡ segment_size prev - 1 = omega (arith, start, size) in
    is_spot n v segments new prev d (e ∙ ap (λ u. get_or segments u d) (sym ei)) (omega (arith, ei, lk))
    (omega (arith, start, size)) (omega (arith, start)) (ep ∙ ap (shown_place prev) (sym z))

pub first_ahead : (n s w : ℕ) (segments : List Segment) (spot : Spot) (segment : Segment) → SpotFacts n s w segments
    spot segment →
    segment.back ≡ false → spot.place ≤ segment.low → w ≡ s
first_ahead n s w segments spot segment f b le = omega (arith, f.ahead b, f.inside, f.low_high, le)

pub first_behind : (n s w : ℕ) (segments : List Segment) (spot : Spot) (segment : Segment) → SpotFacts n s w segments
    spot segment →
    segment.back ≡ true → segment.high ≤ spot.place + 1 → w ≡ s
first_behind n s w segments spot segment f b le = omega (arith, f.behind b, f.inside, f.low_high, le)

pub last_ahead : (n s v : ℕ) (segments : List Segment) (spot : Spot) (segment : Segment) → SpotFacts n s v segments spot
    segment →
    segment.back ≡ false → segment.high ≤ spot.place + 1 → v + 1 ≡ s + segment_size segment
last_ahead n s v segments spot segment f b le = omega (arith, f.ahead b, f.inside, f.low_high, le)

pub last_behind : (n s v : ℕ) (segments : List Segment) (spot : Spot) (segment : Segment) → SpotFacts n s v segments
    spot segment →
    segment.back ≡ true → spot.place ≤ segment.low → v + 1 ≡ s + segment_size segment
last_behind n s v segments spot segment f b le = omega (arith, f.behind b, f.inside, f.low_high, le)

-- the segment after the last one is the first
pub after_last : (n s v w k : ℕ) (segments : List Segment) (spot new : Spot) (segment next d : Segment) → AreLaidOut n
    segments →
    SpotFacts n s v segments spot segment → IsAfterPlace n v w → v + 1 ≡ s + segment_size segment →
    ((spot.index + 1 ≡ length segments) × (k ≡ 0)) ⊎ ((spot.index + 1 < length segments) × (k ≡ spot.index + 1)) →
    next ≡ get_or segments k d → new.index ≡ k → new.place ≡ shown_place next 0 → IsSpot segments w new
after_last n s v w k segments spot new segment next d laid f h last cases e ei ep =
    let lk : k < length segments = ⊎_elim (λ (a : (spot.index + 1 ≡ length segments) × (k ≡ 0)). omega (arith, a))
    (λ (a : (spot.index + 1 < length segments) × (k ≡ spot.index + 1)). omega (arith, a)) cases in
    let size : 0 < segment_size next = let P : Segment → Type 0 = λ r. 0 < segment_size r in
    subst P (sym e) (let l = laid.within k d lk in omega (arith, l)) in
    let more : sum_by segment_size (take (k + 1) segments) ≡ sum_by segment_size (take k segments) + segment_size next =
    sum_more k segments d lk
    ∙ ap (λ r. sum_by segment_size (take k segments) + segment_size r) (sym e) in
    let within : sum_by segment_size (take (k + 1) segments) ≤ n =
    omega (arith, sum_mono (k + 1) (length segments) segments (omega (arith, lk)), sum_all n segments laid) in
    let start : sum_by segment_size (take k segments) ≡ w =
    ⊎_elim
    (λ (a : (spot.index + 1 ≡ length segments) × (k ≡ 0)).
    let t : v + 1 ≡ n =
    last ∙ sym f.size ∙ ap (λ u. sum_by segment_size (take u segments)) a.0 ∙ sum_all n segments laid in
    ap (λ u. sum_by segment_size (take u segments)) a.1
    ∙ ⊎_elim (λ (b : (v + 1 < n) × (w ≡ v + 1)). absurd (omega (arith, b, t)))
    (λ (b : (v + 1 ≡ n) × (w ≡ 0)). sym b.1) h)
    (λ (a : (spot.index + 1 < length segments) × (k ≡ spot.index + 1)).
    let t : sum_by segment_size (take k segments) ≡ v + 1 =
    ap (λ u. sum_by segment_size (take u segments)) a.1 ∙ f.size ∙ sym last in
    t ∙ ⊎_elim (λ (b : (v + 1 < n) × (w ≡ v + 1)). sym b.1)
    (λ (b : (v + 1 ≡ n) × (w ≡ 0)). absurd (omega (arith, b, t, more, size, within))) h)
    cases in
    let at : sum_by segment_size (take new.index segments) ≡ w = ap (λ u. sum_by segment_size (take u segments)) ei ∙
    start in
    let z : w - sum_by segment_size (take new.index segments) ≡ 0 = omega (arith, at) in
    is_spot n w segments new next d (e ∙ ap (λ u. get_or segments u d) (sym ei)) (omega (arith, ei, lk))
    (omega (arith, at)) (omega (arith, at, size)) (ep ∙ ap (shown_place next) (sym z))
