-- A reversal by swaps of cities, from both ends inwards, spot by spot.
use Rattle.std.proofs.Common.{◌≡◌, ℕ, ◌+◌, ◌-◌, ◌<◌, ◌≤◌, ◌/◌, ⊎_elim, inl, inr, List, length, set, refl, arith}
use Rattle.std.proofs.Common.{get_or}
use Rattle.std.proofs.lemmas.Bool.{cases_lt}
use Rattle.tk_segments.specs.Segments.{AreLaidOut, IsSpot, IsAfterPlace}
use Rattle.tk_segments.specs.Writes.{changed}
use Rattle.tk_segments.specs.WriteLaws.{changed-set}
use Rattle.tk_segments.specs.declared.segment.Segment.{Segment}
use Rattle.tk_segments.specs.declared.spots.Spot.{Spot}
use Rattle.tk_segments.proofs.NoSegment.{no_segment}
use Rattle.tk_segments.proofs.SeenTours.Spots.{spot_facts, spot_held, spot_shows}
use Rattle.tk_segments.proofs.SeenTours.SeenReversing.{SeenAt, Exchanging, Exchanging-more}

pub spot_seen : (n v : ℕ) (segments : List Segment) (spot : Spot) → AreLaidOut n segments → IsSpot segments v spot →
    SeenAt n segments v spot.place
spot_seen n v segments spot laid h = (
  (spot_held n _ v segments spot (get_or segments spot.index no_segment)
      (spot_facts n v segments spot (get_or segments spot.index no_segment) no_segment laid refl h)).2,
  λ order le. spot_shows n v segments spot order no_segment laid le h,
)

-- after t swaps, the next two cities are at `low` and just before `high`
pub record Stepping (n first count t : ℕ) (low high : Spot) (begin order place : List ℕ)
    (segments : List Segment) : Type 0 where
  pub low_v : ℕ
  pub high_v : ℕ
  pub low_is : IsSpot segments low_v low
  pub high_is : IsSpot segments high_v high
  pub exchanging : Exchanging n first count t low_v high_v begin order place segments
  pub written : changed begin order ≤ t + t

-- the position before w on a cycle of n positions, and below the one after v
pub record Before (n w : ℕ) : Type 0 where
  pub v : ℕ
  pub after : IsAfterPlace n v w
  pub is : (w ≡ 0 → v + 1 ≡ n) × (0 < w → v + 1 ≡ w)

pub before_place : (n w : ℕ) → w < n → Before n w
before_place n w lt =
    ⊎_elim
    (λ (a : 0 < w).
    record {
      v = w - 1;
      after = inl (omega (arith, a, lt), omega (arith, a));
      is = ((λ e. absurd (omega (arith, a, e))), (λ _. omega (arith, a)));
    })
    (λ (a : w ≤ 0).
    record {
      v = n - 1;
      after = inr (omega (arith, lt), omega (arith, a));
      is = (
        (λ _. omega (arith, lt)),
        (λ e. absurd (omega (arith, a, e))),
      );
    })
    (cases_lt 0 w)

pub record After (n v : ℕ) : Type 0 where
  pub w : ℕ
  pub after : IsAfterPlace n v w
  pub is : (v + 1 ≡ n → w ≡ 0) × (v + 1 < n → w ≡ v + 1)

pub after_place : (n v : ℕ) → v < n → After n v
after_place n v lt =
    ⊎_elim
    (λ (a : v + 1 < n).
    record { w = v + 1; after = inl (a, refl); is = ((λ e. absurd (omega (arith, a, e))), (λ _. refl)) })
    (λ (a : n ≤ v + 1).
    record {
      w = 0;
      after = inr (omega (arith, a, lt), refl);
      is = ((λ _. refl), (λ e. absurd (omega (arith, a, e))));
    })
    (cases_lt (v + 1) n)

pub Stepping-high : (n first count t : ℕ) (low high high' : Spot) (begin order place : List ℕ) (segments : List Segment)
    →
    AreLaidOut n segments →
    Stepping n first count t low high begin order place segments →
    ((v w : ℕ) → IsSpot segments w high → IsAfterPlace n v w → IsSpot segments v high') →
    (low.place < length order) × (high'.place < length order)
Stepping-high n first count t low high high' begin order place segments laid h step =
    let b = before_place n h.high_v h.exchanging.seen.high_at.0 in
    let l = spot_seen n h.low_v segments low laid h.low_is in
    let g = spot_seen n b.v segments high' laid (step b.v h.high_v h.high_is b.after) in
    (omega (arith, l.0, h.exchanging.sizes), omega (arith, g.0, h.exchanging.sizes))

pub Stepping-more : (n first count t x y : ℕ) (low high low' high' : Spot) (begin order place : List ℕ)
    (segments : List Segment) → AreLaidOut n segments →
    Stepping n first count t low high begin order place segments → first < n → count ≤ n → t < count / 2 →
    ((v w : ℕ) → IsSpot segments w high → IsAfterPlace n v w → IsSpot segments v high') →
    ((v w : ℕ) → IsSpot segments v low → IsAfterPlace n v w → IsSpot segments w low') →
    x ≡ get_or order low.place 0 → y ≡ get_or order high'.place 0 →
    Stepping n first count (t + 1) low' high' begin (set (set order low.place y) high'.place x)
    (set (set place (y - 1) low.place) (x - 1) high'.place) segments
Stepping-more n first count t x y low high low' high' begin order place segments laid h lf lc lt down up ex ey =
    let b = before_place n h.high_v h.exchanging.seen.high_at.0 in
    let a = after_place n h.low_v h.exchanging.seen.low_at.0 in
    let high_is : IsSpot segments b.v high' = down b.v h.high_v h.high_is b.after in
    record {
      low_v = a.w;
      high_v = b.v;
      low_is = up h.low_v a.w h.low_is a.after;
      high_is = high_is;
      exchanging = Exchanging-more n first count t h.low_v h.high_v a.w b.v low.place high'.place x y begin order place
          segments h.exchanging lf lc lt b.is a.is
          (spot_seen n h.low_v segments low laid h.low_is) (spot_seen n b.v segments high' laid high_is) ex ey;
      written =
          omega (
            arith,
            h.written,
            changed-set begin order low.place y,
            changed-set begin (set order low.place y) high'.place x,
          );
    }
