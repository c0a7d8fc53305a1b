-- Laws of runs of trials, which the functions of `src/trials/laws.rt` state. A run begins after the first descent, from
-- a ring `start` that fits.
use Rattle.std.specs.Prelude.{◌≡◌, ℕ, ◌≤◌, List, length, true}
use Rattle.rand_core.specs.Stream.{Stream}
use Rattle.tk_descent.specs.WakeMachine.{IsLocalOptimumUnder}
use Rattle.tk_near.specs.Near.{near_of}
use Rattle.tk_rings.specs.Capacities.{IsFitting}
use Rattle.tk_tour.specs.Tour.{IsTour, tour_length}
use Rattle.tk_ring_search.specs.Descents.{Fits}
use Rattle.tk_ring_search.specs.Given.{Given}
use Rattle.tk_ring_search.specs.Searching.{IsBegun, NextTrial, RingRun, RingSearching}
use Rattle.tk_ring_search.specs.Totals.{IsBounded}
use Rattle.tk_ring_search.specs.declared.trials.totals.RingTrial.{RingTrial}

-- a ring of the elements 1 to n that fits
abbrev pub IsRing : Given → ℕ → List ℕ → Type 0
IsRing given n ring = IsTour n ring × Fits given ring

-- no element of the ring has an offer with positive gain after whose move the ring fits
abbrev pub IsOptimal : Given → List ℕ → Type 0
IsOptimal given ring =
    IsLocalOptimumUnder (IsFitting given.capacity given.demands) given.distance (near_of given.near) given.or_segment
    ring

-- the best ring is not longer than the start
abbrev pub BestIsNoLonger : Type 0
BestIsNoLonger =
    (given : Given) (start : List ℕ) (begun search : RingSearching) (words rest : Stream) (t : ℕ) →
    IsBegun given start begun → RingRun begun words t search rest →
    tour_length given.distance search.best ≤ tour_length given.distance start

-- the current ring and the best have the elements of the start, and fit
abbrev pub RingsFit : Type 0
RingsFit =
    (given : Given) (start : List ℕ) (begun search : RingSearching) (words rest : Stream) (t : ℕ) →
    IsBegun given start begun → RingRun begun words t search rest →
    IsRing given (length start) search.ring × IsRing given (length start) search.best

-- if descents are swept, the current ring and the best are local optima
abbrev pub SweptRingsAreOptimal : Type 0
SweptRingsAreOptimal =
    (given : Given) (start : List ℕ) (begun search : RingSearching) (words rest : Stream) (t : ℕ) →
    IsBegun given start begun → RingRun begun words t search rest → given.sweep ≡ true →
    IsOptimal given search.ring × IsOptimal given search.best

-- each trial counts, and there are at most as many as were planned
abbrev pub EachTrialCounts : Type 0
EachTrialCounts =
    (given : Given) (start : List ℕ) (begun search : RingSearching) (words rest : Stream) (t : ℕ) →
    IsBegun given start begun → RingRun begun words t search rest →
    (search.totals.trials ≡ t) × (t ≤ given.trials)

-- the work of a run is bounded
abbrev pub WorkIsBounded : Type 0
WorkIsBounded =
    (given : Given) (start : List ℕ) (begun search : RingSearching) (words rest : Stream) (t : ℕ) →
    IsBegun given start begun → RingRun begun words t search rest →
    IsBounded given (length start) (tour_length given.distance search.best) search.totals

-- two reports agree on these counts
pub record AreAlike (r s : RingTrial) : Type 0 where
  pub draws : r.draws ≡ s.draws
  pub passes : r.passes ≡ s.passes
  pub moves : r.descent.moves ≡ s.descent.moves
  pub tests : r.descent.tests ≡ s.descent.tests

-- two reports of one trial agree
abbrev pub ReportsAgree : Type 0
ReportsAgree =
    (old new : RingSearching) (words rest : Stream) (r s : RingTrial) → NextTrial old words new rest r →
    NextTrial old words new rest s → AreAlike r s
