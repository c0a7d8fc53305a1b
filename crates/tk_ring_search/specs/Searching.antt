-- Searches between routes by trials.
--     RingSearching      what callers see of a search
--     IsBegun      a search after the first descent
--     NextTrial      its next trial: IsKickedTrial or IsIdleTrial
--     RingRun      t trials one after another
use Rattle.std.specs.Prelude.{◌≡◌, ℕ, ◌+◌, ◌<◌, ◌≤◌, List, [], length, pos}
use Rattle.std.proofs.Props.{props}
use Rattle.rand_core.specs.Stream.{Stream}
use Rattle.tk_descent.specs.Awake.{one_to, woken_each}
use Rattle.tk_descent.specs.Descents.{DescentState}
use Rattle.tk_descent.specs.EdgeCache.{AreTrueOf}
use Rattle.tk_descent.specs.declared.sweep.SweptReport.{SweptReport}
use Rattle.tk_search.specs.Cuts.{kick_swaps}
use Rattle.tk_tour.specs.Counters.{saturated}
use Rattle.tk_tour.specs.JournalTours.{settled_order, slots_of}
use Rattle.tk_tour.specs.Reversal.{AreReversed}
use Rattle.tk_tour.specs.Tour.{SameCycle, tour_length}
use Rattle.tk_tour.specs.declared.store.TourStore.{Ghosts}
use Rattle.tk_tour.specs.declared.undo.UndoStore as undo
use Rattle.tk_rings.specs.LoadedRings.{cities_in, demands_in, flips_in, ring_in, swaps_in}
use Rattle.tk_ring_search.specs.Best.{best_of}
use Rattle.tk_ring_search.specs.Descents.{DescendsRing, Fits}
use Rattle.tk_ring_search.specs.Drawing.{IsFirstFit, Misses, most_draws}
use Rattle.tk_ring_search.specs.Given.{Given}
use Rattle.tk_ring_search.specs.Judging.{IsSettled, limit_of}
use Rattle.tk_ring_search.specs.Kicks.{ends_of, kicked}
use Rattle.tk_ring_search.specs.Totals.{AddsTrial, IsCountable}
use Rattle.tk_ring_search.specs.declared.kicks.kick.Kick.{Kick}
use Rattle.tk_ring_search.specs.declared.trials.judging.Outcome.TheVariants.{Idle}
use Rattle.tk_ring_search.specs.declared.trials.state.State.{State}
use Rattle.tk_ring_search.specs.declared.trials.totals.RingTotals.{RingTotals}
use Rattle.tk_ring_search.specs.declared.trials.totals.RingTrial.{RingTrial}

-- the input of a search, the current ring, the best ring, and the totals
pub record RingSearching : Type 0 where
  pub given : Given
  pub ring : List ℕ
  pub best : List ℕ
  pub totals : RingTotals

abbrev pub searching : {S : Type 0} → {u : undo.Ghosts S} → {s : Ghosts S} → Given → State S u s → RingSearching
searching given state = record {
  given = given;
  ring = cities_in state.ring;
  best = best_of state.best;
  totals = state.totals;
}

-- the second ring comes from the first by so many flips and swaps, which are counted
pub record IsByFlips (from to : DescentState) : Type 0 where
  pub flips : ℕ
  pub swaps : ℕ
  pub reversed : AreReversed from.tour to.tour flips swaps
  pub flips_are : to.flips ≡ saturated (from.flips + flips)
  pub swaps_are : to.swaps ≡ saturated (from.swaps + swaps)

-- a search after the first descent, from a ring with all elements awake: its result is the current ring and the best
pub record IsBegun (given : Given) (start : List ℕ) (search : RingSearching) : Type 0 where
  pub given_is : search.given ≡ given
  pub from : DescentState
  pub to : DescentState
  pub report : SweptReport
  pub descends : DescendsRing given from to report.descent report.passes
  pub tour : from.tour ≡ start
  pub awake : from.awake ≡ one_to (length start)
  pub tests : from.tests ≡ 0
  pub swaps : from.swaps ≡ 0
  pub by_flips : IsByFlips from to
  pub ring : search.ring ≡ to.tour
  pub best : search.best ≡ to.tour
  pub start_is : search.totals.start ≡ pos (tour_length given.distance start)
  pub work : (search.totals.moves ≡ report.descent.moves) × (search.totals.tests ≡ report.descent.tests)
      × (search.totals.swaps ≡ report.descent.swaps) × (search.totals.passes ≡ report.passes)
  pub none : (search.totals.trials ≡ 0) × (search.totals.kicks ≡ 0) × (search.totals.draws ≡ 0)
      × (search.totals.better ≡ 0) × (search.totals.copied ≡ 0)

-- the flips that can be undone on a ring of n elements
abbrev pub slots_for : ℕ → ℕ
slots_for n = n + 1000

-- A descent from a kick of the current ring, with its eight ends awake. It ends with this count of swaps, this current
-- ring and this best ring.
pub record IsKickedDescent (old : RingSearching) (kick : Kick) (swaps : ℕ) (ring best : List ℕ) (trial : RingTrial) :
    Type 0 where
  pub from : DescentState
  pub to : DescentState
  pub tour : SameCycle from.tour (kicked kick old.ring)
  pub awake : from.awake ≡ woken_each [] (ends_of kick old.ring)
  pub tests : from.tests ≡ 0
  pub swaps_before : from.swaps ≡ saturated (old.totals.swaps + kick_swaps (length old.ring) kick.cuts)
  pub flips : from.flips ≡ 4
  pub descends : DescendsRing old.given from to trial.descent trial.passes
  pub by_flips : IsByFlips from to
  pub swaps_after : swaps ≡ to.swaps
  pub settles : IsSettled old.given.distance
      (limit_of (tour_length old.given.distance old.best) old.totals.trials old.given.trials)
      (slots_for (length old.ring)) to.flips old.ring old.best to.tour trial.outcome ring best

-- a descent from the first kick drawn after which the ring fits
pub record IsKickedTrial (old : RingSearching) (words : Stream) (new : RingSearching) (rest : Stream)
    (trial : RingTrial) : Type 0 where
  pub kick : Kick
  pub drawn : IsFirstFit old.given.capacity old.given.demands old.ring words trial.draws kick rest
  pub descent : IsKickedDescent old kick new.totals.swaps new.ring new.best trial

-- a trial without a kick: no kick drawn left a ring that fits, or the ring is too short for kicks
pub record IsIdleTrial (old : RingSearching) (words : Stream) (new : RingSearching) (rest : Stream)
    (trial : RingTrial) : Type 0 where
  pub missed : Misses old.given.capacity old.given.demands old.ring words trial.draws rest
  pub draws : trial.draws ≡ most_draws (length old.ring)
  pub outcome : trial.outcome ≡ Idle
  pub before : trial.descent.before ≡ pos (tour_length old.given.distance old.ring)
  pub after : trial.descent.after ≡ pos (tour_length old.given.distance old.ring)
  pub counts : (trial.descent.moves ≡ 0) × (trial.descent.looks ≡ 0) × (trial.descent.tests ≡ 0)
      × (trial.descent.swaps ≡ 0) × (trial.passes ≡ 0)
  pub same : (new.ring ≡ old.ring) × (new.best ≡ old.best) × (new.totals.swaps ≡ old.totals.swaps)

pub data TrialCase (old : RingSearching) (words : Stream) (new : RingSearching) (rest : Stream) (trial : RingTrial) :
    Type 0 where
  kicks : IsKickedTrial old words new rest trial → TrialCase old words new rest trial
  idles : IsIdleTrial old words new rest trial → TrialCase old words new rest trial

-- the next trial of a search
pub record NextTrial (old : RingSearching) (words : Stream) (new : RingSearching) (rest : Stream) (trial : RingTrial) :
    Type 0 where
  pub left : old.totals.trials < old.given.trials
  pub given : new.given ≡ old.given
  pub adds : AddsTrial (length old.ring) old.totals new.totals trial
  pub few : trial.draws ≤ 1000
  pub done : TrialCase old words new rest trial

-- all trials have been made, and nothing changes
pub record HasMadeAll (old : RingSearching) (words : Stream) (new : RingSearching) (rest : Stream) : Type 0 where
  pub all : old.given.trials ≤ old.totals.trials
  pub same : (new ≡ old) × (rest ≡ words)

-- t trials, from a search and a random stream to the search after them and the rest of the stream
pub data RingRun (begun : RingSearching) (words : Stream) : ℕ → RingSearching → Stream → Type 0 where
  begin : RingRun begun words 0 begun words
  trial : {t : ℕ} {old new : RingSearching} {left rest : Stream} {report : RingTrial} → RingRun begun words t old left →
      NextTrial old left new rest report → RingRun begun words (t + 1) new rest

-- the invariant between two trials, but for the totals
pub record IsStanding {S : Type 0} {u : undo.Ghosts S} {s : Ghosts S} (size : ℕ) (given : Given)
    (state : State S u s) : Type 0 where
  pub elements : size ≡ length (best_of state.best)
  pub lists : given.near.size ≡ length (best_of state.best)
  pub queue : state.waking.size ≡ length (best_of state.best)
  pub asleep : state.waking.queue ≡ []
  pub steps : AreTrueOf given.distance state.steps
  pub segment : (1 ≤ given.or_segment) × (given.or_segment ≤ 3)
  pub demands : demands_in state.ring ≡ given.demands
  pub count : length (cities_in state.ring) ≡ length (best_of state.best)
  pub settled : settled_order (ring_in state.ring) ≡ cities_in state.ring
  pub flips : flips_in state.ring ≡ 0
  pub slots : slots_of (ring_in state.ring) ≡ slots_for (length (best_of state.best))
  pub fits : Fits given (cities_in state.ring)
  pub best_fits : Fits given (best_of state.best)
  pub cost : state.cost ≡ pos (tour_length given.distance (cities_in state.ring))
  pub shortest : state.shortest ≡ pos (tour_length given.distance (best_of state.best))

-- the invariant between two trials
pub record IsSearching {S : Type 0} {u : undo.Ghosts S} {s : Ghosts S} (size : ℕ) (given : Given)
    (state : State S u s) : Type 0 where
  pub stands : IsStanding size given state
  pub swaps : state.totals.swaps ≡ swaps_in state.ring
  pub countable : IsCountable state.totals

-- the invariant is a proposition, so that a search can have it as a ghost field
pub IsSearching-prop : {S : Type 0} {u : undo.Ghosts S} {s : Ghosts S} (size : ℕ) (given : Given)
    (state : State S u s) → IsProp (IsSearching size given state)
IsSearching-prop size given state = Prim.hlevel props
