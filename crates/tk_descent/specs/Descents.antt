-- Descents and their reports.
--     DescentInput, DescentState      the input and the state of a descent
--     Descent      a descent from one state to another, with its report
--     Sweeping      a swept descent: passes with all cities awake, until one makes no move
--     IsDescent, IsSweeping      a descent and a swept descent, from a tour, waking cities and gains to those after it
--     DescentUnder, SweepingUnder      a descent and a swept descent under a rule
--     AreOfSize      gains, near lists and waking cities for a number of cities
-- A rule is given by `fits`, the cycles that fit, and `may`: the offer o is allowed on the cycle C if `may C o` is
-- true.
use Rattle.std.specs.Prelude.{◌≡◌, ℕ, ◌+◌, ◌-◌, ◌*◌, ◌/◌, ◌≤◌, ◌-ℤ◌, Bool, List, [], length, pos}
use Rattle.std.specs.Int.RustNames.{unsigned_abs}
use Rattle.tk_near.specs.Near.{NearLists, near_of}
use Rattle.tk_tour.specs.Counters.{saturated}
use Rattle.tk_tour.specs.Tour.{tour_length, IsTour}
use Rattle.tk_tour.specs.declared.store.TourStore as stores
use Rattle.tk_descent.specs.Awake.{Awake}
use Rattle.tk_descent.specs.Machine.{ExecutionUnder, IsExecutionUnder}
use Rattle.tk_descent.specs.Sweeps.{SweepsUnder, AreSweepsUnder}
use Rattle.tk_descent.specs.WakeMachine.{WakesUnder, IsLocalOptimumUnder, each_cycle}
use Rattle.tk_descent.specs.declared.descent.Report.{Report}
use Rattle.tk_descent.specs.declared.gains.Gains as gains
use Rattle.tk_descent.specs.declared.offer.Offer.{Offer}
use Rattle.tk_descent.specs.Offers.{everything}
use Rattle.tk_descent.specs.declared.sweep.SweptReport.{SweptReport}

-- the input of a descent: distances, near lists, and the maximum number of cities in the segment of an Or-opt move
pub record DescentInput : Type 0 where
  pub distance : ℕ → ℕ → ℕ
  pub near : NearLists
  pub or_segment : ℕ

-- the state of a descent: the tour, the cities that are awake, and the numbers of tests, swaps and flips so far
pub record DescentState : Type 0 where
  pub tour : List ℕ
  pub awake : List ℕ
  pub tests : ℕ
  pub swaps : ℕ
  pub flips : ℕ

-- by how much a descent shortened the tour
abbrev pub saved : Report → ℕ
saved report = unsigned_abs (report.before -ℤ report.after)

-- The report of descents that begin with `looks` looks, and then make at most six for each move.
pub record IsReported (by : DescentInput) (from to : DescentState) (looks : ℕ) (report : Report) : Type 0 where
  pub before : report.before ≡ pos (tour_length by.distance from.tour)
  pub after : report.after ≡ pos (tour_length by.distance to.tour)
  pub moves : report.moves + tour_length by.distance to.tour ≤ tour_length by.distance from.tour
  pub looks_most : report.looks ≤ looks + 6 * report.moves
  pub tests_most : report.tests ≤ 4 * by.or_segment * by.near.width * (looks + 6 * report.moves)
  pub tests : report.tests ≡ to.tests - from.tests
  pub swaps_most : report.swaps ≤ 3 * (length from.tour / 4) * report.moves
  pub swaps : report.swaps ≡ to.swaps - from.swaps
  pub flips_most : to.flips ≤ from.flips + 3 * report.moves
  pub rises : (from.tests ≤ to.tests) × (from.swaps ≤ to.swaps)

-- A descent ends with a tour of the same cities that fits, and with no city awake. Counters of tests saturate at
-- 2^64 - 1.
pub record DescentUnder (fits : List ℕ → Type 0) (may : List ℕ → Offer → Bool) (by : DescentInput)
    (from to : DescentState)
    (report : Report) : Type 0 where
  pub run : (tests : ℕ) × ExecutionUnder may by.distance (near_of by.near) by.or_segment from.tour from.awake to.tour []
      report.looks report.moves tests × (to.tests ≡ saturated (from.tests + tests))
  pub fresh : from.tests ≡ 0 → IsExecutionUnder may by.distance by.near by.or_segment from.tour from.awake to.tour []
      report
  pub wakes : WakesUnder fits by.distance (near_of by.near) by.or_segment from.tour from.awake to.tour []
  pub asleep : to.awake ≡ []
  pub tour : IsTour (length from.tour) to.tour
  pub fitting : fits to.tour
  pub reported : IsReported by from to (length from.awake) report

-- a descent of the TSP
abbrev pub Descent : DescentInput → DescentState → DescentState → Report → Type 0
Descent = DescentUnder each_cycle everything

-- A swept descent ends with a local optimum that fits, and with no city awake.
pub record SweepingUnder (fits : List ℕ → Type 0) (may : List ℕ → Offer → Bool) (by : DescentInput)
    (from to : DescentState)
    (report : SweptReport) : Type 0 where
  pub sweeps : (tests : ℕ) × SweepsUnder may by.distance (near_of by.near) by.or_segment from.tour to.tour report.passes
      report.descent.looks report.descent.moves tests × (to.tests ≡ saturated (from.tests + tests))
  pub fresh : from.tests ≡ 0 → AreSweepsUnder may by.distance by.near by.or_segment from.tour to.tour report
  pub optimum : IsLocalOptimumUnder fits by.distance (near_of by.near) by.or_segment to.tour
  pub asleep : to.awake ≡ []
  pub tour : IsTour (length from.tour) to.tour
  pub fitting : fits to.tour
  pub passes : report.passes ≤ report.descent.moves + 1
  pub reported : IsReported by from to (length from.tour * report.passes) report.descent

-- a swept descent of the TSP
abbrev pub Sweeping : DescentInput → DescentState → DescentState → SweptReport → Type 0
Sweeping = SweepingUnder each_cycle everything

-- the state of a descent with this tour and these waking cities, after `tests` tests
abbrev pub stand : {S : Type 0} → stores.Ghosts S → S → Awake → ℕ → DescentState
stand store tour waking tests = record {
  tour = store.cities tour;
  awake = waking.queue;
  tests = tests;
  swaps = store.swap_count tour;
  flips = store.flip_count tour;
}

-- a descent of the TSP, from a tour, its waking cities and gains to those after it
abbrev pub IsDescent : {S G : Type 0} → stores.Ghosts S → gains.Ghosts G → NearLists → ℕ → S × Awake × G →
    S × Awake × G → Report → Type 0
IsDescent store gains near or_segment (tour, waking, made) (tour', waking', made') =
    Descent (record { distance = gains.distance made; near = near; or_segment = or_segment })
    (stand store tour waking (gains.test_count made)) (stand store tour' waking' (gains.test_count made'))

-- a swept descent of the TSP, from a tour, its waking cities and gains to those after it
abbrev pub IsSweeping : {S G : Type 0} → stores.Ghosts S → gains.Ghosts G → NearLists → ℕ → S × Awake × G →
    S × Awake × G → SweptReport → Type 0
IsSweeping store gains near or_segment (tour, waking, made) (tour', waking', made') =
    Sweeping (record { distance = gains.distance made; near = near; or_segment = or_segment })
    (stand store tour waking (gains.test_count made)) (stand store tour' waking' (gains.test_count made'))

-- gains, near lists and waking cities for n cities
abbrev pub AreOfSize : ℕ → ℕ → ℕ → ℕ → Type 0
AreOfSize n gains near waking = (gains ≡ n) × (near ≡ n) × (waking ≡ n)
