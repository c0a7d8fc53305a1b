-- Swept descents: passes one after another, each with all cities awake, until one makes no move.
--     Pass, Moving, Sweeps, AreSweeps      of the TSP, in which every offer is allowed
--     PassUnder, .., AreSweepsUnder      under a rule: the offer o is allowed on the cycle C if `may C o` is true
use Rattle.std.specs.Prelude.{◌≡◌, ℕ, ◌+◌, ◌≤◌, Bool, List, [], length}
use Rattle.tk_near.specs.Near.{NearLists, near_of}
use Rattle.tk_tour.specs.Counters.{saturated}
use Rattle.tk_descent.specs.Awake.{one_to}
use Rattle.tk_descent.specs.Machine.{ExecutionUnder}
use Rattle.tk_descent.specs.Offers.{everything}
use Rattle.tk_descent.specs.declared.offer.Offer.{Offer}
use Rattle.tk_descent.specs.declared.sweep.SweptReport.{SweptReport}

-- a descent from a tour with all cities awake, with its numbers of looks, moves and tests
abbrev pub PassUnder : (List ℕ → Offer → Bool) → (ℕ → ℕ → ℕ) → (ℕ → List ℕ) → ℕ → List ℕ → List ℕ → ℕ → ℕ → ℕ → Type 0
PassUnder may dist near m T C looks moves tests = ExecutionUnder may dist near m T (one_to (length T)) C [] looks moves
    tests

-- passes one after another from the tour T, each with a move, and the numbers of passes, looks, moves and tests
pub data MovingUnder (may : List ℕ → Offer → Bool) (dist : ℕ → ℕ → ℕ) (near : ℕ → List ℕ) (m : ℕ) (T : List ℕ) :
    List ℕ → ℕ → ℕ → ℕ → ℕ → Type 0 where
  start : MovingUnder may dist near m T T 0 0 0 0
  pass : {C D : List ℕ} {passes looks moves tests more made tried : ℕ} →
      MovingUnder may dist near m T C passes looks moves tests → PassUnder may dist near m C D more made tried →
      1 ≤ made → MovingUnder may dist near m T D (passes + 1) (saturated (looks + more)) (moves + made)
      (saturated (tests + tried))

-- passes one after another, each but the last with a move
pub record SweepsUnder (may : List ℕ → Offer → Bool) (dist : ℕ → ℕ → ℕ) (near : ℕ → List ℕ) (m : ℕ) (T D : List ℕ)
    (passes looks moves tests : ℕ) : Type 0 where
  pub tour : List ℕ
  pub moving : ℕ
  pub looked : ℕ
  pub more : ℕ
  pub tested : ℕ
  pub tried : ℕ
  pub chain : MovingUnder may dist near m T tour moving looked moves tested
  pub last : PassUnder may dist near m tour D more 0 tried
  pub passes_are : passes ≡ moving + 1
  pub looks_are : looks ≡ saturated (looked + more)
  pub tests_are : tests ≡ saturated (tested + tried)

-- passes with the numbers of looks, moves and tests of a report
abbrev pub AreSweepsUnder : (List ℕ → Offer → Bool) → (ℕ → ℕ → ℕ) → NearLists → ℕ → List ℕ → List ℕ → SweptReport →
    Type 0
AreSweepsUnder may dist near m T D report = SweepsUnder may dist (near_of near) m T D report.passes
    report.descent.looks report.descent.moves report.descent.tests

-- The TSP: every offer is allowed.
abbrev pub Pass : (ℕ → ℕ → ℕ) → (ℕ → List ℕ) → ℕ → List ℕ → List ℕ → ℕ → ℕ → ℕ → Type 0
Pass = PassUnder everything

abbrev pub Moving : (ℕ → ℕ → ℕ) → (ℕ → List ℕ) → ℕ → List ℕ → List ℕ → ℕ → ℕ → ℕ → ℕ → Type 0
Moving = MovingUnder everything

abbrev pub Sweeps : (ℕ → ℕ → ℕ) → (ℕ → List ℕ) → ℕ → List ℕ → List ℕ → ℕ → ℕ → ℕ → ℕ → Type 0
Sweeps = SweepsUnder everything

abbrev pub AreSweeps : (ℕ → ℕ → ℕ) → NearLists → ℕ → List ℕ → List ℕ → SweptReport → Type 0
AreSweeps = AreSweepsUnder everything
