-- Runs of a descent: one way to run the wake machine.
use Rattle.std.specs.Prelude.{◌≡◌, ℕ, ◌+◌, Bool, List, ◌∷◌, Some, None}
use Rattle.tk_near.specs.Near.{NearLists, near_of}
use Rattle.tk_descent.specs.Offers.{offers, first_allowed, tests_until, everything, Makes, ends}
use Rattle.tk_descent.specs.Awake.{woken_each}
use Rattle.tk_descent.specs.declared.descent.Report.{Report}
use Rattle.tk_descent.specs.declared.offer.Offer.{Offer}

-- the move of the offer can be made on the cycle
abbrev pub IsOfferOn : ℕ → Offer → List ℕ → Type 0
IsOfferOn m o C = (D : List ℕ) × Makes m o C D

-- A run of a descent from the tour T and the queue W, with the numbers of looks, moves and tests so far. Each step
-- looks at the first city of the queue. On a cycle C, the offer o is allowed if `may C o` is true.
pub data ExecutionUnder (may : List ℕ → Offer → Bool) (dist : ℕ → ℕ → ℕ) (near : ℕ → List ℕ) (m : ℕ) (T W : List ℕ) :
    List ℕ → List ℕ → ℕ → ℕ → ℕ → Type 0 where
  start : ExecutionUnder may dist near m T W T W 0 0 0
  asleep : {C V : List ℕ} {x looks moves tests : ℕ} → ExecutionUnder may dist near m T W C (x ∷ V) looks moves tests →
      first_allowed dist (may C) (offers C m (near x) x) ≡ None →
      ExecutionUnder may dist near m T W C V (looks + 1) moves
      (tests + tests_until dist (may C) (offers C m (near x) x))
  move : {C V D : List ℕ} {x looks moves tests : ℕ} {o : Offer} →
      ExecutionUnder may dist near m T W C (x ∷ V) looks moves tests →
      first_allowed dist (may C) (offers C m (near x) x) ≡ Some o → Makes m o C D →
      ExecutionUnder may dist near m T W D (woken_each V (ends o)) (looks + 1) (moves + 1)
      (tests + tests_until dist (may C) (offers C m (near x) x))

-- a run of the TSP: every offer is allowed
abbrev pub Execution : (ℕ → ℕ → ℕ) → (ℕ → List ℕ) → ℕ → List ℕ → List ℕ → List ℕ → List ℕ → ℕ → ℕ → ℕ → Type 0
Execution = ExecutionUnder everything

-- a run with the numbers of looks, moves and tests of a report
abbrev pub IsExecutionUnder : (List ℕ → Offer → Bool) → (ℕ → ℕ → ℕ) → NearLists → ℕ → List ℕ → List ℕ → List ℕ → List ℕ
    →
    Report → Type 0
IsExecutionUnder may dist near m T W C V report =
    ExecutionUnder may dist (near_of near) m T W C V report.looks report.moves report.tests

abbrev pub IsExecution : (ℕ → ℕ → ℕ) → NearLists → ℕ → List ℕ → List ℕ → List ℕ → List ℕ → Report → Type 0
IsExecution = IsExecutionUnder everything
