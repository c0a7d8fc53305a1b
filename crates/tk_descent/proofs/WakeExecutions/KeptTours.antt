-- Invariants of runs: a tour stays a tour, and the number of looks is bounded by the queue and the moves.
use Rattle.std.proofs.Common.{ℕ, ◌+◌, ◌*◌, ◌≤◌, List, ◌∷◌, length, refl, ◌∙◌, arith}
use Rattle.tk_tour.specs.Tour.{IsSizedTour}
use Rattle.tk_descent.specs.Offers.{everything}
use Rattle.tk_descent.specs.Machine.{Execution}
use Rattle.tk_descent.specs.Machine.ExecutionUnder.{start, asleep, move}
use Rattle.tk_descent.specs.Sweeps.{Moving, Sweeps}
use Rattle.tk_descent.specs.Sweeps.MovingUnder.{start as begin, pass}
use Rattle.tk_descent.specs.WakeMachine.{IsLocalOptimum, each_cycle}
use Rattle.tk_descent.proofs.MovesOnTours.Paths.{IsTable}
use Rattle.tk_descent.proofs.MovesOnTours.Rounds.{round_of}
use Rattle.tk_descent.proofs.MovesOnTours.Cities.{made_cities}
use Rattle.tk_descent.proofs.MovesOnTours.Steps.{HasSameCities}
use Rattle.tk_descent.proofs.WakeExecutions.DescentSteps.{queue_left}
use Rattle.tk_descent.proofs.WakeExecutions.Machines.{rules_nothing}
use Rattle.tk_descent.proofs.WakeExecutions.Passes.{pass_optimum}

made_tour : (C D : List ℕ) → HasSameCities C D → IsSizedTour C → IsSizedTour D
made_tour C D same t = (
  omega (arith, same.0, t.0),
  omega (arith, same.0, t.1),
  (refl, λ c low high. same.1 c ∙ t.2.1 c low (omega (arith, same.0, high))),
)

module _ (d : ℕ → ℕ → ℕ) (near : ℕ → List ℕ) (m : ℕ) (T : List ℕ) where
  -- a run from a tour ends with a tour
  run_tour : {W C V : List ℕ} {looks moves tests : ℕ} → Execution d near m T W C V looks moves tests → IsSizedTour T →
      IsSizedTour C
  run_tour start t = t
  run_tour (asleep r e) t = run_tour r t
  run_tour (move {C = C} {D = D} {o = o} r e made) t =
      made_tour C D (made_cities m o C D made) (run_tour r t)

  -- each look takes a city from the queue, and a move wakes at most six
  pub run_looks : {W C V : List ℕ} {looks moves tests : ℕ} → Execution d near m T W C V looks moves tests →
      looks + length V ≤ length W + 6 * moves
  run_looks start = omega arith
  run_looks (asleep r e) = omega (arith, run_looks r)
  run_looks (move {V = V} {x = x} {o = o} r e made) = omega (arith, run_looks r, queue_left (x ∷ V) V _ x o refl refl)

module _ (d : ℕ → ℕ → ℕ) (near : ℕ → List ℕ) (m : ℕ) (T : List ℕ) (sized : IsSizedTour T) where
  moving_tour : {C : List ℕ} {passes looks moves tests : ℕ} → Moving d near m T C passes looks moves tests →
      IsSizedTour C
  moving_tour begin = sized
  moving_tour (pass {C = C} chain last some) = run_tour d near m C last (moving_tour chain)

  -- passes, the last of which makes no move, end with a local optimum
  pub sweeps_optimum : {D : List ℕ} {passes looks moves tests : ℕ} → IsTable d → m ≤ 3 →
      Sweeps d near m T D passes looks moves tests → IsLocalOptimum d near m D
  sweeps_optimum {D} is small s =
      pass_optimum each_cycle everything d near m s.tour D s.more 0 s.tried rules_nothing is small
      (round_of s.tour (moving_tour s.chain)) tt s.last refl
