-- The outcome of a check of a tour, under two names of the distances.
use Rattle.std.proofs.Common.{◌≡◌, ℕ, List, ap, ◌∙◌, subst, refl}
use Rattle.tk_problem_text.specs.ProblemOf.{problem_is}
use Rattle.tk_problem.specs.declared.problem.Problem.{Problem}
use Rattle.tk_distance.specs.Weights.{problem_distance}
use Rattle.tk_tour.specs.declared.verdict.Verdict.{Verdict}
use Rattle.tk_tour.specs.declared.verdict.Verdict.TheVariants.{Tour, WrongCount, OutOfRange, RepeatedCity}
use Rattle.tk_tour.specs.Verdict.{IsVerdict}
use Rattle.tk_engines.proofs.ReadTables.{read_distance_is}
use Rattle.tk_outcomes.specs.TourOutcomes.{outcome_of, verdict_in}
use Rattle.tk_engines.specs.Check.{IsTourOutcome}

verdict_back : (n : ℕ) (d : ℕ → ℕ → ℕ) (cities : List ℕ) (v : Verdict) → verdict_in (outcome_of n d cities v) ≡ v
verdict_back n d cities Tour = refl
verdict_back n d cities WrongCount = refl
verdict_back n d cities (OutOfRange p) = refl
verdict_back n d cities (RepeatedCity p) = refl

-- the outcome with a verdict on a list, by the contents of the texts
pub outcome_right : (p : Problem) (cities reported : List ℕ) (v : Verdict) → reported ≡ cities → IsVerdict p.n reported
    v
    → IsTourOutcome (problem_is p) cities (outcome_of p.n (problem_distance p.weights) reported v)
outcome_right p cities reported v is right =
    let back = verdict_back p.n (problem_distance p.weights) reported v in
    record {
      right = rw back (subst (λ l. IsVerdict p.n l v) is right);
      numbers = rw back (ap (λ l. outcome_of p.n (problem_distance p.weights) l v) is
          ∙ ap (λ d. outcome_of p.n d cities v) (read_distance_is p.weights));
    }
