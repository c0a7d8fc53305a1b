-- The state of the reader of explicit weights.
use Rattle.std.specs.Prelude.{Vec, ◌≡◌, ◌≤◌, ℕ, List}
use Rattle.std.specs.declared.alloc.Global.{Global}
use Rattle.tk_problem.specs.declared.weights.Weights.TheVariants as weights
use Rattle.tk_problem.specs.Shape.{WeightsFit}
use Rattle.tk_problem_text.specs.Sections.WeightSection.{lower_weights, weights_in}
use Rattle.tk_problem.specs.declared.limits.TheConstants.{TABLE_LIMIT}
use Rattle.tk_problem_text.specs.declared.sections.explicit_weights.ExplicitWeights.{ExplicitWeights}
use Rattle.tk_problem.specs.declared.weights.Format.{Format}
use Rattle.tk_words.specs.Lex.{Token}
use Rattle.tk_problem.specs.WeightsSoFar.{IsSoFar}

-- the reader has taken these tokens of a format, for at most 5,000 cities
pub record HasWeights (n : ℕ) (f : Format) (s : ExplicitWeights) (toks : List Token) : Type 0 where
  pub few : n ≤ TABLE_LIMIT
  pub format : s.format ≡ f
  pub so_far : IsSoFar s.lower f n (weights_in toks)

-- the lower triangle that the tokens describe
abbrev pub GivesLower : ExplicitWeights → Vec ℕ Global → Type 0
GivesLower s lower =
    (n : ℕ) (f : Format) (toks : List Token) → HasWeights n f s toks → (lower.items ≡ lower_weights n f toks)
    × WeightsFit n (weights.Lower lower)
