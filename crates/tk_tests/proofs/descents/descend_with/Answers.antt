use Rattle.std.proofs.Common.{◌∙◌, ℕ, subst}
use Rattle.tk_descent.specs.EdgeCache.{AreTrueOf}
use Rattle.tk_tests.proofs.descents.descend_with.Goals as goal

pub returns : goal.returns
returns g c =
    let P : (ℕ → ℕ → ℕ) → Type 0 = λ distance. AreTrueOf distance c.into_cache.result in
    subst P (c.descend_awake-report.ensures.table ∙ c.with_cache-gains.ensures.table) c.into_cache.ensures.true_steps
