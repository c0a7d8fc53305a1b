-- The descents of a search.
use Rattle.std.specs.Prelude.{◌≡◌, ℕ, ◌*◌, List, [], length, true, false, if◌then◌else◌}
use Rattle.tk_near.specs.Near.{NearLists}
use Rattle.tk_descent.specs.Descents.{DescentInput}
use Rattle.tk_descent.specs.Machine.{Execution}
use Rattle.tk_descent.specs.Sweeps.{Sweeps}
use Rattle.tk_search.specs.declared.trials.descending.SearchRules.{SearchRules}

-- Descents by the rules, from the tour T to the tour D: if they are swept, with all cities awake until one makes no
-- move; otherwise one descent with W awake.
pub record Descends (dist : ℕ → ℕ → ℕ) (near : ℕ → List ℕ) (rules : SearchRules) (T W D : List ℕ)
    (passes looks moves tests : ℕ) : Type 0 where
  pub swept : rules.sweep ≡ true → Sweeps dist near rules.or_segment T D passes looks moves tests
  pub once : rules.sweep ≡ false → Execution dist near rules.or_segment T W D [] looks moves tests × (passes ≡ 1)

-- the input of the descents of a search
abbrev pub terms : (ℕ → ℕ → ℕ) → NearLists → SearchRules → DescentInput
terms dist near rules = record { distance = dist; near = near; or_segment = rules.or_segment }

-- how many looks descents on n cities begin with: at each city in each pass if they are swept, otherwise at the cities
-- that are awake
abbrev pub looks_at_first : SearchRules → ℕ → List ℕ → ℕ → ℕ
looks_at_first rules n awake passes = if rules.sweep then n * passes else length awake
