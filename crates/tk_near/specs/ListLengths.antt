use Rattle.std.specs.Prelude.{◌≤◌, ℕ}
use Rattle.tk_problem.specs.declared.limits.TheConstants.{CANDIDATE_LIMIT}

-- a near list can have this length
abbrev pub IsListLength : ℕ → Type 0
IsListLength cities = (1 ≤ cities) × (cities ≤ CANDIDATE_LIMIT)
