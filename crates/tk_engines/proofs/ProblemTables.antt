-- The table of a problem has the distances that its text says.
use Rattle.std.proofs.Common.{◌≡◌, ℕ, ◌-◌, ◌≤◌, min, Option, Some, None, ap, ◌∙◌, subst, arith, pos}
use Rattle.std.proofs.lemmas.Bool.{le-ltb}
use Rattle.std.specs.Prelude.{Bool, if◌then◌else◌}
use Rattle.tk_problem.specs.declared.limits.TheConstants.{TABLE_LIMIT}
use Rattle.tk_near.specs.Near.{NearLists, AreNearest, AreNearLists}
use Rattle.tk_distance.specs.Cities.{IsCity}
use Rattle.tk_distance.specs.Tables.{table_size, table_distance, table_distance-swap, table_distance-limit}
use Rattle.tk_distance.specs.Weights.{problem_distance}
use Rattle.tk_distance.specs.declared.table.Table.{Table}
use Rattle.tk_problem.specs.declared.problem.Problem.{Problem}
use Rattle.tk_problem_text.specs.ProblemOf.{problem_is, weights_are}
use Rattle.tk_problem_text.specs.Problem.{ProblemIs}
use Rattle.tk_writers.specs.MatrixText.{GivesTable}
use Rattle.tk_writers.specs.ReadBack.{IsTable}
use Rattle.tk_engines.proofs.ReadTables.{distances_read}
use Rattle.tk_engines.specs.MatrixOf.{too_large}
use Rattle.tk_engines.specs.NearText.{IsNearOf}
use Rattle.tk_engines.specs.ReadProblems.{read_distance}
use Rattle.tk_engines.specs.declared.fault.Fault.{Fault}
use Rattle.tk_engines.specs.declared.fault.Fault.TheVariants.{TooLarge}

-- the distances of a table are weights that a problem can have
pub IsTable-table : (t : Table) (n : ℕ) (d : ℕ → ℕ → ℕ) → table_distance t ≡ d → IsTable n d
IsTable-table t n d same = subst (IsTable n) same (record {
  symmetric = λ a b _ _ _ _. table_distance-swap t a b;
  weights = λ a b _ _ _ _ _. omega (arith, table_distance-limit t a b);
  diagonal = λ a _ _. omega (arith, table_distance-limit t a a);
})

-- a matrix by a table takes the distances that the text says
pub GivesTable-table : (t : Table) (p : Problem) → table_size t ≡ p.n
    → ((a b : ℕ) → table_distance t a b ≡ problem_distance p.weights a b)
    → GivesTable (λ a b. IsCity (table_size t) a × IsCity (table_size t) b)
    (λ a b r. r ≡ pos (table_distance t a b)) p.n (read_distance (weights_are p.weights))
GivesTable-table t p size is = record {
  calls = λ a b a-low a-high b-low b-high. ((a-low, omega (arith, size)), (b-low, omega (arith, size)));
  gives = λ a b r _ _ _ _ h. h ∙ ap (λ d. pos (d a b)) (distances_read (table_distance t) p.weights is);
}

pub IsNearOf-table : (t : Table) (p : Problem) (k width : ℕ) (v : NearLists) → table_size t ≡ p.n
    → ((a b : ℕ) → table_distance t a b ≡ problem_distance p.weights a b) → width ≡ min k (p.n - 1)
    → AreNearLists (table_distance t) (table_size t) width v → IsNearOf (problem_is p) k v
IsNearOf-table t p k width v same is most lists = record {
  size = lists.size ∙ same;
  width = lists.width ∙ most;
  near = subst (λ (d : ℕ → ℕ → ℕ). AreNearest d v) (distances_read (table_distance t) p.weights is) lists.near;
}

abbrev large_by : Bool → Option Fault
large_by b = if b then Some TooLarge else None

-- a problem of at most 5,000 nodes is not too large
pub is_not_too_large : (p : ProblemIs) → p.n ≤ TABLE_LIMIT → too_large p ≡ None
is_not_too_large p few = ap large_by (le-ltb TABLE_LIMIT p.n few)
