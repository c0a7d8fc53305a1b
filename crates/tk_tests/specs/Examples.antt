-- Tables of examples, by which definitions are tested: the prover computes each row.
use Rattle.std.specs.Prelude.{◌≡◌, List, map}

-- a function returns the value that the table has next to each of its arguments
abbrev pub HasTable : {A B : Type 0} → (A → B) → List (A × B) → Type 0
HasTable f rows = map (λ row. f row.0) rows ≡ map (λ row. row.1) rows
