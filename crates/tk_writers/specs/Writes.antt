-- The result of one write.
use Rattle.std.specs.Prelude.{ℕ, zero, suc, Bool, true, false, List, [], ◌∷◌, Result, Ok, Err}

-- a write fails if it returns an error, or if it takes no byte of a piece that is not empty
abbrev pub write_fails : {E : Type 0} → Result ℕ E → List ℕ → Bool
write_fails (Ok zero) [] = false
write_fails (Ok zero) (b ∷ bs) = true
write_fails (Ok (suc n)) piece = false
write_fails (Err e) piece = true
