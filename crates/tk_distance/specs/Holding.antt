-- The cities that a list contains.
use Rattle.std.specs.Prelude.{◌≡◌, ℕ, Bool, false, ◌||◌, List, [], ◌∷◌, ◌==◌}

-- whether c occurs in the list
abbrev pub holds : List ℕ → ℕ → Bool
holds [] c = false
holds (b ∷ xs) c = (b == c) || holds xs c

-- no city occurs twice in the list
abbrev pub IsDistinct : List ℕ → Type 0
IsDistinct [] = Unit {0}
IsDistinct (b ∷ xs) = (holds xs b ≡ false) × IsDistinct xs
