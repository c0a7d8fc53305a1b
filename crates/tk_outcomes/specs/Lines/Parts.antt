-- Parts that several lines have, and lists of lines.
use Rattle.std.specs.Prelude.{ℕ, ◌+◌, List, [], ◌∷◌, ◌++◌, codes, decimal}

-- the counts of moves, tests and swaps of descents
abbrev pub work_of : ℕ → ℕ → ℕ → List ℕ
work_of moves tests swaps =
    codes ", moves " ++ decimal moves ++ codes ", tests " ++ decimal tests ++ codes ", swaps " ++ decimal swaps

-- the lines of the elements of a list, numbered from this number
abbrev pub numbered : {X : Type 0} → (ℕ → X → List ℕ) → ℕ → List X → List ℕ
numbered line_of number [] = []
numbered line_of number (x ∷ xs) = line_of number x ++ numbered line_of (number + 1) xs
