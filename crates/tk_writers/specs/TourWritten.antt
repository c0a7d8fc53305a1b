-- The text of a tour (G. Reinelt, "TSPLIB 95").
use Rattle.std.specs.Prelude.{ℕ, List, [], ◌∷◌, ◌++◌, codes, decimal, flat_map, length}
use Rattle.tk_writers.specs.Written.{line}

-- the head of a tour text, which names the tour after its instance and its length
abbrev pub tour_head : List ℕ → ℕ → ℕ → List (List ℕ)
tour_head name size cities =
    (codes "NAME : " ++ name ++ codes "." ++ decimal size ++ codes ".tour")
    ∷ (codes "COMMENT : Length = " ++ decimal size)
    ∷ codes "TYPE : TOUR"
    ∷ (codes "DIMENSION : " ++ decimal cities)
    ∷ codes "TOUR_SECTION" ∷ []

abbrev pub tour_text : List ℕ → ℕ → List ℕ → List ℕ
tour_text name size cities =
    flat_map line (tour_head name size (length cities))
    ++ flat_map (λ c. line (decimal c)) cities
    ++ flat_map line (codes "-1" ∷ codes "EOF" ∷ [])
