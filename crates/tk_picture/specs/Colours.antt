-- The colours of closed lines.
--     colour k      the colour of the closed line with this number, counted from 1
use Rattle.std.specs.Prelude.{ℕ, ◌-◌, ◌*◌, ◌%◌, nat_lt, List, [], ◌∷◌, ◌++◌, slice_index_or, min, codes, decimal}
use Rattle.std.specs.Prelude.{if◌then◌else◌}
use Rattle.tk_picture.specs.declared.colour.Colour.{Colour}

-- seven colours that people with any colour vision can distinguish, dark enough for numbers on white paper
abbrev pub first_colours : List (List ℕ)
first_colours = codes "#0072B2" ∷ codes "#C35050" ∷ codes "#786E00" ∷ codes "#78234B" ∷ codes "#050ABE"
    ∷ codes "#004100" ∷ codes "#000000" ∷ []

-- along three edges of a box of colours, which is 150 red, 110 green and 250 blue, so that all are dark enough for
-- white paper: beginning with red, green is added, red is removed, and blue is added
abbrev pub there : ℕ → Colour
there p = record { red = 150 - (p - 110); green = min p 110; blue = p - 260 }

-- the opposite point of the box
abbrev pub opposite : Colour → Colour
opposite c = record { red = 150 - c.red; green = 110 - c.green; blue = 250 - c.blue }

-- along these edges, and back along the opposite ones: 1,020 steps in all
abbrev pub colour_walk : ℕ → Colour
colour_walk p = if nat_lt p 510 then there p else opposite (there (p - 510))

-- after the first seven, each line is 389 steps after the one before, close to the golden section, so that neighbours
-- differ
abbrev pub place_on_walk : ℕ → ℕ
place_on_walk k = k % 1020 * 389 % 1020

abbrev pub rgb : Colour → List ℕ
rgb c = codes "rgb(" ++ decimal c.red ++ codes "," ++ decimal c.green ++ codes "," ++ decimal c.blue ++ codes ")"

abbrev pub colour : ℕ → List ℕ
colour k = if nat_lt k 8 then slice_index_or first_colours (k - 1) [] else rgb (colour_walk (place_on_walk k))
