-- The ring after the move of an offer, as a list.
use Rattle.std.specs.Prelude.{ℕ, List, [], ◌∷◌, ◌++◌, ◌==◌, if◌then◌else◌, reverse}
use Rattle.tk_distance.specs.Holding.{holds}
use Rattle.tk_tour.specs.Tour.{next_city}
use Rattle.tk_descent.specs.declared.offer.Offer.{Offer}
use Rattle.tk_descent.specs.declared.offer.Offer.TheVariants.{Two, Or}

-- a list up to a city, what comes after it, and what comes before it
abbrev pub until : ℕ → List ℕ → List ℕ
until c [] = []
until c (x ∷ xs) = if x == c then x ∷ [] else x ∷ until c xs

abbrev pub beyond : ℕ → List ℕ → List ℕ
beyond c [] = []
beyond c (x ∷ xs) = if x == c then xs else beyond c xs

abbrev pub before : ℕ → List ℕ → List ℕ
before c [] = []
before c (x ∷ xs) = if x == c then [] else x ∷ before c xs

-- the ring from b on, such that a is the last
abbrev pub begun_at : ℕ → List ℕ → List ℕ
begun_at b ring = (b ∷ beyond b ring) ++ before b ring

abbrev pub seen : ℕ → ℕ → List ℕ → List ℕ
seen a b ring = if next_city ring a == b then begun_at b ring else begun_at b (reverse ring)

-- the path up to c turned round, after the others
abbrev pub after_two : ℕ → List ℕ → List ℕ
after_two c ring = beyond c ring ++ reverse (until c ring)

-- the segment between y and w
abbrev pub moved_between : ℕ → ℕ → List ℕ → List ℕ → List ℕ
moved_between y w segment others =
    if holds (beyond y others) w then until y others ++ segment ++ beyond y others
    else until w others ++ reverse segment ++ beyond w others

abbrev pub after : List ℕ → Offer → List ℕ
after ring (Two a b c d) = after_two c (seen a b ring)
after ring (Or a x e b y w) = moved_between y w (until e (seen a x ring)) (beyond e (seen a x ring))
