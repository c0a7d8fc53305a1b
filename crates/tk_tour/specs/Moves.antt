-- Moves of a tour: edges of the cycle are replaced by others.
--     TwoOptMove old new a b c d      a-b and c-d become a-c and b-d (G. A. Croes, 1958)
--     OrMove m old new a x e b y w      the segment from x to e moves to between y and w (I. Or, 1976)
--     IsBridged old new a1 an b1 bn c1 cn d1 dn      the double bridge (O. Martin, S. W. Otto and E. W. Felten, 1991)
--     ReplacesSteps old new a b c d      the guarantee of a flip: the 2-opt move, at every cut at a-b and c-d
--     CanFlip cities a b c d      a flip of a-b and c-d is allowed
use Rattle.std.specs.Prelude.{◌≡◌, ◌≢◌, ℕ, ◌*◌, ◌<◌, ◌≤◌, ◌⊎◌, List, ◌++◌, length, min, reverse, slice_index}
use Rattle.tk_distance.specs.Cities.{IsCity}
use Rattle.tk_tour.specs.Reversal.{reversed_places}
use Rattle.tk_tour.specs.Tour.{SameCycle, IsPath, next_city, prev_city}

-- a and c are two cities, and b and d come right after them, or right before them
pub record CanFlip (cities : List ℕ) (a b c d : ℕ) : Type 0 where
  pub a_in : IsCity (length cities) a
  pub c_in : IsCity (length cities) c
  pub apart : a ≢ c
  pub steps : ((b ≡ next_city cities a) × (d ≡ next_city cities c))
      ⊎ ((b ≡ prev_city cities a) × (d ≡ prev_city cities c))

-- a and c are two cities, and b and d come right after them
pub record AreForward (cities : List ℕ) (a b c d : ℕ) : Type 0 where
  pub a_in : IsCity (length cities) a
  pub c_in : IsCity (length cities) c
  pub apart : a ≢ c
  pub b_after : b ≡ next_city cities a
  pub d_after : d ≡ next_city cities c

-- The 2-opt move of G. A. Croes (1958). The cycle is a path from d to a and one from b to c, so it has the edges a-b
-- and c-d. The second path is reversed, so a-c and b-d replace these edges.
pub record TwoOptMove (old new : List ℕ) (a b c d : ℕ) : Type 0 where
  pub kept : List ℕ
  pub turned : List ℕ
  pub is_kept : IsPath d kept a
  pub is_turned : IsPath b turned c
  pub before : SameCycle old (kept ++ turned)
  pub after : SameCycle new (kept ++ reverse turned)

-- for every cut of old into a path from d to a and one from b to c, new is the first and the reverse of the second
abbrev pub ReplacesSteps : List ℕ → List ℕ → ℕ → ℕ → ℕ → ℕ → Type 0
ReplacesSteps old new a b c d =
    (front back : List ℕ) → IsPath d front a → IsPath b back c → SameCycle old (front ++ back) →
    SameCycle new (front ++ reverse back)

-- `count` is the number of cities on the shorter side of the cut at the edges a-b and c-d
abbrev pub IsShorterSide : List ℕ → ℕ → ℕ → ℕ → ℕ → ℕ → Type 0
IsShorterSide cities count a b c d =
    (front back : List ℕ) → IsPath d front a → IsPath b back c → SameCycle cities (front ++ back) →
    count ≡ min (length front) (length back)

-- reversing `count` positions from `first` on, counted from 0, reverses the shorter side
pub record TurnsShorterSide (cities : List ℕ) (first count a b c d : ℕ) : Type 0 where
  pub steps : ReplacesSteps cities (reversed_places first count cities) a b c d
  pub within : first < length cities
  pub side : IsShorterSide cities count a b c d
  pub shorter : 2 * count ≤ length cities

-- The inner side of a cut at the edges a-b and c-d begins at the position `first`, counted from 0. It is the path from
-- b to c without a. In the list, it goes from c to b if b is the city before a.
abbrev pub BeginsInside : List ℕ → ℕ → ℕ → ℕ → ℕ → Type 0
BeginsInside cities first a b c =
    ((b ≡ next_city cities a) × (slice_index cities first ≡ b))
    ⊎ ((b ≡ prev_city cities a) × (slice_index cities first ≡ c))

-- The Or-opt move of I. Or (1976). A segment of at most m cities runs from x to e, with a before it and b after it. It
-- moves to between y and w, reversed or not: the edges a-b, x-y and e-w replace a-x, e-b and y-w.
pub record OrMove (m : ℕ) (old new : List ℕ) (a x e b y w : ℕ) : Type 0 where
  pub segment : List ℕ
  pub ahead : List ℕ
  pub rest : List ℕ
  pub short : length segment ≤ m
  pub is_segment : IsPath x segment e
  pub before : SameCycle old (segment ++ ahead ++ rest)
  pub after :
      (IsPath b ahead y × IsPath w rest a × SameCycle new (ahead ++ segment ++ rest))
      ⊎ (IsPath b ahead w × IsPath y rest a × SameCycle new (ahead ++ reverse segment ++ rest))

-- the cycle is cut into a segment from x to e, a path from b to c and one from d to a
pub record CutInThree (cities : List ℕ) (a x e b c d : ℕ) : Type 0 where
  pub segment : List ℕ
  pub ahead : List ℕ
  pub rest : List ℕ
  pub is_segment : IsPath x segment e
  pub is_ahead : IsPath b ahead c
  pub is_rest : IsPath d rest a
  pub cycle : SameCycle cities (segment ++ ahead ++ rest)

-- for every such cut of old, the segment lies between c and d in new: in its direction, or reversed
abbrev pub MovesStraight : List ℕ → List ℕ → ℕ → ℕ → ℕ → ℕ → ℕ → ℕ → Type 0
MovesStraight old new a x e b c d =
    (cut : CutInThree old a x e b c d) → SameCycle new (cut.ahead ++ cut.segment ++ cut.rest)

abbrev pub MovesReversed : List ℕ → List ℕ → ℕ → ℕ → ℕ → ℕ → ℕ → ℕ → Type 0
MovesReversed old new a x e b c d =
    (cut : CutInThree old a x e b c d) → SameCycle new (cut.ahead ++ reverse cut.segment ++ cut.rest)

-- the cycle is cut into four paths with these ends
pub record CutInFour (cities : List ℕ) (a1 an b1 bn c1 cn d1 dn : ℕ) : Type 0 where
  pub a : List ℕ
  pub b : List ℕ
  pub c : List ℕ
  pub d : List ℕ
  pub is_a : IsPath a1 a an
  pub is_b : IsPath b1 b bn
  pub is_c : IsPath c1 c cn
  pub is_d : IsPath d1 d dn
  pub cycle : SameCycle cities (a ++ b ++ c ++ d)

-- The double bridge of O. Martin, S. W. Otto and E. W. Felten (1991): for every such cut of old, the second and the
-- fourth path are swapped.
abbrev pub IsBridged : List ℕ → List ℕ → ℕ → ℕ → ℕ → ℕ → ℕ → ℕ → ℕ → ℕ → Type 0
IsBridged old new a1 an b1 bn c1 cn d1 dn =
    (cut : CutInFour old a1 an b1 bn c1 cn d1 dn) → SameCycle new (cut.a ++ cut.d ++ cut.c ++ cut.b)
