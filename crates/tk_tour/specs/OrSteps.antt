-- The parts of an Or-opt move, each of which is a 2-opt move. The cycle is cut into a segment from x to e, a path from
-- b to c ahead of it, and the rest, from d to a.
use Rattle.std.specs.Prelude.{ℕ, List, ◌++◌, reverse}
use Rattle.tk_tour.specs.Moves.{CutInThree, TwoOptMove}

-- first, the segment and the path ahead of it are reversed together
abbrev pub TurnsBoth : Type 0
TurnsBoth =
    (cities : List ℕ) (a x e b c d : ℕ) (cut : CutInThree cities a x e b c d) →
    TwoOptMove cities (cut.rest ++ reverse (cut.segment ++ cut.ahead)) a x c d

-- then, the path is reversed back, so the segment comes after it, reversed
abbrev pub TurnsPathBack : Type 0
TurnsPathBack =
    (cities : List ℕ) (a x e b c d : ℕ) (cut : CutInThree cities a x e b c d) →
    TwoOptMove (cut.rest ++ reverse (cut.segment ++ cut.ahead)) (cut.ahead ++ reverse cut.segment ++ cut.rest) a c b e

-- last, the segment is reversed back if it keeps its direction
abbrev pub TurnsSegmentBack : Type 0
TurnsSegmentBack =
    (cities : List ℕ) (a x e b c d : ℕ) (cut : CutInThree cities a x e b c d) →
    TwoOptMove (cut.ahead ++ reverse cut.segment ++ cut.rest) (cut.ahead ++ cut.segment ++ cut.rest) c e x d
