-- The distance types of TSPLIB that a script of the examples converts to explicit weights.
use Rattle.std.specs.Prelude.{ℕ, Bool, ◌||◌, List, codes}
use Rattle.tk_words.specs.Words.{spells}

abbrev pub is_converted : List ℕ → Bool
is_converted word =
    spells word (codes "GEO")
    || spells word (codes "EUC_3D")
    || spells word (codes "MAX_3D")
    || spells word (codes "MAN_3D")
    || spells word (codes "XRAY1")
    || spells word (codes "XRAY2")
