use Rattle.std.proofs.Common.{◌≡◌, ◌+◌, ◌++◌, take, drop}
use Rattle.tk_near.specs.Keeping.{cities_kept}
use Rattle.tk_near.proofs.candidates.write_cities.Given as goal

abbrev pub invariant-loop-i : goal.invariant-loop-i
invariant-loop-i l = l.entries ≡ take l.from l.fn.entries ++ cities_kept (take l.i l.kept)
    ++ drop (l.from + l.i) l.fn.entries
