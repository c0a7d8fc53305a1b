-- The best ring of a search.
use Rattle.std.specs.Prelude.{ℕ, List}
use Rattle.tk_ring_search.specs.declared.trials.best.Best.{Best}

-- the elements in their order
abbrev pub best_of : Best → List ℕ
best_of best = best.elements.items
