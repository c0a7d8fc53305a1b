-- The best tour of a search.
use Rattle.std.specs.Prelude.{ℕ, List}
use Rattle.tk_search.specs.declared.trials.best.Best.{Best}

-- the cities in tour order
abbrev pub best_of : Best → List ℕ
best_of best = best.cities.items

-- how many cities have been copied to it
abbrev pub copied_to : Best → ℕ
copied_to best = best.copied
