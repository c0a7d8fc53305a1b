-- What callers see of a `Search`.
use Rattle.std.specs.Prelude.{ℕ}
use Rattle.tk_distance.specs.declared.metric.Metric.{Ghosts}
use Rattle.tk_near.specs.Near.{NearLists}
use Rattle.tk_search.specs.Searching.{Searching, searching}
use Rattle.tk_search.specs.declared.trials.descending.SearchRules.{SearchRules}
use Rattle.tk_search.specs.declared.trials.searching.Search.{Search}
use Rattle.tk_search.specs.declared.trials.any_state.AnyState.{AnyState}
use Rattle.tk_search.specs.declared.trials.any_state.AnyState.TheVariants.{Array, Segments}

-- a search, whichever store it has
abbrev pub stands_at : (ℕ → ℕ → ℕ) → NearLists → SearchRules → AnyState → Searching
stands_at distance near rules (Array state) = searching distance near rules state
stands_at distance near rules (Segments state) = searching distance near rules state

-- a search, whichever metric it has
abbrev pub search_of : {M : Type 0} → {m : Ghosts M} → Search M m → Searching
search_of {M} {m} s = stands_at (m.distance s.metric.now) s.near.now s.rules s.stand
