-- What callers see of a `RingSearch`.
use Rattle.tk_distance.specs.declared.metric.Metric.{Ghosts}
use Rattle.tk_tour.specs.declared.store.TourStore as stores
use Rattle.tk_tour.specs.declared.undo.UndoStore as undo
use Rattle.tk_ring_search.specs.Given.{given_of}
use Rattle.tk_ring_search.specs.Searching.{RingSearching, searching}
use Rattle.tk_ring_search.specs.declared.trials.searching.RingSearch.{RingSearch}

abbrev pub search_of : {S M : Type 0} → {m : Ghosts M} → {u : undo.Ghosts S} → {s : stores.Ghosts S} →
    RingSearch S M u s m → RingSearching
search_of {S} {M} {m} search = searching (given_of m search.terms) search.state
