-- The events that an observer of a search for routes is shown.
--     AreShown is_new k best better      the routes of the best ring, if they are new
--     IsReported shows k progress best is_new old new      an observer was shown a trial
--     trial_event task j t cost search better      the event of trial t of run j
--     AreShownRoutes i event      routes that are shown are valid
--     GoesOn event      it is not the answer no
--     IsUnobserved old event new      the effect of an event on an observer that does nothing and never says no
--     WereShown shows old new shown      an observer was shown these events, one after another, and no others
use Rattle.std.specs.Prelude.{◌≡◌, ℕ, ℤ, ◌+◌, Bool, true, false, List, [], ◌∷◌, ◌++◌, Option, Some, None}
use Rattle.std.specs.Prelude.{IsSomeAnd, pos}
use Rattle.tk_tour.specs.Tour.{tour_length}
use Rattle.tk_rings.specs.RingRoutes.{AreRoutesOf}
use Rattle.tk_routes.specs.Instance.{Instance}
use Rattle.tk_routes.specs.Routes.{AreRoutes, routes_cost}
use Rattle.tk_ring_search.specs.Searching.{RingSearching}
use Rattle.tk_route_search.specs.Events.{Event, Begun, Tried, Ended, Asked}
use Rattle.tk_route_search.specs.Tasks.{RouteTask}
use Rattle.tk_route_search.specs.declared.watch.RouteProgress.{RouteProgress}

-- the routes of the best ring, with k customers, if they are new
abbrev pub AreShown : Bool → ℕ → List ℕ → Option (List (List ℕ)) → Type 0
AreShown true k best better = IsSomeAnd better (AreRoutesOf k best)
AreShown false k best better = better ≡ None

-- An observer was shown a trial, with the routes of the best ring if they are new; `shows` is the effect of an event on
-- it.
pub record IsReported {W : Type 0} (shows : W → Event → W → Type 0) (k : ℕ) (progress : RouteProgress) (best : List ℕ)
    (is_new : Bool) (old new : W) : Type 0 where
  pub better : Option (List (List ℕ))
  pub routes : AreShown is_new k best better
  pub shown : shows old (Tried progress better) new

-- the event of trial t of run j, which is counted from 0; trial 0 is the first descent
abbrev pub trial_event : RouteTask → ℕ → ℕ → ℤ → RingSearching → Option (List (List ℕ)) → Event
trial_event task j t cost search better =
    Tried (record {
      run = j + 1;
      runs = task.runs;
      trial = t;
      trials = task.trials;
      cost = cost;
      best = pos (tour_length search.given.distance search.best);
    }) better

-- routes that are shown are valid, and have the best cost that is shown with them
abbrev pub AreShownRoutes : Instance → Event → Type 0
AreShownRoutes i (Begun name) = Unit {0}
AreShownRoutes i (Tried progress None) = Unit {0}
AreShownRoutes i (Tried progress (Some routes)) = AreRoutes i routes × (progress.best ≡ pos (routes_cost i routes))
AreShownRoutes i (Ended run report) = Unit {0}
AreShownRoutes i (Asked goes_on) = Unit {0}

-- an event that is not the answer no
abbrev pub GoesOn : Event → Type 0
GoesOn (Begun name) = Unit {0}
GoesOn (Tried progress better) = Unit {0}
GoesOn (Ended run report) = Unit {0}
GoesOn (Asked goes_on) = goes_on ≡ true

-- the effect of an event on an observer that does nothing and never says no
abbrev pub IsUnobserved : {W : Type 0} → W → Event → W → Type 0
IsUnobserved old event new = (new ≡ old) × GoesOn event

-- an observer was shown these events, one after another, and no others
pub data WereShown {W : Type 0} (shows : W → Event → W → Type 0) (old : W) : W → List Event → Type 0 where
  nothing : WereShown shows old old []
  next : {shown : List Event} {event : Event} {now new : W} → WereShown shows old now shown →
      shows now event new → WereShown shows old new (shown ++ event ∷ [])
