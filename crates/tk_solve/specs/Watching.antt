-- The events that an observer of a search is shown.
--     trial_event task j t length search      the event of trial t of run j, both counted from 0
--     IsShownTour task event      a tour that is shown is a tour of the cities, with its length
--     GoesOn event      it is not the answer no
--     IsUnobserved old event new      the effect of an event on an observer that does nothing and never says no
--     WereShown shows old new shown      an observer was shown these events, one after another, and no others
use Rattle.std.specs.Prelude.{◌≡◌, ℕ, ℤ, ◌+◌, true, List, [], ◌∷◌, ◌++◌, pos}
use Rattle.tk_tour.specs.Tour.{IsTour, tour_length}
use Rattle.tk_search.specs.Searching.{Searching}
use Rattle.tk_solve.specs.Events.{Event, Begun, Tried, Ended, Asked}
use Rattle.tk_solve.specs.Starts.{TourTask, trials_of}

-- the event of trial t of run j, both counted from 0: the length of the tour that it ended with, and the best tour of
-- the search after it, with its length
abbrev pub trial_event : TourTask → ℕ → ℕ → ℤ → Searching → Event
trial_event task j t length search =
    Tried (record {
      run = j + 1;
      runs = task.runs;
      trial = t + 1;
      trials = trials_of task;
      length = length;
      best = pos (tour_length task.distance search.best);
    }) search.best

-- a tour that is shown with a trial is a tour of the cities, and its length is the one shown with it
abbrev pub IsShownTour : TourTask → Event → Type 0
IsShownTour task (Begun name) = Unit {0}
IsShownTour task (Tried progress best) =
    IsTour task.size best × (progress.best ≡ pos (tour_length task.distance best))
IsShownTour task (Ended run report) = Unit {0}
IsShownTour task (Asked goes_on) = Unit {0}

-- an event that is not the answer no
abbrev pub GoesOn : Event → Type 0
GoesOn (Begun name) = Unit {0}
GoesOn (Tried progress best) = Unit {0}
GoesOn (Ended run report) = Unit {0}
GoesOn (Asked goes_on) = goes_on ≡ true

-- the effect of an event on an observer that does nothing and never says no
abbrev pub IsUnobserved : {W : Type 0} → W → Event → W → Type 0
IsUnobserved old event new = (new ≡ old) × GoesOn event

-- an observer was shown these events, one after another, and no others; `shows` is the effect of an event on it
pub data WereShown {W : Type 0} (shows : W → Event → W → Type 0) (old : W) : W → List Event → Type 0 where
  nothing : WereShown shows old old []
  next : {shown : List Event} {event : Event} {now new : W} → WereShown shows old now shown →
      shows now event new → WereShown shows old new (shown ++ event ∷ [])
