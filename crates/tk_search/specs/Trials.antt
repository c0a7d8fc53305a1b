-- The trials of a search (iterated local search: O. Martin, S. W. Otto and E. W. Felten, 1991).
use Rattle.std.specs.Prelude.{◌≡◌, ℕ, ◌+◌, ◌*◌, ◌/◌, ◌<◌, ◌≤◌, ◌↔◌, Bool, List, length, map, pos, ◌-ℤ◌, IsTrue, true}
use Rattle.std.specs.Prelude.{false}
use Rattle.std.specs.Int.RustNames.{unsigned_abs}
use Rattle.rand_core.specs.Stream.{Stream}
use Rattle.tk_distance.specs.Cities.{city_at}
use Rattle.tk_tour.specs.Reversal.{AreReversed}
use Rattle.tk_tour.specs.Tour.{SameCycle, tour_length}
use Rattle.tk_descent.specs.Awake.{one_to, woken_each}
use Rattle.tk_search.specs.Cuts.{AreCuts, bridged, drawn_cuts, end_places}
use Rattle.tk_search.specs.Descents.{Descends}
use Rattle.tk_search.specs.declared.double_bridges.cuts.Cuts.{Cuts}
use Rattle.tk_search.specs.declared.trials.descending.SearchRules.{SearchRules}
use Rattle.tk_search.specs.declared.trials.totals.TrialReport.{TrialReport}

-- by how much its descent shortened the tour
abbrev pub gain_of : TrialReport → ℕ
gain_of report = unsigned_abs (report.descent.before -ℤ report.descent.after)

-- A descent from a tour, with some cities awake, by at most three flips for each move. If its result is strictly
-- shorter than the best tour, it becomes the best; otherwise the best stays, entry for entry.
pub record IsTrial (dist : ℕ → ℕ → ℕ) (near : ℕ → List ℕ) (rules : SearchRules) (from awake best new : List ℕ)
    (report : TrialReport) : Type 0 where
  pub found : List ℕ
  pub descends : Descends dist near rules from awake found report.passes report.descent.looks report.descent.moves
      report.descent.tests
  pub flips : ℕ
  pub swaps : ℕ
  pub few : flips ≤ 3 * report.descent.moves
  pub reversed : AreReversed from found flips swaps
  pub before : report.descent.before ≡ pos (tour_length dist from)
  pub after : report.descent.after ≡ pos (tour_length dist found)
  pub better : IsTrue report.better ↔ (tour_length dist found < tour_length dist best)
  pub replaced : report.better ≡ true → new ≡ found
  pub kept : report.better ≡ false → new ≡ best

-- The bounds on the work of a trial on n cities, whose descent began with at most `awake` cities awake. Each near list
-- has `width` entries.
pub record IsBoundedTrial (n width awake : ℕ) (rules : SearchRules) (report : TrialReport) : Type 0 where
  pub moves : report.descent.moves ≤ gain_of report
  pub swaps : report.descent.swaps ≤ 3 * (n / 4) * report.descent.moves
  pub passes : report.passes ≤ report.descent.moves + 1
  pub looks : rules.sweep ≡ false → report.descent.looks ≤ awake + 6 * report.descent.moves
  pub tests : rules.sweep ≡ false →
      report.descent.tests ≤ 4 * rules.or_segment * width * (awake + 6 * report.descent.moves)
  pub swept_looks : rules.sweep ≡ true → report.descent.looks ≤ n * report.passes + 6 * report.descent.moves
  pub swept_tests : rules.sweep ≡ true →
      report.descent.tests ≤ 4 * rules.or_segment * width * (n * report.passes + 6 * report.descent.moves)

-- A kick of the tour `best` to the tour `kicked`: the double bridge at cuts drawn from the random stream. It wakes the
-- first and the last city of each part or, if descents are swept, all cities.
pub record IsKick (best : List ℕ) (words : Stream) (sweep : Bool) (asleep kicked : List ℕ) (rest : Stream)
    (awake : List ℕ) : Type 0 where
  pub cuts : Cuts
  pub are : AreCuts (length best) cuts
  pub drawn : (cuts, rest) ≡ drawn_cuts (length best) words
  pub bridge : SameCycle kicked (bridged cuts best)
  pub swept : sweep ≡ true → awake ≡ woken_each asleep (one_to (length best))
  pub ends : sweep ≡ false → awake ≡ woken_each asleep (map (city_at best) (end_places (length best) cuts))
