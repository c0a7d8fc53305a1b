-- What becomes of the result of a trial: record-to-record travel (G. Dueck, 1993).
--     slack_of best made trials      by how much a result that is kept may be longer than the best ring
--     IsSettled dist limit slots flips ring best found outcome      what becomes of a ring that a trial found
--     IsJudged, Settles      the same by costs, and by rings
use Rattle.std.specs.Prelude.{◌≡◌, ℕ, ◌+◌, ◌-◌, ◌*◌, ◌/◌, ◌<◌, ◌≤◌, ◌⊎◌, ℤ, ◌<ℤ◌, ◌≤ℤ◌, Bool, true, false, List}
use Rattle.tk_tour.specs.Tour.{tour_length}
use Rattle.tk_ring_search.specs.declared.trials.judging.Outcome.{Outcome}
use Rattle.tk_ring_search.specs.declared.trials.judging.Outcome.TheVariants.{Idle, Better, Kept, Undone, Restored}

-- in the trial after `made` others: 3/1000 of the best at first, and 0 in the last trial
abbrev pub slack_of : ℕ → ℕ → ℕ → ℕ
slack_of best made trials = best * 3 * (trials - made - 1) / (1000 * trials)

-- the greatest cost that is kept
abbrev pub limit_of : ℕ → ℕ → ℕ → ℕ
limit_of best made trials = best + slack_of best made trials

-- What becomes of a ring that a trial found by so many flips, from the current ring and the best. It is kept up to the
-- limit, and otherwise undone. A current ring above the limit is given up for the best, and so is one that can't be
-- restored.
abbrev pub IsSettled : (ℕ → ℕ → ℕ) → (limit slots flips : ℕ) → (ring best found : List ℕ) → Outcome →
    (new_ring new_best : List ℕ) → Type 0
IsSettled dist limit slots flips ring best found Idle new_ring new_best = ⊥
IsSettled dist limit slots flips ring best found Better new_ring new_best =
    (tour_length dist found < tour_length dist best) × (new_ring ≡ found) × (new_best ≡ found)
IsSettled dist limit slots flips ring best found Kept new_ring new_best =
    (tour_length dist best ≤ tour_length dist found) × (tour_length dist found ≤ limit)
    × (new_ring ≡ found) × (new_best ≡ best)
IsSettled dist limit slots flips ring best found Undone new_ring new_best =
    (limit < tour_length dist found) × (flips ≤ slots) × (tour_length dist ring ≤ limit)
    × (new_ring ≡ ring) × (new_best ≡ best)
IsSettled dist limit slots flips ring best found Restored new_ring new_best =
    (limit < tour_length dist found) × ((slots < flips) ⊎ (limit < tour_length dist ring))
    × (new_ring ≡ best) × (new_best ≡ best)

-- the outcome by the costs of the ring that was found, the current ring and the best
abbrev pub IsJudged : (found current best limit : ℤ) → (can_undo : Bool) → Outcome → Type 0
IsJudged found current best limit can_undo Idle = ⊥
IsJudged found current best limit can_undo Better = found <ℤ best
IsJudged found current best limit can_undo Kept = (best ≤ℤ found) × (found ≤ℤ limit)
IsJudged found current best limit can_undo Undone = (limit <ℤ found) × (can_undo ≡ true) × (current ≤ℤ limit)
IsJudged found current best limit can_undo Restored =
    (limit <ℤ found) × ((can_undo ≡ false) ⊎ (limit <ℤ current))

-- what an outcome makes of the ring before the trial, the ring that was found, and the best
abbrev pub Settles : Outcome → (ring found best new_ring new_best : List ℕ) → Type 0
Settles Idle ring found best new_ring new_best = (new_ring ≡ found) × (new_best ≡ best)
Settles Better ring found best new_ring new_best = (new_ring ≡ found) × (new_best ≡ found)
Settles Kept ring found best new_ring new_best = (new_ring ≡ found) × (new_best ≡ best)
Settles Undone ring found best new_ring new_best = (new_ring ≡ ring) × (new_best ≡ best)
Settles Restored ring found best new_ring new_best = (new_ring ≡ best) × (new_best ≡ best)

-- the cost of the current ring after a trial
abbrev pub cost_after : Outcome → (found current best : ℤ) → ℤ
cost_after Idle found current best = current
cost_after Better found current best = found
cost_after Kept found current best = found
cost_after Undone found current best = current
cost_after Restored found current best = best
