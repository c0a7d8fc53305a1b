-- The totals of a search between routes.
--     AddsTrial n old new trial      the totals after one more trial on n elements
--     IsCountable totals      counters that have room for one more trial
--     IsBounded given n cost totals      the bounds on the work of a search
use Rattle.std.specs.Prelude.{◌≡◌, ℕ, ◌+◌, ◌-◌, ◌*◌, ◌/◌, ◌^◌, ◌≤◌, pos, ◌≤ℤ◌, Bool, true, false, if◌then◌else◌}
use Rattle.tk_ring_search.specs.Given.{Given}
use Rattle.tk_ring_search.specs.declared.trials.judging.Outcome.{Outcome}
use Rattle.tk_ring_search.specs.declared.trials.judging.Outcome.TheVariants.{Idle, Better, Kept, Undone, Restored}
use Rattle.tk_ring_search.specs.declared.trials.totals.RingTotals.{RingTotals}
use Rattle.tk_ring_search.specs.declared.trials.totals.RingTrial.{RingTrial}

abbrev pub is_kicked : Outcome → Bool
is_kicked Idle = false
is_kicked Better = true
is_kicked Kept = true
is_kicked Undone = true
is_kicked Restored = true

abbrev pub is_better : Outcome → Bool
is_better Idle = false
is_better Better = true
is_better Kept = false
is_better Undone = false
is_better Restored = false

-- a ring is copied, to the best one or from it
abbrev pub is_copied : Outcome → Bool
is_copied Idle = false
is_copied Better = true
is_copied Kept = false
is_copied Undone = false
is_copied Restored = true

-- one more trial on n elements
pub record AddsTrial (n : ℕ) (old new : RingTotals) (trial : RingTrial) : Type 0 where
  pub start : new.start ≡ old.start
  pub trials : new.trials ≡ old.trials + 1
  pub kicks : new.kicks ≡ old.kicks + (if is_kicked trial.outcome then 1 else 0)
  pub draws : new.draws ≡ old.draws + trial.draws
  pub better : new.better ≡ old.better + (if is_better trial.outcome then 1 else 0)
  pub moves : new.moves ≡ old.moves + trial.descent.moves
  pub tests : new.tests ≡ old.tests + trial.descent.tests
  pub passes : new.passes ≡ old.passes + trial.passes
  pub copied : new.copied ≡ old.copied + (if is_copied trial.outcome then n else 0)

-- counters of 64 and of 128 bits, to which a trial adds at most 2^64 - 1
pub record IsCountable (t : RingTotals) : Type 0 where
  pub kicks : t.kicks ≤ t.trials
  pub better : t.better ≤ t.trials
  pub draws : t.draws ≤ 1000 * t.trials
  pub moves : t.moves ≤ (2 ^ 64 - 1) * (t.trials + 1)
  pub tests : t.tests ≤ (2 ^ 64 - 1) * (t.trials + 1)
  pub passes : t.passes ≤ (2 ^ 64 - 1) * (t.trials + 1)
  pub copied : t.copied ≤ 2 ^ 32 * t.trials

-- the bounds on the work of a search on n elements whose best ring has this cost
pub record IsBounded (given : Given) (n cost : ℕ) (t : RingTotals) : Type 0 where
  pub tests : given.sweep ≡ false →
      t.tests ≤ 4 * given.or_segment * given.near.width * (n + 8 * t.kicks + 6 * t.moves)
  pub swept : given.sweep ≡ true → t.tests ≤ 4 * given.or_segment * given.near.width * (n * t.passes + 6 * t.moves)
  pub swaps : t.swaps ≤ 3 * (n / 4) * t.moves + 30 * t.kicks
  pub kicks : t.kicks ≤ t.trials
  pub draws : t.draws ≤ 1000 * t.trials
  pub better : pos (cost + t.better) ≤ℤ t.start
  pub copied : t.copied ≤ n * t.trials
