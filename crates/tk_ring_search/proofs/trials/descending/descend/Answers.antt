use Rattle.std.proofs.Common.{refl}
use Rattle.tk_ring_search.proofs.FreshCounts.{fresh_once, fresh_swept}
use Rattle.tk_ring_search.proofs.trials.descending.descend.Goals as goal
use Rattle.tk_ring_search.proofs.trials.descending.descend.Goals.{then-terms, else-terms}

pub returns-clause-swept : goal.returns-clause-swept
returns-clause-swept g c = λ e.
    elim c.if-terms.branch [
      | then-terms w ↦ rw (w.report-is, w.ring-is, w.waking-is)
          (fresh_swept _ _ _ _ _ _ c.with_cache-gains.ensures.table c.with_cache-gains.ensures.count _
          w.descend_swept_under-report.ensures.sweeping)
      | else-terms w ↦ absurd (cc)
    ]

pub returns-clause-once : goal.returns-clause-once
returns-clause-once g c = λ e.
    elim c.if-terms.branch [
      | then-terms w ↦ absurd (cc)
      | else-terms w ↦ rw (w.report-is, w.ring-is, w.waking-is) (
        fresh_once _ _ _ _ _ _ c.with_cache-gains.ensures.table c.with_cache-gains.ensures.count _
            w.descend_under.ensures.descent,
        refl,
      )
    ]

pub returns-clause-flips_only : goal.returns-clause-flips_only
returns-clause-flips_only g c =
    elim c.if-terms.branch [
      | then-terms w ↦ rw w.ring-is w.descend_swept_under-report.ensures.flips_only
      | else-terms w ↦ rw w.ring-is w.descend_under.ensures.flips_only
    ]
