use Rattle.std.proofs.Common.{arith, ◌≡◌, ℕ, ◌-◌, ◌<◌, ◌≤◌, ◌⊎◌, ⊎_elim, inl, inr, take, length, List, refl, ◌∙◌}
use Rattle.std.proofs.Common.{get_or}
use Rattle.tk_near.specs.Keeping.{rank}
use Rattle.tk_near.proofs.SortedInsertion.{insert_by-full, before_false, before_true}
use Rattle.tk_near.proofs.CandidateInserted.{keep_start, keep_step, keep_end, still_open}
use Rattle.std.proofs.lemmas.Bool.{cases_lt}
use Rattle.std.proofs.lemmas.List.{length-set, length-take-le}
use Rattle.tk_near.specs.declared.candidates.Candidate.{Candidate}
use Rattle.tk_near.proofs.candidates.keep_among.Goals as goal
use Rattle.tk_near.proofs.candidates.keep_among.Goals.{then-loop-i-test+else-is_before, else-loop-i-test}

pub returns-then-not-is_before-clause-kept : goal.returns-then-not-is_before-clause-kept
returns-then-not-is_before-clause-kept c =
    let b = before_false c.is_before.ensures c.if-not-is_before.true in
    insert_by-full rank c.args.x (length c.args.kept.now) c.args.kept.now _ c.requires.climbing (omega arith)
    c.requires.room b

pub loop-i-init : goal.loop-i-init
loop-i-init c =
    let d : Candidate = record { distance = 0; city = 0 } in
    let n : ℕ = length c.args.kept.now - 1 in
    let ends : ((c.args.filled.now < n) × (c.min-end.result ≡ c.args.filled.now)) ⊎ (c.min-end.result ≡ n) =
    ⊎_elim (λ l. inl (l, omega arith)) (λ g. inr (omega arith)) (cases_lt c.args.filled.now n) in
    let start = keep_start c.args.x n c.min-end.result c.args.filled.now c.args.kept.now d (omega arith) ends
    c.requires.vacant (before_true c.is_before.ensures c.if-not-is_before.false) in
    (⊎_elim (λ e. omega arith) (λ e. omega arith) ends, (_, start.0), start.1, omega arith)

pub loop-i-preserved : goal.loop-i-preserved
loop-i-preserved c =
    let front : List Candidate = take (length c.args.kept.now - 1) c.args.kept.now in
    let n : length front ≡ length c.args.kept.now - 1 = length-take-le _ c.args.kept.now (omega arith) in
    let within = c.loop-i.invariant.0 in
    let y = c.loop-i.invariant.1 in
    let h = keep_step rank c.args.x y.0 c.loop-i.i front c.loop-i.kept _ (omega arith) (omega arith) y.1
    (before_true c.is_before-in-loop-i.ensures c.if-is_before.true) in
    (omega arith, (_, h.0), h.1, omega arith)

pub returns-clause-kept : goal.returns-clause-kept
returns-clause-kept c =
    let y = c.loop-i.invariant.1 in
    let d : Candidate = record { distance = 0; city = 0 } in
    let stop : 0 < c.loop-i.i → rank (get_or c.loop-i.kept (c.loop-i.i - 1) d) ≤ rank c.args.x =
    elim c.loop-i-test.branch [
      | then-loop-i-test+else-is_before w ↦ λ o. before_false w.is_before-in-loop-i.ensures w.if-is_before.false
      | else-loop-i-test w ↦ λ o. omega arith
    ] in
    keep_end rank c.args.x y.0 c.loop-i.i c.args.kept.now c.loop-i.kept d c.requires.climbing c.requires.room
    (before_true c.is_before.ensures c.if-not-is_before.false) c.loop-i.invariant.0 y.1 c.loop-i.invariant.2 stop

pub returns-clause-vacant : goal.returns-clause-vacant
returns-clause-vacant c =
    let n : ℕ = length c.args.kept.now - 1 in
    let y = c.loop-i.invariant.1 in
    let ends : ((c.args.filled.now < n) × (c.min-end.result ≡ c.args.filled.now)) ⊎ (c.min-end.result ≡ n) =
    ⊎_elim (λ l. inl (l, omega arith)) (λ g. inr (omega arith)) (cases_lt c.args.filled.now n) in
    still_open c.args.x y.0 n c.loop-i.i c.min-end.result c.args.filled.now c.args.kept.now c.loop-i.kept
    _ (omega arith) ends c.requires.vacant c.loop-i.invariant.3 y.1 refl
    (length-set c.loop-i.kept c.loop-i.i c.args.x ∙ omega arith)
