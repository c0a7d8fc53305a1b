use Rattle.std.proofs.Common.{arith, ◌≡◌, ◌≢◌, ℕ, ◌+◌, ◌-◌, ◌≤◌, ◌<◌, cond, length, subst, sym}
use Rattle.std.specs.Prelude.{nat_lt, replicate}
use Rattle.tk_near.specs.Keeping.{empty_slot}
use Rattle.tk_near.proofs.KeptCandidates.{KeepsFirst-none, KeepsFirst-more, KeepsFirst-same, KeepsFirst-count}
use Rattle.tk_near.proofs.KeptCandidates.{IsNear-from_kept, kept_climbing, kept_length, same_twice, count_others}
use Rattle.tk_near.proofs.KeptCandidates.{count_self}
use Rattle.tk_near.proofs.KeptCandidates.{count_most}
use Rattle.tk_near.proofs.near.scan_city.Goals as goal
use Rattle.tk_near.proofs.near.scan_city.Goals.{then-b-c, else-b-c}

pub loop-b-init : goal.loop-b-init
loop-b-init g c =
    let k : ℕ = length c.args.kept.now in
    let clear : c.fill.new.self ≡ replicate k empty_slot = c.fill.ensures.after (λ y e. e) in
    let none = KeepsFirst-none (g.M.Metric.distance c.args.m.now) c.args.c k (λ a. (1 ≤ a) × (a < 1) × (a ≢ c.args.c))
    (λ b s. let low : 1 ≤ b = s.0 in let high : b < 1 = s.1 in omega arith) in
    rw clear (KeepsFirst-count _ c.args.c k _ _ _ _ (same_twice (nat_lt c.args.c 1) 0) none)

pub keep-requires-clause-climbing : goal.keep-requires-clause-climbing
keep-requires-clause-climbing g c =
    let near = g.met.M.Metric.distance_limit c.args.m.now c.args.c in
    kept_climbing (λ b. omega (arith, near b)) (λ b s. omega (arith, s.1)) c.loop-b.invariant

pub loop-b-preserved : goal.loop-b-preserved
loop-b-preserved g c =
    let near = g.met.M.Metric.distance_limit c.args.m.now c.args.c c.loop-b.b in
    elim c.if-b-c.branch [
      | then-b-c w ↦
          let dist = g.M.Metric.distance c.args.m.now in
          let b = c.loop-b.b in
          let k : ℕ = length c.args.kept.now in
          let size : length c.loop-b.kept ≡ k = kept_length c.loop-b.invariant in
          let more = KeepsFirst-more dist c.args.c k _ _ (λ a. (1 ≤ a) × (a < b + 1) × (a ≢ c.args.c)) c.loop-b.kept b
          c.loop-b.invariant (λ s. omega arith) (omega arith) (omega (arith, near)) (λ a s. omega (arith, s.1))
          (omega arith) (c.loop-b.auto.b, omega arith, w.if-b-c.true) (omega arith) in
          let count = count_others c.args.c b c.requires.city.0 c.loop-b.auto.b w.if-b-c.true in
          rw (w.kept-is, w.keep.ensures, w.measure.ensures, size) (KeepsFirst-count dist c.args.c k _ _ _ _ count more)
      | else-b-c w ↦
          let dist = g.M.Metric.distance c.args.m.now in
          let b = c.loop-b.b in
          let k : ℕ = length c.args.kept.now in
          rw w.kept-is
          (KeepsFirst-count dist c.args.c k _ _ _ _ (count_self c.args.c b c.requires.city.0 w.if-b-c.false)
          (KeepsFirst-same dist c.args.c k _ _ (λ a. (1 ≤ a) × (a < b + 1) × (a ≢ c.args.c)) _ c.loop-b.invariant
          (omega arith) (λ a s. (s.0, omega (arith, s.1, s.2), s.2))))
    ]

pub returns-clause-near : goal.returns-clause-near
returns-clause-near g c =
    let n : ℕ = c.args.among in
    let k : ℕ = length c.args.kept.now in
    let m : ℕ = cond (nat_lt c.args.c c.loop-b.b) (c.loop-b.b - 2) (c.loop-b.b - 1) in
    let end : c.loop-b.b ≡ n + 1 = omega arith in
    let enough : k ≤ m = subst (λ v. k ≤ cond (nat_lt c.args.c v) (v - 2) (v - 1)) (sym end)
    (count_most c.args.c n k c.requires.high) in
    IsNear-from_kept (g.M.Metric.distance c.args.m.now) n c.args.c k m
    (λ a. (1 ≤ a) × (a < c.loop-b.b) × (a ≢ c.args.c)) c.loop-b.kept c.loop-b.invariant (omega arith) enough
    (λ b h ne. (h.0, omega (arith, h.1), ne)) (λ b s. ((s.0, omega (arith, s.1)), s.2))
