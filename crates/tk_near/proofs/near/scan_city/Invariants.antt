use Rattle.std.proofs.Common.{◌≢◌, ◌-◌, ◌≤◌, ◌<◌, cond, length}
use Rattle.std.specs.Prelude.{nat_lt}
use Rattle.tk_near.specs.Keeping.{KeepsFirst}
use Rattle.tk_near.proofs.near.scan_city.Given as goal

abbrev pub invariant-loop-b : goal.invariant-loop-b
invariant-loop-b g l =
    KeepsFirst (g.M.Metric.distance l.m) l.c (length l.fn.kept) (cond (nat_lt l.c l.b) (l.b - 2) (l.b - 1))
    (λ a. (1 ≤ a) × (a < l.b) × (a ≢ l.c)) l.kept
