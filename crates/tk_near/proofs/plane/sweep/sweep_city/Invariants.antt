use Rattle.std.proofs.Common.{◌+◌, ◌-◌, length}
use Rattle.tk_near.specs.Sweep.{IsSwept}
use Rattle.tk_near.proofs.plane.sweep.sweep_city.Given as goal

abbrev pub invariant-loop-low : goal.invariant-loop-low
invariant-loop-low g l = IsSwept (g.P.Metric.distance l.m) l.row l.p l.low l.high (length l.fn.kept) l.kept

abbrev pub decreases-loop-low : goal.decreases-loop-low
decreases-loop-low g l = l.low + (length l.row - l.high)
