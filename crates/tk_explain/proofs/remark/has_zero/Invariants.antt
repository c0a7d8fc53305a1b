-- 0 is on none of the routes before this one
use Rattle.std.proofs.Common.{◌≡◌, drop}
use Rattle.tk_explain.specs.Remarks.{has_zero}
use Rattle.tk_explain.proofs.remark.has_zero.Given as goal

abbrev pub invariant-loop-i : goal.invariant-loop-i
invariant-loop-i l = has_zero (drop l.i l.routes) ≡ has_zero l.routes
