-- none of the routes before this one is closed
use Rattle.std.proofs.Common.{◌≡◌, drop}
use Rattle.tk_explain.specs.Remarks.{has_closed}
use Rattle.tk_explain.proofs.remark.has_closed.Given as goal

abbrev pub invariant-loop-i : goal.invariant-loop-i
invariant-loop-i l = has_closed (drop l.i l.routes) ≡ has_closed l.routes
