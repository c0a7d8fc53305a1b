use Rattle.std.proofs.Common.{◌≡◌, ◌≤◌, ◌*◌, take}
use Rattle.std.specs.List.{sum}
use Rattle.tk_outcomes.proofs.info_of.total_of.Given as goal

abbrev pub invariant-loop-demand : goal.invariant-loop-demand
invariant-loop-demand l = record {
  sum : l.total ≡ sum (take l.demand-index l.demands);
  small : l.total ≤ 4294967296 * l.demand-index;
}
