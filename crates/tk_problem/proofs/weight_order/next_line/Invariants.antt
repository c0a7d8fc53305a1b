use Rattle.std.proofs.Common.{◌≡◌, ◌-◌}
use Rattle.tk_problem.specs.WeightLines.{weight_lines}
use Rattle.tk_problem.proofs.weight_order.next_line.Given as goal

abbrev pub invariant-loop-line : goal.invariant-loop-line
invariant-loop-line l = weight_lines l.format l.n l.from (l.n - l.from) ≡ weight_lines l.format l.n l.line
    (l.n - l.line)
