use Rattle.std.proofs.Common.{◌≡◌, ◌<◌, ◌+◌, ◌^◌, length, drop}
use Rattle.tk_problem_text.specs.Problem.{first_kind, over_capacity}
use Rattle.tk_problem_text.proofs.parts.first_over.Given as goal

abbrev pub invariant-loop-load : goal.invariant-loop-load
invariant-loop-load l = length l.demand < 2 ^ 32 →
    (l.node ≡ l.load-index)
    × (first_kind (over_capacity l.capacity 1 l.demand) ≡ first_kind
    (over_capacity l.capacity (l.load-index + 1) (drop l.load-index l.demand)))
