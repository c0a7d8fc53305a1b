-- all bytes before this one are zeros
use Rattle.std.proofs.Common.{◌≡◌, drop}
use Rattle.tk_explain.specs.FaultWords.{without_zeros}
use Rattle.tk_explain.proofs.by_word.without_zeros.Given as goal

abbrev pub invariant-loop-i : goal.invariant-loop-i
invariant-loop-i l = without_zeros (drop l.i l.what) ≡ without_zeros l.what
