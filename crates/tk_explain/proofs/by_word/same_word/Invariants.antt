-- what is compared so far is the same
use Rattle.std.proofs.Common.{◌≡◌, drop}
use Rattle.tk_explain.specs.FaultWords.{same_fault_word}
use Rattle.tk_explain.proofs.by_word.same_word.Given as goal

abbrev pub invariant-loop-i : goal.invariant-loop-i
invariant-loop-i l = same_fault_word (drop l.i l.bytes) (drop l.i l.text) ≡ same_fault_word l.bytes l.text
