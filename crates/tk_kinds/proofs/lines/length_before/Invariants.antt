-- no byte before this one equals the sign
use Rattle.std.proofs.Common.{◌≡◌, ◌==◌, drop, not}
use Rattle.tk_words.specs.Lex.{behind}
use Rattle.tk_kinds.proofs.lines.length_before.Given as goal

abbrev pub invariant-loop-i : goal.invariant-loop-i
invariant-loop-i l = behind (λ b. not (b == l.sign)) (drop l.i l.bytes) ≡ behind (λ b. not (b == l.sign)) l.bytes
