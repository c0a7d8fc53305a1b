use Rattle.std.proofs.Common.{◌≡◌, ◌≤◌, length, take}
use Rattle.tk_words.specs.Lex.{trim_end}
use Rattle.tk_params.proofs.line.trimmed.Given as goal

abbrev pub invariant-loop-end : goal.invariant-loop-end
invariant-loop-end l =
    record {
      within : l.end ≤ length l.bytes;
      trimmed : trim_end (take l.end l.bytes) ≡ trim_end l.bytes;
    }

abbrev pub decreases-loop-end : goal.decreases-loop-end
decreases-loop-end l = l.end
