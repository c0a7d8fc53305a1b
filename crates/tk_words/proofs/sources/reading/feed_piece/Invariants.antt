-- the bytes before this one are taken, and they are within the limit
use Rattle.std.proofs.Common.{◌≡◌, ℕ, ◌-◌, ◌≤◌, List, ◌++◌, length, take}
use Rattle.tk_words.proofs.sources.reading.feed_piece.Given as goal

abbrev pub invariant-loop-start : goal.invariant-loop-start
invariant-loop-start g l =
    record {
      within : l.start ≤ l.end;
      fed : (before : List ℕ) → g.P.TextReader.fed l.initial.reader before → length before ≡ l.fn.count →
          g.P.TextReader.fed l.reader (before ++ take l.start l.piece);
    }

abbrev pub decreases-loop-start : goal.decreases-loop-start
decreases-loop-start g l = l.end - l.start
