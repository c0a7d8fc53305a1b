-- the bytes before this one are taken
use Rattle.std.proofs.Common.{ℕ, ◌-◌, ◌≤◌, List, ◌++◌, length, take}
use Rattle.tk_lines.specs.Reader.Places.{Fed, anything}
use Rattle.tk_lines.proofs.reader.PieceReader.feed_tokens.Given as goal

abbrev pub invariant-loop-self : goal.invariant-loop-self
invariant-loop-self g l = record {
  within : l.start ≤ length l.bytes;
  fed : (before : List ℕ) → Fed g.F.Handler.promise anything l.initial.self before →
      Fed g.F.Handler.promise anything l.self (before ++ take l.start l.bytes);
}

abbrev pub decreases-loop-self : goal.decreases-loop-self
decreases-loop-self g l = length l.bytes - l.start
