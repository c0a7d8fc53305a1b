-- what was taken so far is in the sink
use Rattle.std.proofs.Common.{◌≡◌, ◌-◌, ◌≤◌, length, take}
use Rattle.std.specs.Io.KnownBytes.{Appends}
use Rattle.tk_writers.proofs.output.pen.write_whole.Given as goal

abbrev pub invariant-loop-taken : goal.invariant-loop-taken
invariant-loop-taken g l = record {
  within : l.taken ≤ length l.bytes;
  sent : Appends (g.W.Sink.taken l.initial.sink) (g.W.Sink.taken l.sink) (take l.taken l.bytes);
  kept : g.W.Sink.broken l.sink ≡ g.W.Sink.broken l.initial.sink;
}

abbrev pub decreases-loop-taken : goal.decreases-loop-taken
decreases-loop-taken g l = length l.bytes - l.taken
