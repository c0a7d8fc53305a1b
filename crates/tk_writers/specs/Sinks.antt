-- Sinks and `ToWrite`, as their callers see them.
use Rattle.std.specs.Prelude.{◌≡◌, Bool, true}
use Rattle.tk_writers.specs.declared.output.sink.Sink.{Ghosts}
use Rattle.tk_writers.specs.declared.output.sink.ToWrite.{ToWrite}

-- whether a write to this sink has failed
abbrev pub has_write_failed : {W : Type 0} → ToWrite W → Bool
has_write_failed sink = sink.failed

-- a write to the sink has failed
abbrev pub IsBroken : {W : Type 0} → Ghosts W → W → Type 0
IsBroken sink w = sink.broken w ≡ true
