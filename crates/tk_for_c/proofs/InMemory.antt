-- A text in memory as a source, and a buffer as a sink.
use Rattle.std.proofs.Common.{Bor, List, Some, ℕ}
use Rattle.std.specs.Global.{Vec}
use Rattle.tk_words.specs.Sources.{has_failed}
use Rattle.tk_words.specs.declared.sources.source.FromRead.{FromRead}
use Rattle.tk_words.specs.declared.sources.source.Source as sources
use Rattle.tk_writers.specs.Sinks.{has_write_failed}
use Rattle.tk_writers.specs.declared.output.sink.Sink as sinks
use Rattle.tk_writers.specs.declared.output.sink.ToWrite.{ToWrite}

abbrev pub from_memory : sources.Ghosts (FromRead (Bor (List ℕ)))
from_memory = record { left = λ source. Some source.inner.now; broken = has_failed }

abbrev pub to_memory : sinks.Ghosts (ToWrite (Vec ℕ))
to_memory = record { taken = λ sink. Some sink.inner.items; broken = has_write_failed }
