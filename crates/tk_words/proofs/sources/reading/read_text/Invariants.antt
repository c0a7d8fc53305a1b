use Rattle.std.proofs.Common.{◌≡◌, ℕ, ◌+◌, ◌-◌, ◌≤◌, List, length}
use Rattle.std.specs.Io.KnownBytes.{Consumes}
use Rattle.tk_words.proofs.sources.reading.read_text.Given as goal

abbrev pub invariant-loop-n : goal.invariant-loop-n
invariant-loop-n g l =
    record {
      room : l.count ≤ l.limit;
      broken : g.R.Source.broken l.source ≡ g.R.Source.broken l.initial.source;
      fed : (bs : List ℕ) × g.P.TextReader.fed l.reader bs × (length bs ≡ l.count)
          × Consumes (g.R.Source.left l.initial.source) (g.R.Source.left l.source) bs;
    }

abbrev pub decreases-loop-n : goal.decreases-loop-n
decreases-loop-n g l = l.limit + 1 - l.count
