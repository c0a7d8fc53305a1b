-- The part that has been written of a text that is put piece by piece.
use Rattle.std.specs.Prelude.{◌≡◌, ℕ, ◌≤◌, ◌<◌, ◌^◌, ◌⊎◌, Bool, true, false, List, length, take, drop, Option, Result}
use Rattle.std.specs.Prelude.{MatchResult}
use Rattle.std.specs.Io.KnownBytes.{Appends}
use Rattle.tk_writers.specs.declared.output.pen.WriteFault.{WriteFault}
use Rattle.tk_writers.specs.declared.output.sink.Sink.{Ghosts}

-- a text has been put: its first bytes are in the sink w after `start`, and the others are on the page, or writing has
-- stopped
-- writing stops if a write fails, or if a page would be sent after 2^63 bytes; `failed` says whether a write had failed
-- before
pub record IsPut {W : Type 0} (sink : Ghosts W) (start : Option (List ℕ))
    (failed : Bool) (text : List ℕ) (w : W) (written : ℕ) (stopped : Bool) (page : List ℕ) : Type 0 where
  pub fits : written ≤ length text
  pub sent : Appends start (sink.taken w) (take written text)
  pub waits : stopped ≡ false → (drop written text ≡ page) × (sink.broken w ≡ failed)
  pub stops : stopped ≡ true → (written < length text) × ((sink.broken w ≡ true) ⊎ (2 ^ 63 < length text))

-- exactly the first bytes of a text were written, because a write failed or the text has more than 2^63 bytes
pub record Stops {W : Type 0} (sink : Ghosts W) (start : Option (List ℕ))
    (text : List ℕ) (w : W) (fault : WriteFault) : Type 0 where
  pub part : fault.written < length text
  pub sent : Appends start (sink.taken w) (take fault.written text)
  pub cause : (sink.broken w ≡ true) ⊎ (2 ^ 63 < length text)

-- a sink, v before and w after, took a whole text or exactly the first bytes of it
abbrev pub Writes : {W : Type 0} → Ghosts W → W → W → Result (Unit {0}) WriteFault → List ℕ →
    Type 0
Writes sink v w r text =
    MatchResult r (λ _. Appends (sink.taken v) (sink.taken w) text × (sink.broken w ≡ sink.broken v))
    (λ f. Stops sink (sink.taken v) text w f)
