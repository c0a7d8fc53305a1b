-- The text that is put into a pen.
use Rattle.std.specs.Prelude.{◌≡◌, ℕ, Bool, List, ◌++◌, Option, Result, MatchResult}
use Rattle.std.specs.Io.KnownBytes.{Appends}
use Rattle.tk_writers.specs.declared.output.pen.Pen.{Pen}
use Rattle.tk_writers.specs.declared.output.pen.WriteFault.{WriteFault}
use Rattle.tk_writers.specs.declared.output.sink.Sink.{Ghosts}
use Rattle.tk_writers.specs.Puts.{IsPut, Stops}

-- this text has been put into the pen
abbrev pub PenHolds : {W : Type 0} → Ghosts W → Option (List ℕ) → Bool → List ℕ →
    Pen W → Type 0
PenHolds sink start failed text p = IsPut sink start failed text p.sink.now p.written p.stopped p.page

-- bytes are appended to the text of the pen
pub record Puts {W : Type 0} (sink : Ghosts W) (p q : Pen W)
    (bytes : List ℕ) : Type 0 where
  pub same : q.sink.ghost_name ≡ p.sink.ghost_name
  pub text : (start : Option (List ℕ)) (failed : Bool) (text : List ℕ) → PenHolds sink start failed text p →
      PenHolds sink start failed (text ++ bytes) q

-- a pen that ends has written its whole text to its sink, or exactly the first bytes of it
abbrev pub PenEnds : {W : Type 0} → Ghosts W → Pen W → W →
    Result (Unit {0}) WriteFault → Type 0
PenEnds sink p w r =
    (start : Option (List ℕ)) (failed : Bool) (text : List ℕ) → PenHolds sink start failed text p →
    MatchResult r (λ _. Appends start (sink.taken w) text × (sink.broken w ≡ failed)) (λ f. Stops sink start text w f)
