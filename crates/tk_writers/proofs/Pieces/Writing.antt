-- Laws of writes.
use Rattle.std.proofs.Common.{◌≡◌, ℕ, zero, suc, ◌+◌, ◌-◌, ◌<◌, ◌≤◌, Bool, true, false, List, ◌++◌, length, take, drop}
use Rattle.std.proofs.Common.{Option, Ok, refl, sym, ap, ◌∙◌, subst, arith}
use Rattle.std.specs.Prelude.{◌||◌}
use Rattle.std.specs.Io.KnownBytes.{Appends}
use Rattle.std.proofs.KnownBytes.{Appends-trans}
use lib.Seq.{take-add, take-take}
use Rattle.tk_words.specs.declared.sources.source.Failed.{Failed}
use Rattle.tk_writers.specs.Writes.{write_fails}

or_false : (b : Bool) → (b || false) ≡ b
or_false true = refl
or_false false = refl

-- a write that takes some bytes breaks nothing
pub write_goes_on : (b : Bool) (n : ℕ) (piece : List ℕ) → 0 < n → (b || write_fails {E = Failed} (Ok n) piece) ≡ b
write_goes_on b zero piece some = absurd (omega arith)
write_goes_on b (suc n) piece some = or_false b

-- what a second write took of the bytes that the first one left
pub Appends-next : (u v w : Option (List ℕ)) (bytes : List ℕ) (done n : ℕ) → done ≤ length bytes
    → n ≤ length bytes - done
    → Appends u v (take done bytes) → Appends v w (take n (take (length bytes - done) (drop done bytes))) →
    Appends u w (take (done + n) bytes)
Appends-next u v w bytes done n within fits first second =
    let joined = ap (λ l. take done bytes ++ l) (take-take n (length bytes - done) (drop done bytes) fits)
    ∙ sym (take-add done n bytes) in
    subst (Appends u w) joined (Appends-trans u v w _ _ first second)
