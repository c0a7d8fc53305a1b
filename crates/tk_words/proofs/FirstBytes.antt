-- What the first of some bytes decides, and the line after them.
use Rattle.std.proofs.Common.{◌≡◌, ℕ, ◌+◌, ◌≤◌, ◌==◌, List, [], ◌∷◌, ◌++◌, length, take, get_or, Result, Err, refl}
use Rattle.std.proofs.Common.{subst}
use Rattle.std.proofs.Common.{sym, arith}
use Rattle.std.proofs.lemmas.List.Sums.{count_by-le-length}
use Rattle.tk_words.specs.Texts.{Decides, DecidesWithin, IsReported, Texts, line_behind}
use Rattle.tk_words.proofs.ReportedFaults.{reported_of}

pub first_byte : (bytes : List ℕ) → 1 ≤ length bytes → take 1 bytes ≡ get_or bytes 0 0 ∷ []
first_byte [] some = absurd (omega arith)
first_byte (b ∷ bytes) some = refl

-- there are no more lines than bytes, but for the first
pub line_short : (bs : List ℕ) → line_behind bs ≤ length bs + 1
line_short bs = omega (arith, count_by-le-length (λ b. b == 10) bs)

module _ {V E : Type 0} (texts : Texts V E) (before bytes : List ℕ) (some : 1 ≤ length bytes) where
  pub first_decides : (a : Result V E) → Decides texts (before ++ get_or bytes 0 0 ∷ []) a →
      DecidesWithin texts before bytes a
  first_decides a h = (1, some, subst (λ (l : List ℕ). Decides texts (before ++ l) a) (sym (first_byte bytes some)) h)

  pub first_reported : (f : E) → IsReported texts (Decides texts (before ++ get_or bytes 0 0 ∷ [])) f →
      IsReported texts (DecidesWithin texts before bytes) f
  first_reported f h =
      reported_of ⊥ (λ e. Decides texts (before ++ get_or bytes 0 0 ∷ []) (Err e))
      (λ e. DecidesWithin texts before bytes (Err e)) f (texts.cause f) (first_decides (Err f)) h
