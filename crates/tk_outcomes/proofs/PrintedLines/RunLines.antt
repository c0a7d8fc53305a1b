-- The lines of keys and numbered lines, one more.
use Rattle.std.proofs.Common.{◌≡◌, ℕ, suc, ◌+◌, ◌*◌, ◌<◌, ◌≤◌, List, [], ◌∷◌, ◌++◌, length, take, get_or, refl, ap, ◌∙◌}
use Rattle.std.proofs.Common.{sym, arith, append_assoc, append-nil, length-append}
use Rattle.std.specs.Prelude.{flat_map}
use Rattle.std.proofs.lemmas.Grind.{flat_map-append}
use Rattle.std.proofs.lemmas.List.{take_more, length-take-le}
use Rattle.tk_params.specs.declared.key.Key.{Key}
use Rattle.tk_outcomes.specs.Lines.Parts.{numbered}
use Rattle.tk_outcomes.specs.Lines.SolveLines.{ignored_line}

module _ {X : Type 0} (line_of : ℕ → X → List ℕ) where
  numbered_more : (number : ℕ) (xs : List X) (x : X) →
      numbered line_of number (xs ++ x ∷ []) ≡ numbered line_of number xs ++ line_of (number + length xs) x
  numbered_more number [] x =
      let e : number + 0 ≡ number = omega arith in
      rw (append-nil, e) refl
  numbered_more number (y ∷ xs) x =
      let e : number + 1 + length xs ≡ number + suc (length xs) = omega arith in
      rw (numbered_more (number + 1) xs x, e)
      (sym (append_assoc (line_of number y) (numbered line_of (number + 1) xs) _))

  pub numbered_take : (xs : List X) (i : ℕ) (x : X) → i < length xs →
      numbered line_of 1 (take (i + 1) xs) ≡ numbered line_of 1 (take i xs) ++ line_of (i + 1) (get_or xs i x)
  numbered_take xs i x within =
      let before = take i xs in
      let count : 1 + length before ≡ i + 1 = omega (arith, length-take-le i xs (omega arith)) in
      ap (numbered line_of 1) (take_more xs i x within) ∙ numbered_more 1 before (get_or xs i x)
      ∙ ap (λ k. numbered line_of 1 before ++ line_of k (get_or xs i x)) count

  -- as long as all their lines
  pub numbered_short : (most : ℕ) → ((number : ℕ) (x : X) → length (line_of number x) ≤ most) → (number : ℕ)
      (xs : List X) → length (numbered line_of number xs) ≤ length xs * most
  numbered_short most short number [] = omega arith
  numbered_short most short number (x ∷ xs) =
      omega (
        arith,
        short number x,
        numbered_short most short (number + 1) xs,
        length-append (line_of number x) (numbered line_of (number + 1) xs),
      )

pub ignored_take : (ks : List Key) (i : ℕ) (k : Key) → i < length ks →
    flat_map ignored_line (take (i + 1) ks) ≡ flat_map ignored_line (take i ks) ++ ignored_line (get_or ks i k)
ignored_take ks i k within =
    ap (flat_map ignored_line) (take_more ks i k within) ∙ flat_map-append ignored_line (take i ks) (get_or ks i k ∷ [])
    ∙ ap (λ l. flat_map ignored_line (take i ks) ++ l) (append-nil (ignored_line (get_or ks i k)))
