-- Where a run of bytes ends.
use Rattle.std.proofs.Common.{◌≡◌, ℕ, ◌+◌, ◌-◌, ◌<◌, ◌≤◌, Bool, true, false, List, [], ◌∷◌, ◌++◌, length, get_or, take}
use Rattle.std.proofs.Common.{drop, refl, sym, ap, ◌∙◌, arith}
use Rattle.std.proofs.Math.Seq.{take-length}
use Rattle.std.proofs.lemmas.List.{append-nil, drop_more, take-append-drop, take_more}
use Rattle.tk_lines.proofs.Headers.ByteRuns.{behind-all, front-all, front-whole, trim_end-blank, trim_end-solid}
use Rattle.tk_words.specs.Lex.{front, behind, is_blank, trim_end}

module _ (p : ℕ → Bool) (xs : List ℕ) (i : ℕ) (run : behind p (take i xs) ≡ []) where
  parts : take i xs ++ drop i xs ≡ xs
  parts = take-append-drop i xs

  pub run_more : i < length xs → p (get_or xs i 0) ≡ true → behind p (take (i + 1) xs) ≡ []
  run_more lt h = ap (behind p) (take_more xs i 0 lt) ∙ behind-all p (take i xs) (get_or xs i 0 ∷ []) run ∙ rw h refl

  pub behind_at : i < length xs → p (get_or xs i 0) ≡ false → drop i xs ≡ behind p xs
  behind_at lt h = drop_more xs i 0 lt
      ∙ sym (ap (behind p) (sym parts) ∙ behind-all p (take i xs) (drop i xs) run
      ∙ ap (behind p) (drop_more xs i 0 lt) ∙ rw h refl)

  pub front_at : i < length xs → p (get_or xs i 0) ≡ false → take i xs ≡ front p xs
  front_at lt h =
      sym (ap (front p) (sym parts) ∙ front-all p (take i xs) (drop i xs) run
      ∙ ap (λ (z : List ℕ). take i xs ++ front p z) (drop_more xs i 0 lt) ∙ rw h (append-nil (take i xs)))

-- a run that is all
pub front_all : (p : ℕ → Bool) (xs : List ℕ) → behind p (take (length xs) xs) ≡ [] → take (length xs) xs ≡ front p xs
front_all p xs h = let all = take-length xs in all ∙ sym (front-whole p xs (ap (behind p) (sym all) ∙ h))

-- the last byte of a front
module _ (xs : List ℕ) (n : ℕ) (low : 0 < n) (le : n ≤ length xs) where
  last : take n xs ≡ take (n - 1) xs ++ get_or xs (n - 1) 0 ∷ []
  last = let e : n ≡ n - 1 + 1 = omega (arith, low) in
      ap (λ k. take k xs) e ∙ take_more xs (n - 1) 0 (omega (arith, low, le))

  pub trim_less : is_blank (get_or xs (n - 1) 0) ≡ true → trim_end (take (n - 1) xs) ≡ trim_end (take n xs)
  trim_less h = sym (ap trim_end last ∙ trim_end-blank (take (n - 1) xs) (get_or xs (n - 1) 0) h)

  pub trim_here : is_blank (get_or xs (n - 1) 0) ≡ false → trim_end (take n xs) ≡ take n xs
  trim_here h = ap trim_end last ∙ trim_end-solid (take (n - 1) xs) (get_or xs (n - 1) 0) h ∙ sym last

pub trim_none : (xs : List ℕ) (n : ℕ) → n ≡ 0 → trim_end (take n xs) ≡ take n xs
trim_none xs n e = rw e refl
