-- Faults that a reader tells by the first test that holds.
use Rattle.std.proofs.Common.{◌≡◌, ℕ, Bool, true, false, cond, List, [], ◌∷◌, Some, subst, sym}
use Rattle.std.proofs.lemmas.Bool.{true≢false}
use Rattle.std.specs.List.{AllByRecursion}
use Rattle.tk_words.specs.declared.fault.TextKind.{TextKind}
use Rattle.tk_words.specs.declared.fault.TextKind.TheVariants as kinds
use Rattle.tk_lines.specs.Pieces.{Fault, first_at}
use Rattle.tk_lines.specs.Reader.Handlers.{IsReportedWord}

-- a fault of reading, which no test tells
abbrev pub is_read : TextKind → Bool
is_read kinds.Read = true
is_read _ = false

abbrev pub IsTest : Bool × TextKind → Type 0
IsTest t = is_read t.1 ≡ false

reported_kind : (P : TextKind → Type 0) (k : TextKind) → is_read k ≡ false → P k → IsReportedWord P k
reported_kind P kinds.Read e h = absurd (true≢false e)
reported_kind P kinds.NoMemory e h = tt
reported_kind P k e h = h

module _ (line : ℕ) (k : TextKind) where
  by_test : (t : Bool × TextKind) (ts : List (Bool × TextKind)) → IsTest t
      → (first_at line ts ≡ Some (Fault line k) → is_read k ≡ false)
      → (b : Bool) → cond b (Some (Fault line t.1)) (first_at line ts) ≡ Some (Fault line k) → is_read k ≡ false
  by_test t ts here later true e = let same : t.1 ≡ k = cc in subst (λ k. is_read k ≡ false) same here
  by_test t ts here later false e = later e

  is_read-first_at : (tests : List (Bool × TextKind)) → AllByRecursion IsTest tests →
      first_at line tests ≡ Some (Fault line k) → is_read k ≡ false
  is_read-first_at [] all e = absurd cc
  is_read-first_at (t ∷ ts) all e = by_test t ts all.0 (is_read-first_at ts all.1) t.0 e

  -- the first test that holds is reported
  pub reported_first : (tests : List (Bool × TextKind)) → AllByRecursion IsTest tests →
      first_at line tests ≡ Some (Fault line k) → IsReportedWord (λ k. first_at line tests ≡ Some (Fault line k)) k
  reported_first tests all e = reported_kind (λ k. first_at line tests ≡ Some (Fault line k)) k
      (is_read-first_at tests all e) e

  -- the same tests, the same fault
  pub reported_same : (tests others : List (Bool × TextKind)) → tests ≡ others →
      IsReportedWord (λ k. first_at line others ≡ Some (Fault line k)) k →
      IsReportedWord (λ k. first_at line tests ≡ Some (Fault line k)) k
  reported_same tests others same h = subst (λ ts. IsReportedWord (λ k. first_at line ts ≡ Some (Fault line k)) k)
      (sym same) h

-- a fault that is reported for one reason is reported for another
pub reported_word : (P Q : TextKind → Type 0) (k : TextKind) → (P k → Q k) → IsReportedWord P k → IsReportedWord Q k
reported_word P Q kinds.NoMemory h p = tt
reported_word P Q kinds.Read h p = absurd p
reported_word P Q _ h p = h p
