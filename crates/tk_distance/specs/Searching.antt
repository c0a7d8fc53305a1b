-- Searches for the largest and the smallest number that passes a test.
use Rattle.std.proofs.Common.{◌≡◌, ℕ, zero, suc, ◌+◌, ◌<◌, Bool, true, false, refl, subst, inl, inr, arith, cond}
use Rattle.std.proofs.lemmas.Bool.{cases_lt}
use Rattle.std.specs.Bool.{Decides}
use Rattle.tk_distance.specs.Distance.{IsGreatest, IsLeast}
use Rattle.tk_distance.specs.PlaneDistance.{last_passing, first_passing}

fails_at : (P : ℕ → Type 0) (n e : ℕ) → e ≡ n → Decides false (P n) → P e → ⊥
fails_at P n e same is h = let no : false ≡ true = is.1 (subst P same h) in cc

greatest_by : (P : ℕ → Type 0) (n g : ℕ) (b : Bool) → Decides b (P (suc n)) → ((e : ℕ) → suc n < e → P e → ⊥)
    → (((e : ℕ) → n < e → P e → ⊥) → IsGreatest P g) → IsGreatest P (cond b (suc n) g)
greatest_by P n g true is none below = record {
  holds = λ some. is.0 refl;
  greatest = λ e one h. elim (cases_lt (suc n) e) [ inl lt ↦ absurd (none e lt h) | inr le ↦ le ];
}
greatest_by P n g false is none below = below (λ e lt h. elim (cases_lt (suc n) e) [
  | inl more ↦ none e more h
  | inr le ↦ fails_at P (suc n) e (omega arith) is h
])

pub last_passing-is : (P : ℕ → Type 0) (passes : ℕ → Bool) → ((e : ℕ) → Decides (passes e) (P e))
    → (n : ℕ) → ((e : ℕ) → n < e → P e → ⊥) → IsGreatest P (last_passing passes n)
unfolding last_passing
last_passing-is P passes is zero none = record {
  holds = λ some. absurd (omega arith);
  greatest = λ e one h. absurd (none e one h);
}
last_passing-is P passes is (suc n) none =
    greatest_by P n (last_passing passes n) (passes (suc n)) (is (suc n)) none (last_passing-is P passes is n)

least_by : (P : ℕ → Type 0) (k g : ℕ) (b : Bool) → Decides b (P k) → ((e : ℕ) → e < k → P e → ⊥)
    → (((e : ℕ) → e < suc k → P e → ⊥) → IsLeast P g) → IsLeast P (cond b k g)
least_by P k g true is none above = record {
  holds = is.0 refl;
  least = λ e h. elim (cases_lt e k) [ inl lt ↦ absurd (none e lt h) | inr le ↦ le ];
}
least_by P k g false is none above = above (λ e lt h. elim (cases_lt e k) [
  | inl less ↦ none e less h
  | inr le ↦ fails_at P k e (omega arith) is h
])

pub first_passing-is : (P : ℕ → Type 0) (passes : ℕ → Bool) → ((e : ℕ) → Decides (passes e) (P e))
    → (k n m : ℕ) → k + n ≡ m → P m → ((e : ℕ) → e < k → P e → ⊥) → IsLeast P (first_passing passes k n)
unfolding first_passing
first_passing-is P passes is k zero m end h none = record {
  holds = subst P (omega arith) h;
  least = λ e h. elim (cases_lt e k) [ inl lt ↦ absurd (none e lt h) | inr le ↦ le ];
}
first_passing-is P passes is k (suc n) m end h none =
    least_by P k (first_passing passes (suc k) n) (passes k) (is k) none
    (first_passing-is P passes is (suc k) n m (omega arith) h)
