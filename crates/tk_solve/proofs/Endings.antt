-- What follows for steps that an observer can stop.
use Rattle.std.proofs.Common.{◌≡◌, ℕ, zero, suc, ◌<◌, ◌≤◌, Bool, true, false, List, [], ◌∷◌, refl, sym, subst, arith}
use Rattle.std.specs.Prelude.{All}
use Rattle.std.proofs.lemmas.List.Elements.{All-cons, All-nil}
use Rattle.tk_solve.specs.Endings.{EndsAfter, whole, stopped, question}

module _ {E : Type 0} (asked : Bool → E) where
  -- the observer is asked before a later step
  pub question_later : (t : ℕ) (answer : Bool) → 1 ≤ t → question asked t answer ≡ asked answer ∷ []
  question_later zero answer later = absurd (omega (arith, later))
  question_later (suc t) answer later = refl

  -- but not before the first
  pub question_first : (t : ℕ) (answer : Bool) → t ≡ 0 → question asked t answer ≡ []
  question_first zero answer first = refl
  question_first (suc t) answer first = absurd (omega (arith, first))

  -- what is true of an answer is true of each event of its question
  pub All-question : (P : E → Type 0) (t : ℕ) (answer : Bool) → P (asked answer) → All P (question asked t answer)
  All-question P zero answer h = All-nil P
  All-question P (suc t) answer h = All-cons P (asked answer) [] h (All-nil P)

  -- all steps were made
  pub ends_whole : (n t : ℕ) → t ≡ n → EndsAfter asked n t []
  ends_whole n t all = subst (λ k. EndsAfter asked n k []) (sym all) whole

  -- a step that the observer has ended is not the first
  pub stopped_later : (t : ℕ) (answer : Bool) → (t ≡ 0 → answer ≡ true) → answer ≡ false → 1 ≤ t
  stopped_later zero answer first ends = cc (first refl)
  stopped_later (suc t) answer first ends = omega arith

  -- the observer said no before step t
  pub ends_stopped : (n t : ℕ) → 1 ≤ t → t < n → EndsAfter asked n t (question asked t false)
  ends_stopped n t some left = subst (EndsAfter asked n t) (sym (question_later t false some)) (stopped some left)

  -- no more steps were made than there are
  pub ends_within : {n t : ℕ} {events : List E} → EndsAfter asked n t events → t ≤ n
  ends_within whole = omega arith
  ends_within (stopped some left) = omega (arith, left)

  -- the first step was made, if there is one
  pub ends_some : {n t : ℕ} {events : List E} → EndsAfter asked n t events → 1 ≤ n → 1 ≤ t
  ends_some whole some = some
  ends_some (stopped one left) some = one

  -- what is true of the answer no is true of each event at the end
  pub All-ends : (P : E → Type 0) {n t : ℕ} {events : List E} → EndsAfter asked n t events → P (asked false) →
      All P events
  All-ends P whole h = All-nil P
  All-ends P (stopped some left) h = All-cons P (asked false) [] h (All-nil P)

  -- all steps were made if no event is the answer no
  pub ends_unended : (P : E → Type 0) → (P (asked false) → ⊥) → {n t : ℕ} {events : List E} →
      EndsAfter asked n t events → All P events → t ≡ n
  ends_unended P never whole h = refl
  ends_unended P never (stopped some left) h = absurd (never (h 0 (asked false) (omega arith)))
