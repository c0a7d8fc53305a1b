-- What becomes of the result of a trial.
use Rattle.std.proofs.Common.{◌≡◌, ℕ, ℤ, ◌-◌, ◌*◌, ◌/◌, ◌<◌, ◌≤◌, FitsSigned, Bool, true, false, not, List}
use Rattle.std.proofs.Common.{length, pos}
use Rattle.std.proofs.Common.{of_z, to_z, w64, refl, sym, ap, ◌∙◌, subst, arith, inl, inr, ⊎_elim}
use Rattle.std.specs.Prelude.{◌↔◌, IsTrue, unsigned_abs}
use Rattle.std.specs.Int.{int_min}
use Rattle.std.proofs.Math.Nat.{div-le_of_le-mul}
use Rattle.std.proofs.lemmas.Bool.{cases_lt}
use Rattle.std.proofs.lemmas.Int.{ints, to_z-of_z}
use Rattle.std.proofs.lemmas.Nat.{mul-le}
use Rattle.tk_problem.specs.declared.limits.TheConstants.{CITY_LIMIT, DISTANCE_LIMIT}
use Rattle.tk_descent.proofs.WakeExecutions.DescentSteps.{fits_length}
use Rattle.tk_tour.specs.Tour.{tour_length}
use Rattle.tk_ring_search.specs.Judging.{IsJudged, IsSettled, Settles, cost_after, limit_of}
use Rattle.tk_ring_search.specs.declared.trials.judging.Outcome.{Outcome}
use Rattle.tk_ring_search.specs.declared.trials.judging.Outcome.TheVariants.{Idle, Better, Kept, Undone, Restored}

-- a number converted to 64 bits and back
abbrev pub held : ℤ → ℤ
held v = to_z w64 (of_z w64 v)

pub held_is : (v : ℤ) (n : ℕ) → v ≡ pos n → n ≤ 900000000000000 → held v ≡ pos n
held_is v n e le =
    let f : FitsSigned w64 v = omega (arith, ints, e, le) in
    to_z-of_z w64 v f ∙ e

-- the slack is at most the best
pub slack_most : (b left t : ℕ) → left ≤ t → b * 3 * left / (1000 * t) ≤ b
slack_most b left t le =
    let some : b * 3 * left ≤ b * 3 * t = mul-le (b * 3) left (b * 3) t (omega arith) le in
    let few : b * 3 * t ≤ 1000 * t * b = omega arith in
    div-le_of_le-mul (1000 * t) (omega (arith, some, few))

-- the greatest cost that is kept
pub limit_is : (best result : ℤ) (b made trials : ℕ) → best ≡ pos b → b ≤ 400000000000000 →
    result ≡ pos (limit_of (unsigned_abs best) made trials) → held result ≡ pos (limit_of b made trials)
limit_is best result b made trials eb lb e =
    held_is result (limit_of b made trials) (e ∙ ap (λ v. pos (limit_of (unsigned_abs v) made trials)) eb)
    (omega (arith, slack_most b (trials - made - 1) trials (omega arith)))

pub can_undo : (lost : Bool) (flips slots : ℕ) → IsTrue lost ↔ (slots < flips) → not lost ≡ true → flips ≤ slots
can_undo true flips slots h e = absurd (cc)
can_undo false flips slots h e =
    ⊎_elim (λ (lt : slots < flips). absurd (cc (h.1 lt))) (λ (le : flips ≤ slots). le) (cases_lt slots flips)

pub can_not : (lost : Bool) (flips slots : ℕ) → IsTrue lost ↔ (slots < flips) → not lost ≡ false → slots < flips
can_not true flips slots h e = h.0 refl
can_not false flips slots h e = absurd (cc)

min_less : (x y : ℕ) → x < y → int_min (pos y) (pos x) ≡ pos x
min_less x y lt = grind (arith, ints)

min_more : (x y : ℕ) → y ≤ x → int_min (pos y) (pos x) ≡ pos y
min_more x y le = grind (arith, ints)

-- what is undone can be
pub undone_can : (f c b l : ℤ) (can : Bool) (o : Outcome) → IsJudged f c b l can o → o ≡ Undone → can ≡ true
undone_can f c b l can Idle j e = absurd j
undone_can f c b l can Better j e = absurd (cc)
undone_can f c b l can Kept j e = absurd (cc)
undone_can f c b l can Undone j e = j.1
undone_can f c b l can Restored j e = absurd (cc)

-- costs of rings have room in 64 bits
pub few_cost : (d : ℕ → ℕ → ℕ) (C : List ℕ) (n : ℕ) → n ≡ length C → n ≤ CITY_LIMIT → ((a b : ℕ) → d a b ≡ d b a) →
    ((a b : ℕ) → d a b ≤ DISTANCE_LIMIT) → tour_length d C ≤ 400000000000000
few_cost d C n e le s most =
    let few : length C ≤ CITY_LIMIT = omega (arith, e, le) in
    omega (arith, fits_length d C (s, most) few)

module _ (dist : ℕ → ℕ → ℕ) (limit slots flips : ℕ) (ring best found : List ℕ) where
  module _ (f c b l : ℤ) (can : Bool) (ef : f ≡ pos (tour_length dist found)) (ec : c ≡ pos (tour_length dist ring))
      (eb : b ≡ pos (tour_length dist best)) (el : l ≡ pos limit) where
    pub settled_of : (settled new_ring new_best : List ℕ) → (can ≡ true → flips ≤ slots) →
        (can ≡ false → slots < flips) → (flips ≤ slots → settled ≡ ring) → (o : Outcome) →
        IsJudged f c b l can o → Settles o settled found best new_ring new_best →
        IsSettled dist limit slots flips ring best found o new_ring new_best
    settled_of settled nr nb may cant same Idle j s = j
    settled_of settled nr nb may cant same Better j s = (omega (arith, ints, j, ef, eb), s.0, s.1)
    settled_of settled nr nb may cant same Kept j s =
        (omega (arith, ints, j.0, ef, eb), omega (arith, ints, j.1, ef, el), s.0, s.1)
    settled_of settled nr nb may cant same Undone j s =
        (omega (arith, ints, j.0, ef, el), may j.1, omega (arith, ints, j.2, ec, el), s.0 ∙ same (may j.1), s.1)
    settled_of settled nr nb may cant same Restored j s = (
      omega (arith, ints, j.0, ef, el),
      ⊎_elim (λ e. inl (cant e)) (λ lt. inr (omega (arith, ints, lt, ec, el))) j.1,
      s.0,
      s.1,
    )

    -- the costs of the current ring and of the best after the trial
    pub cost_is : (o : Outcome) (new_ring new_best : List ℕ) →
        IsSettled dist limit slots flips ring best found o new_ring new_best →
        cost_after o f c b ≡ pos (tour_length dist new_ring)
    cost_is Idle nr nb s = absurd s
    cost_is Better nr nb s = ef ∙ ap (λ v. pos (tour_length dist v)) (sym s.1)
    cost_is Kept nr nb s = ef ∙ ap (λ v. pos (tour_length dist v)) (sym s.2)
    cost_is Undone nr nb s = ec ∙ ap (λ v. pos (tour_length dist v)) (sym s.3)
    cost_is Restored nr nb s = eb ∙ ap (λ v. pos (tour_length dist v)) (sym s.2)

    pub shortest_is : (o : Outcome) (new_ring new_best : List ℕ) → tour_length dist best ≤ limit →
        IsSettled dist limit slots flips ring best found o new_ring new_best →
        int_min b f ≡ pos (tour_length dist new_best)
    shortest_is Idle nr nb low s = absurd s
    shortest_is Better nr nb low s =
        rw (eb, ef) (min_less _ _ s.0) ∙ ap (λ v. pos (tour_length dist v)) (sym s.2)
    shortest_is Kept nr nb low s =
        rw (eb, ef) (min_more _ _ s.0) ∙ ap (λ v. pos (tour_length dist v)) (sym s.3)
    shortest_is Undone nr nb low s =
        rw (eb, ef) (min_more _ _ (omega (arith, s.0, low))) ∙ ap (λ v. pos (tour_length dist v)) (sym s.4)
    shortest_is Restored nr nb low s =
        rw (eb, ef) (min_more _ _ (omega (arith, s.0, low))) ∙ ap (λ v. pos (tour_length dist v)) (sym s.3)

  -- what the three rings have, those after the trial have
  pub kept : (P : List ℕ → Type 0) → P ring → P best → P found → (o : Outcome) (new_ring new_best : List ℕ) →
      IsSettled dist limit slots flips ring best found o new_ring new_best → P new_ring × P new_best
  kept P pr pb pf Idle nr nb s = absurd s
  kept P pr pb pf Better nr nb s = (subst P (sym s.1) pf, subst P (sym s.2) pf)
  kept P pr pb pf Kept nr nb s = (subst P (sym s.2) pf, subst P (sym s.3) pb)
  kept P pr pb pf Undone nr nb s = (subst P (sym s.3) pr, subst P (sym s.4) pb)
  kept P pr pb pf Restored nr nb s = (subst P (sym s.2) pb, subst P (sym s.3) pb)
