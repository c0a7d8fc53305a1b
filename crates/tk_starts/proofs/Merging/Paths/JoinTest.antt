-- What the code tests before a joint is what the rule asks.
use Rattle.std.proofs.Common.{◌≡◌, ◌≢◌, ℕ, ◌+◌, ◌≤◌, ◌<◌, Bool, true, false, ◌||◌, ◌&&◌, eqb, List}
use Rattle.std.proofs.Common.{refl, sym, ap, ◌∙◌, ◌⊎◌, inl, inr, arith, ⊎_elim, leb, not, ◌-◌}
use Rattle.std.proofs.lemmas.Bool.{eqb-true, eq-eqb, ne_eqb, or_cases, or_left, or_right, or_from, and_from}
use Rattle.std.proofs.lemmas.Bool.{cases_eq, cond-true, cond-false, le-leb, lt-leb}
use Rattle.std.proofs.lemmas.Bool.{cases_lt, and_left, and_right}
use Rattle.tk_distance.specs.Cities.{IsCity}
use Rattle.tk_starts.specs.Joints.{part, may_join}
use Rattle.tk_starts.specs.PathEnds.{IsEnd, AreEnds, one_if}
use Rattle.tk_starts.specs.declared.merges.pairs.Pair.{Pair}
use Rattle.tk_starts.proofs.Merging.Paths.EndsJoined.{one_if-above, other_end}

one_if-most : (x : ℕ) → one_if x ≤ 1
one_if-most x = ⊎_elim (λ (h : x ≡ 0). let e : one_if x ≡ 0 = cond-true _ 0 1 (eq-eqb x 0 h) in omega (arith, e))
    (λ (h : x ≢ 0). let e : one_if x ≡ 1 = cond-false _ 0 1 (ne_eqb x 0 h) in omega (arith, e)) (cases_eq x 0)

-- the tests of the arrays are those of the joints
end_test : (p q d : ℕ) → d ≡ one_if p + one_if q → (eqb p 0 || eqb q 0) ≡ leb d 1
end_test p q d e =
    ⊎_elim
    (λ (h : p ≡ 0). or_left _ _ (eq-eqb p 0 h) ∙ sym (le-leb d 1 (omega (arith, e, ap one_if h, one_if-most q))))
    (λ (h : p ≢ 0). ⊎_elim
    (λ (k : q ≡ 0). or_right _ _ (eq-eqb q 0 k) ∙ sym (le-leb d 1 (omega (arith, e, ap one_if k, one_if-most p))))
    (λ (k : q ≢ 0). or_from _ _ (ne_eqb p 0 h) (ne_eqb q 0 k)
    ∙ sym (lt-leb d 1 (omega (arith, e, one_if-above p (omega (arith, h)), one_if-above q (omega (arith, k))))))
    (cases_eq q 0))
    (cases_eq p 0)

pub is_end-from : (p q : ℕ) → (eqb p 0 || eqb q 0) ≡ true → (p ≡ 0) ⊎ (q ≡ 0)
is_end-from p q h = ⊎_elim (λ k. inl (eqb-true p 0 k)) (λ k. inr (eqb-true q 0 k)) (or_cases _ _ h)

-- of two ends, the one is the other's other end where they are in one part
pub apart_test : {n : ℕ} {load : ℕ → ℕ} {E : List Pair} {one two other weight : ℕ → ℕ} →
    AreEnds n load E one two other weight → (i j : ℕ) → IsCity n i → IsCity n j → i ≢ j → IsEnd one two i →
    IsEnd one two j → not (eqb (other i) j) ≡ not (eqb (part E i) (part E j))
apart_test {E = E} {other = other} s i j ri rj ne hi hj =
    ⊎_elim
    (λ (h : other i ≡ j). ap not (eq-eqb _ _ h
    ∙ sym (eq-eqb _ _ (sym (other_end s i ri hi).1 ∙ ap (part E) h))))
    (λ (h : other i ≢ j). ap not (ne_eqb _ _ h
    ∙ sym
    (ne_eqb _ _ (λ (k : part E i ≡ part E j). ⊎_elim (λ w. ne (sym w)) (λ w. h (sym w))
    (s.only i j ri rj hi hj (sym k))))))
    (cases_eq (other i) j)

load_test : (a b capacity : ℕ) → (leb b capacity && leb a (capacity - b)) ≡ leb (a + b) capacity
load_test a b capacity =
    ⊎_elim
    (λ (h : capacity < a + b). ⊎_elim
    (λ (k : capacity < b). and_left _ _ (lt-leb b capacity k) ∙ sym (lt-leb (a + b) capacity h))
    (λ (k : b ≤ capacity). and_right _ _ (lt-leb a (capacity - b) (omega (arith, h, k)))
    ∙ sym (lt-leb (a + b) capacity h))
    (cases_lt capacity b))
    (λ (h : a + b ≤ capacity). and_from _ _ (le-leb b capacity (omega (arith, h)))
    (le-leb a (capacity - b) (omega (arith, h))) ∙ sym (le-leb (a + b) capacity h))
    (cases_lt capacity (a + b))

and_assoc : (a b c : Bool) → (a && b && c) ≡ (a && (b && c))
and_assoc true b c = refl
and_assoc false b c = refl

-- two tests, and others that may count on them
by_ends_at : (a b c c' d e f : Bool) → (a ≡ true → b ≡ true → c ≡ c') → (a ≡ true → b ≡ true → (d && e) ≡ f) →
    (a && b && c && d && e) ≡ (a && b && c' && f)
by_ends_at false b c c' d e f r s = refl
by_ends_at true false c c' d e f r s = refl
by_ends_at true true c c' d e f r s = and_assoc c d e
    ∙ (ap (λ (x : Bool). x && (d && e)) (r refl refl) ∙ ap (λ (x : Bool). c' && x) (s refl refl))

-- the test of the code is that of the rule
pub may_join-test : {n : ℕ} {load : ℕ → ℕ} {E : List Pair} {one two other weight : ℕ → ℕ} →
    AreEnds n load E one two other weight → (p : Pair) → IsCity n p.i → IsCity n p.j → p.i ≢ p.j → (capacity : ℕ) →
    ((eqb (one p.i) 0 || eqb (two p.i) 0) && (eqb (one p.j) 0 || eqb (two p.j) 0) && not (eqb (other p.i) p.j)
    && leb (weight p.j) capacity && leb (weight p.i) (capacity - weight p.j)) ≡ may_join load n capacity E p
unfolding may_join
may_join-test {n} {load} {E} {one} {two} {other} {weight} s p ri rj ne capacity =
    let ti = end_test (one p.i) (two p.i) _ (s.degree p.i ri) in
    let tj = end_test (one p.j) (two p.j) _ (s.degree p.j rj) in
    rw (← ti, ← tj) (by_ends_at _ _ _ _ _ _ _
    (λ a b. apart_test s p.i p.j ri rj ne (is_end-from _ _ a) (is_end-from _ _ b))
    (λ a b. load_test (weight p.i) (weight p.j) capacity
    ∙ ap (λ (x : ℕ). leb x capacity)
    (omega (arith, s.total p.i ri (is_end-from _ _ a), s.total p.j rj (is_end-from _ _ b)))))
