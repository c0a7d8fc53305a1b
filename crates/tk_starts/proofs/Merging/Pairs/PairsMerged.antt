-- The loop over the pairs: how it begins, and its step.
use Rattle.std.proofs.Common.{drop, get_or, length, ◌≡◌, ◌≢◌, ℕ, suc, zero, ◌+◌, ◌-◌, ◌≤◌, ◌<◌, Bool, true, false, ◌||◌}
use Rattle.std.proofs.Common.{◌&&◌, not, eqb, leb, List, [], ◌∷◌, refl, sym, ap, ◌∙◌, inl, arith, ⊎_elim}
use Rattle.std.proofs.Common.{subst}
use Rattle.std.proofs.lemmas.Bool.{eqb-true, eq-eqb, ne_eqb, or_cases, or_left, both_ways, cases_eq, cond-true}
use Rattle.std.proofs.lemmas.Bool.{cond-false, cond_both, leb-true, and_parts, not-true}
use Rattle.std.specs.List.{Contains}
use Rattle.tk_distance.specs.Cities.{IsCity}
use Rattle.tk_starts.specs.Joints.{part, part_load, joints_at, may_join, joints, IsChain}
use Rattle.tk_starts.specs.PathEnds.{Follows, IsLinked, IsEnd, AreEnds, IsSetAt, IsPairWithin}
use Rattle.std.proofs.lemmas.List.{drop_more, drop_all}
use Rattle.tk_starts.specs.declared.merges.pairs.Pair.{Pair}
use Rattle.tk_starts.proofs.Merging.Paths.EndsJoined.{AreEnds-joined, other_end}
use Rattle.tk_starts.proofs.Merging.Paths.JoinTest.{apart_test, is_end-from, may_join-test}

part_load-none : (load : ℕ → ℕ) (n c : ℕ) → n < c → part_load load [] n c ≡ 0
unfolding part_load part
part_load-none load zero c h = refl
part_load-none load (suc n) c h =
    let ih = part_load-none load n c (omega (arith, h)) in
    let ne : suc n ≢ c = λ e. omega (arith, h, e) in
    rw (ne_eqb (suc n) c ne) (omega (arith, ih))

pub part_load-single : (load : ℕ → ℕ) (n c : ℕ) → 1 ≤ c → c ≤ n → part_load load [] n c ≡ load c
unfolding part_load part
part_load-single load zero c a b = absurd (omega (arith, a, b))
part_load-single load (suc n) c a b =
    ⊎_elim
    (λ (e : suc n ≡ c). let none = part_load-none load n c (omega (arith, e)) in
    rw (eq-eqb (suc n) c e, none, ap load e) (omega arith))
    (λ (e : suc n ≢ c). let ih = part_load-single load n c a (omega (arith, b, e)) in
    rw (ne_eqb (suc n) c e) (omega (arith, ih)))
    (cases_eq (suc n) c)

pub part-none : (c : ℕ) → part [] c ≡ c
unfolding part
part-none c = refl

-- each city by itself
pub AreEnds-single : (n : ℕ) (load : ℕ → ℕ) (one two other weight : ℕ → ℕ) →
    ((c : ℕ) → IsCity n c → (one c ≡ 0) × (two c ≡ 0) × (other c ≡ c) × (weight c ≡ load c)) →
    AreEnds n load [] one two other weight
unfolding joints_at part IsChain Follows
AreEnds-single n load one two other weight s = record {
  degree = λ c r. let t = s c r in rw (t.0, t.1);
  paths = λ c r h. (
    [],
    record {
      last = sym (s c r).2;
      chain = tt;
      distinct = (refl, tt);
      whole =
          λ b. (
            λ k. ⊎_elim (λ w. sym (eqb-true c b w)) (λ w. absurd (both_ways _ refl w)) (or_cases _ _ k),
            λ k. or_left _ _ (eq-eqb c b (sym k)),
          );
      inside = λ b k. ⊎_elim (λ w. subst (λ (x : ℕ). IsCity n x) (eqb-true c b w) r) (λ w. absurd (both_ways _ refl w))
          (or_cases _ _ k);
      follows = inl ((s c r).0, (s c r).1);
    },
  );
  back = λ c r h. (subst (λ (x : ℕ). IsEnd one two x) (sym (s c r).2) h, ap other (s c r).2 ∙ (s c r).2);
  only = λ c d rc rd hc hd k. inl k;
  total = λ c r h. (s c r).3 ∙ sym (part_load-single load n c r.0 r.1);
  covered = λ c r. (c, (r, inl (s c r).0, refl));
}

-- a pair that is taken
pub joints-taken : (load : ℕ → ℕ) (n capacity : ℕ) (E : List Pair) (p : Pair) (pairs : List Pair) →
    may_join load n capacity E p ≡ true → joints load n capacity E (p ∷ pairs) ≡ joints load n capacity (p ∷ E) pairs
unfolding joints
joints-taken load n capacity E p pairs h =
    ap (λ (x : List Pair). joints load n capacity x pairs) (cond-true _ (p ∷ E) E h)

-- a pair that is left
pub joints-left : (load : ℕ → ℕ) (n capacity : ℕ) (E : List Pair) (p : Pair) (pairs : List Pair) →
    may_join load n capacity E p ≡ false → joints load n capacity E (p ∷ pairs) ≡ joints load n capacity E pairs
unfolding joints
joints-left load n capacity E p pairs h =
    ap (λ (x : List Pair). joints load n capacity x pairs) (cond-false _ (p ∷ E) E h)

pub joints-none : (load : ℕ → ℕ) (n capacity : ℕ) (E : List Pair) → joints load n capacity E [] ≡ E
unfolding joints
joints-none load n capacity E = refl

-- what holds at first and after each joint that the rule takes holds of all joints
pub joints_keep : (Q : List Pair → Type 0) (load : ℕ → ℕ) (n capacity : ℕ) (pairs E : List Pair) →
    ((p : Pair) (E : List Pair) → Contains pairs p → may_join load n capacity E p ≡ true → Q E → Q (p ∷ E)) → Q E →
    Q (joints load n capacity E pairs)
unfolding joints
joints_keep Q load n capacity [] E keeps q = q
joints_keep Q load n capacity (p ∷ pairs) E keeps q =
    joints_keep Q load n capacity pairs _ (λ r F c. keeps r F (suc c.0, omega (arith, c.1), c.2))
    (cond_both (may_join load n capacity E p) (p ∷ E) E Q (λ h. keeps p E (0, omega arith, refl) h q) (λ _. q))

-- what the test says of the two cities
pub record IsTaken (n : ℕ) (E : List Pair) (one two other weight : ℕ → ℕ) (capacity : ℕ) (p : Pair) : Type 0 where
  pub first : IsEnd one two p.i
  pub second : IsEnd one two p.j
  pub apart : part E p.i ≢ part E p.j
  pub far : IsCity n (other p.i) × IsCity n (other p.j) × (other p.i ≢ other p.j)
  pub fits : weight p.i + weight p.j ≤ capacity

pub IsTaken-from : {n : ℕ} {load : ℕ → ℕ} {E : List Pair} {one two other weight : ℕ → ℕ} →
    AreEnds n load E one two other weight → (p : Pair) → IsCity n p.i → IsCity n p.j → p.i ≢ p.j → (capacity : ℕ) →
    ((eqb (one p.i) 0 || eqb (two p.i) 0) && (eqb (one p.j) 0 || eqb (two p.j) 0) && not (eqb (other p.i) p.j)
    && leb (weight p.j) capacity && leb (weight p.i) (capacity - weight p.j)) ≡ true →
    IsTaken n E one two other weight capacity p
IsTaken-from {n} {load} {E} {one} {two} {other} {weight} s p ri rj ne capacity h =
    let a = and_parts _ _ h in
    let b = and_parts _ _ a.0 in
    let d = and_parts _ _ b.0 in
    let f = and_parts _ _ d.0 in
    let hi = is_end-from _ _ f.0 in
    let hj = is_end-from _ _ f.1 in
    let oi = other_end s p.i ri hi in
    let oj = other_end s p.j rj hj in
    let ap' : part E p.i ≢ part E p.j =
    λ k. both_ways _ (not-true _ (sym (apart_test s p.i p.j ri rj ne hi hj) ∙ d.1))
    (eq-eqb _ _ k) in
    record {
      first = hi;
      second = hj;
      apart = ap';
      far = (oi.0, oj.0, λ k. ap' (sym oi.1 ∙ (ap (part E) k ∙ oj.1)));
      fits = omega (arith, leb-true _ _ b.1, leb-true _ _ a.1);
    }

-- the test of the arrays, at a pair
abbrev pub test_at : (one two other weight : ℕ → ℕ) → ℕ → Pair → Bool
test_at one two other weight capacity p =
    (eqb (one p.i) 0 || eqb (two p.i) 0) && (eqb (one p.j) 0 || eqb (two p.j) 0) && not (eqb (other p.i) p.j)
    && leb (weight p.j) capacity && leb (weight p.i) (capacity - weight p.j)

-- the joints of what is left of the pairs, and the arrays of those made
pub record Going (n : ℕ) (load : ℕ → ℕ) (capacity : ℕ) (pairs : List Pair) (k : ℕ) (one two other weight : ℕ → ℕ) :
    Type 0 where
  pub made : List Pair
  pub rest : joints load n capacity made (drop k pairs) ≡ joints load n capacity [] pairs
  pub ends : AreEnds n load made one two other weight

-- what is left, from the pair at k on
at_next : (pairs : List Pair) (k : ℕ) (p : Pair) → k < length pairs → p ≡ get_or pairs k p →
    drop k pairs ≡ p ∷ drop (k + 1) pairs
at_next pairs k p l is = drop_more pairs k p l ∙ ap (λ (x : Pair). x ∷ drop (k + 1) pairs) (sym is)

pub taken_step : {n : ℕ} {load : ℕ → ℕ} {capacity : ℕ} {pairs : List Pair} {k : ℕ} {p : Pair}
    {one two other weight one' two' other' weight' : ℕ → ℕ} → k < length pairs → p ≡ get_or pairs k p →
    IsPairWithin n p → true ≡ test_at one two other weight capacity p →
    IsLinked p.i p.j one two one' two' →
    IsSetAt (other p.i) (other p.j) (other p.j) (other p.i) other other' →
    IsSetAt (other p.i) (weight p.i + weight p.j) (other p.j) (weight p.i + weight p.j) weight weight' →
    Going n load capacity pairs k one two other weight → Going n load capacity pairs (k + 1) one' two' other' weight'
taken_step {n} {load} {capacity} {pairs} {k} {p} {one} {two} {other} {weight} {one'} {two'} {other'} {weight'}
    l is w t a b c g =
    let u = may_join-test g.ends p w.0 w.1 w.2 capacity in
    let v = IsTaken-from g.ends p w.0 w.1 w.2 capacity (sym t) in
    let e = joints-taken load n capacity g.made p (drop (k + 1) pairs) (sym u ∙ sym t) in
    record {
      made = p ∷ g.made;
      rest = sym e ∙ (ap (joints load n capacity g.made) (sym (at_next pairs k p l is)) ∙ g.rest);
      ends = AreEnds-joined n load g.made p one two other weight one' two' other' weight'
          (record {
            ends = g.ends;
            first = (w.0, v.first);
            second = (w.1, v.second);
            apart = v.apart;
            linked = a;
            far = b;
            heavy = c;
          });
    }

pub left_step : {n : ℕ} {load : ℕ → ℕ} {capacity : ℕ} {pairs : List Pair} {k : ℕ} {p : Pair}
    {one two other weight : ℕ → ℕ} → k < length pairs → p ≡ get_or pairs k p →
    IsPairWithin n p → false ≡ test_at one two other weight capacity p →
    Going n load capacity pairs k one two other weight → Going n load capacity pairs (k + 1) one two other weight
left_step {n} {load} {capacity} {pairs} {k} {p} l is w t g =
    let u = may_join-test g.ends p w.0 w.1 w.2 capacity in
    let e = joints-left load n capacity g.made p (drop (k + 1) pairs) (sym u ∙ sym t) in
    record {
      made = g.made;
      rest = sym e ∙ (ap (joints load n capacity g.made) (sym (at_next pairs k p l is)) ∙ g.rest);
      ends = g.ends;
    }

pub going_ends : {n : ℕ} {load : ℕ → ℕ} {capacity : ℕ} {pairs : List Pair} {k : ℕ} {one two other weight : ℕ → ℕ} →
    length pairs ≤ k → Going n load capacity pairs k one two other weight →
    AreEnds n load (joints load n capacity [] pairs) one two other weight
going_ends {n} {load} {capacity} {pairs} {k} {one} {two} {other} {weight} l g =
    let e : drop k pairs ≡ [] = drop_all k pairs l in
    subst (λ (E : List Pair). AreEnds n load E one two other weight) (sym (joints-none load n capacity g.made)
    ∙ (ap (joints load n capacity g.made) (sym e) ∙ g.rest)) g.ends
