-- What one more joint does to the parts, by numbers alone.
use Rattle.std.proofs.Common.{◌≡◌, ◌≢◌, ℕ, suc, zero, ◌+◌, List, ◌∷◌, refl, sym, ◌∙◌, ◌⊎◌, ◌↔◌, inl, inr, arith, ⊎_elim}
use Rattle.std.proofs.lemmas.Bool.{eq-eqb, ne_eqb, cond-true, cond-false, cases_eq}
use Rattle.tk_starts.specs.Joints.{part, part_load}
use Rattle.tk_starts.specs.declared.merges.pairs.Pair.{Pair}

-- the part of a city of the second part
pub part-second : (E : List Pair) (e : Pair) (c : ℕ) → part E c ≡ part E e.j → part (e ∷ E) c ≡ part E e.i
unfolding part
part-second E e c h = cond-true _ _ _ (eq-eqb _ _ h)

-- the part of any other city
pub part-other : (E : List Pair) (e : Pair) (c : ℕ) → part E c ≢ part E e.j → part (e ∷ E) c ≡ part E c
unfolding part
part-other E e c h = cond-false _ _ _ (ne_eqb _ _ h)

-- the part of a city of the first part, where the two differ
pub part-first : (E : List Pair) (e : Pair) (c : ℕ) → part E e.i ≢ part E e.j → part E c ≡ part E e.i →
    part (e ∷ E) c ≡ part E e.i
part-first E e c apart h = part-other E e c (λ k. apart (sym h ∙ k)) ∙ h

-- who is in the new part
pub part-joined : (E : List Pair) (e : Pair) (c : ℕ) → part E e.i ≢ part E e.j → part (e ∷ E) c ≡ part E e.i →
    (part E c ≡ part E e.i) ⊎ (part E c ≡ part E e.j)
part-joined E e c apart h =
    ⊎_elim (λ k. inr k) (λ k. inl (sym (part-other E e c k) ∙ h)) (cases_eq (part E c) (part E e.j))

-- a part that is neither of the two stays
pub part-stays : (E : List Pair) (e : Pair) (c b : ℕ) → part E c ≢ part E e.i → part E c ≢ part E e.j →
    (part (e ∷ E) b ≡ part (e ∷ E) c) ↔ (part E b ≡ part E c)
part-stays E e c b p q = (
  λ h. ⊎_elim (λ k. absurd (p (sym (sym (part-second E e b k) ∙ (h ∙ part-other E e c q)))))
      (λ k. sym (part-other E e b k) ∙ (h ∙ part-other E e c q)) (cases_eq (part E b) (part E e.j)),
  λ h. part-other E e b (λ k. q (sym h ∙ k)) ∙ (h ∙ sym (part-other E e c q)),
)

-- the loads of two parts make that of the new one
pub part_load-joined : (load : ℕ → ℕ) (E : List Pair) (e : Pair) (n : ℕ) → part E e.i ≢ part E e.j →
    part_load load (e ∷ E) n (part E e.i) ≡ part_load load E n (part E e.i) + part_load load E n (part E e.j)
unfolding part_load
part_load-joined load E e zero apart = refl
part_load-joined load E e (suc n) apart =
    let ih = part_load-joined load E e n apart in
    ⊎_elim
    (λ k.
    let t : part (e ∷ E) (suc n) ≡ part E e.i = part-second E e (suc n) k in
    let a = cond-true _ (load (suc n)) 0 (eq-eqb _ _ t) in
    let b = cond-true _ (load (suc n)) 0 (eq-eqb _ _ k) in
    let c = cond-false _ (load (suc n)) 0 (ne_eqb _ _ (λ (z : part E (suc n) ≡ part E e.i). apart (sym z ∙ k))) in
    omega (arith, ih, a, b, c))
    (λ k.
    let t = part-other E e (suc n) k in
    let b = cond-false _ (load (suc n)) 0 (ne_eqb _ _ k) in
    rw (t, b) (omega (arith, ih)))
    (cases_eq (part E (suc n)) (part E e.j))

-- and leave those of the others
pub part_load-stays : (load : ℕ → ℕ) (E : List Pair) (e : Pair) (n name : ℕ) → name ≢ part E e.i → name ≢ part E e.j →
    part_load load (e ∷ E) n name ≡ part_load load E n name
unfolding part_load
part_load-stays load E e zero name p q = refl
part_load-stays load E e (suc n) name p q =
    let ih = part_load-stays load E e n name p q in
    ⊎_elim
    (λ k.
    let t = part-second E e (suc n) k in
    let a = cond-false _ (load (suc n)) 0 (ne_eqb _ _ (λ (z : part (e ∷ E) (suc n) ≡ name). p (sym z ∙ t))) in
    let b = cond-false _ (load (suc n)) 0 (ne_eqb _ _ (λ (z : part E (suc n) ≡ name). q (sym z ∙ k))) in
    omega (arith, ih, a, b))
    (λ k. let t = part-other E e (suc n) k in rw t (omega (arith, ih)))
    (cases_eq (part E (suc n)) (part E e.j))
