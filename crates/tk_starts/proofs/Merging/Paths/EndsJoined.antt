-- The arrays after one more joint.
use Rattle.std.proofs.Common.{◌≡◌, ◌≢◌, ℕ, ◌+◌, ◌<◌, Bool, true, false, cond, ◌||◌, eqb, List, [], ◌∷◌, ◌++◌}
use Rattle.std.proofs.Common.{refl, sym, ap, ◌∙◌, ◌⊎◌, ◌↔◌, inl, inr, arith, ⊎_elim, subst}
use Rattle.std.proofs.lemmas.Bool.{eq-eqb, ne_eqb, or_left, or_right, or_from}
use Rattle.std.proofs.lemmas.Bool.{false_from_ne_true, both_ways, cases_eq, cond-true, cond-false}
use Rattle.tk_distance.specs.Holding.{holds, IsDistinct}
use Rattle.tk_distance.specs.Cities.{IsCity}
use Rattle.tk_starts.specs.Joints.{part, part_load, joints_at, joined, last_from}
use Rattle.tk_starts.specs.PathEnds.{AreBoth, Follows, IsLinked, IsEnd, IsPathOf, AreEnds, IsJoin, one_if}
use Rattle.tk_starts.specs.declared.merges.pairs.Pair.{Pair}
use Rattle.tk_starts.proofs.Merging.Parts.PartsJoined.{part-second, part-other, part-first, part-joined, part-stays}
use Rattle.tk_starts.proofs.Merging.Parts.PartsJoined.{part_load-joined, part_load-stays}
use Rattle.tk_starts.proofs.Merging.Paths.PathLists.{holds-here, holds-last, holds-left, holds-right, holds-append}
use Rattle.tk_starts.proofs.Merging.Paths.PathLists.{last_from-append, IsDistinct-append, IsChain-more, IsChain-append}
use Rattle.tk_starts.proofs.Merging.Paths.PathLists.{AreBoth-flip, Follows-stays, Follows-after, Follows-append}
use Rattle.tk_starts.proofs.Merging.Paths.PathLists.{joined-first, joined-second}

-- the path from a to i, and on from j to z
new_path : {n : ℕ} {E : List Pair} (e : Pair) {one two one' two' : ℕ → ℕ} {i j a z : ℕ} {xs ys : List ℕ} →
    IsPathOf n E one two a i xs → IsPathOf n E one two j z ys → part E i ≢ part E j → part E a ≡ part E i →
    joined (e ∷ E) i j ≡ true →
    ((c : ℕ) → (part (e ∷ E) c ≡ part (e ∷ E) a) ↔ ((part E c ≡ part E i) ⊎ (part E c ≡ part E j))) →
    IsLinked i j one two one' two' → IsPathOf n (e ∷ E) one' two' a z (xs ++ j ∷ ys)
new_path {n} {E} e {one} {two} {one'} {two'} {i} {j} {a} {z} {xs} {ys} P Q apart pa jn whole l =
    let no : (b : ℕ) → holds (a ∷ xs) b ≡ true → holds (j ∷ ys) b ≡ true →
    ⊥ = λ b p q. apart (sym pa ∙ (sym ((P.whole b).0 p) ∙ (Q.whole b).0 q)) in
    let hi : holds (a ∷ xs) i ≡ true = subst (λ (w : ℕ). holds (a ∷ xs) w ≡ true) P.last (holds-last a xs) in
    let hj : holds (j ∷ ys) j ≡ true = holds-here j ys in
    record {
      last = last_from-append a xs j ys ∙ Q.last;
      chain =
          IsChain-append (e ∷ E) a xs j ys (IsChain-more E e a xs P.chain)
          (subst (λ (w : ℕ). joined (e ∷ E) w j ≡ true) (sym P.last) jn) (IsChain-more E e j ys Q.chain);
      distinct = IsDistinct-append (a ∷ xs) (j ∷ ys) P.distinct Q.distinct no;
      whole = λ b. (
        λ h. (whole b).1
            (⊎_elim (λ p. inl ((P.whole b).0 p ∙ pa)) (λ q. inr ((Q.whole b).0 q))
            (holds-append (a ∷ xs) (j ∷ ys) b h)),
        λ h. ⊎_elim (λ p. holds-left (a ∷ xs) (j ∷ ys) b ((P.whole b).1 (p ∙ sym pa)))
            (λ q. holds-right (a ∷ xs) (j ∷ ys) b ((Q.whole b).1 q)) ((whole b).0 h),
      );
      inside = λ b h. ⊎_elim (P.inside b) (Q.inside b) (holds-append (a ∷ xs) (j ∷ ys) b h);
      follows = Follows-append one two one' two' i j 0 a xs ys l P.last (Q.inside j hj).0 P.distinct
          (false_from_ne_true _ (λ w. no j w hj)) P.follows
          (Follows-after one two one' two' i j ys l Q.distinct
          (false_from_ne_true _ (λ w. no i hi (or_right _ _ w))) Q.follows);
    }

pub IsLinked-flip : (i j : ℕ) (one two one' two' : ℕ → ℕ) → IsLinked i j one two one' two' →
    IsLinked j i one two one' two'
IsLinked-flip i j one two one' two' l = record { first = l.second; second = l.first; rest = λ c p q. l.rest c q p }

both_above : (p q x y : ℕ) → AreBoth p q x y → 0 < x → 0 < y → (p ≡ 0) ⊎ (q ≡ 0) → ⊥
both_above p q x y h a b k = omega arith

-- an end that got a neighbour is an end still only where it was a path of its own
still_end : {one two one' two' : ℕ → ℕ} {i j : ℕ} (z : ℕ) (xs : List ℕ) → IsLinked i j one two one' two' → 0 < j →
    last_from i xs ≡ z → Follows one two 0 i xs → IsEnd one' two' i → i ≡ z
unfolding Follows
still_end z [] l pos e f h = e
still_end {j = j} z (d ∷ xs) l pos e f h =
    absurd (both_above _ _ d j (l.first d (AreBoth-flip _ _ 0 d f.0)) f.1 pos h)

single_end : (one two one' two' : ℕ → ℕ) (i j z : ℕ) (xs : List ℕ) → IsLinked i j one two one' two' →
    last_from i xs ≡ z → Follows one two 0 i xs → IsDistinct (i ∷ xs) → i ≡ z → IsEnd one' two' i
unfolding Follows
single_end one two one' two' i j z [] l e f d h = ⊎_elim (λ k. inl k.0) (λ k. inr k.1) (l.first 0 f)
single_end one two one' two' i j z (x ∷ xs) l e f d h =
    absurd (both_ways _ d.0 (subst (λ (w : ℕ). holds (x ∷ xs) w ≡ true) (e ∙ sym h) (holds-last x xs)))

both_count : (p q x y : ℕ) → AreBoth p q x y → one_if p + one_if q ≡ one_if x + one_if y
both_count p q x y h =
    ⊎_elim (λ k. rw (k.0, k.1)) (λ k. rw (k.0, k.1) (omega arith)) h

pub one_if-above : (x : ℕ) → 0 < x → one_if x ≡ 1
one_if-above x h = cond-false _ 0 1 (ne_eqb x 0 (λ (k : x ≡ 0). omega (arith, h, k)))

-- an end has one neighbour more
linked_count : (one two one' two' : ℕ → ℕ) (i j : ℕ) → IsLinked i j one two one' two' → 0 < j → IsEnd one two i →
    one_if (one' i) + one_if (two' i) ≡ 1 + (one_if (one i) + one_if (two i))
linked_count one two one' two' i j l pos h =
    ⊎_elim
    (λ k.
    let a : AreBoth (one i) (two i) (two i) 0 = inr (k, refl) in
    omega (arith, both_count _ _ _ _ a, both_count _ _ _ _ (l.first (two i) a), one_if-above j pos))
    (λ k.
    let a : AreBoth (one i) (two i) (one i) 0 = inl (refl, k) in
    omega (arith, both_count _ _ _ _ a, both_count _ _ _ _ (l.first (one i) a), one_if-above j pos))
    h

module _ {n : ℕ} {load : ℕ → ℕ} {E : List Pair} {one two other weight : ℕ → ℕ}
    (s : AreEnds n load E one two other weight) where
  -- the other end of a path
  pub other_end : (c : ℕ) → IsCity n c → IsEnd one two c → IsCity n (other c) × (part E (other c) ≡ part E c)
  other_end c r h =
      let p = s.paths c r h in
      let k : holds (c ∷ p.0) (other c) ≡ true =
      subst (λ (w : ℕ). holds (c ∷ p.0) w ≡ true) p.1.last (holds-last c p.0) in
      (p.1.inside (other c) k, (p.1.whole (other c)).0 k)

  -- an end of another path is in neither part
  elsewhere : (i c : ℕ) → IsCity n i → IsEnd one two i → IsCity n c → IsEnd one two c → c ≢ i → c ≢ other i →
      part E c ≢ part E i
  elsewhere i c ri hi rc hc p q k = ⊎_elim p q (s.only i c ri rc hi hc k)

  -- the first city's other end stays an end
  far_end : (one' two' : ℕ → ℕ) (i j : ℕ) → IsCity n i → IsEnd one two i → part E i ≢ part E j →
      IsLinked i j one two one' two' → IsEnd one' two' (other i)
  far_end one' two' i j ri hi apart l =
      let p = s.paths i ri hi in
      let o = other_end i ri hi in
      ⊎_elim
      (λ (k : i ≡ other i). subst (λ (w : ℕ). IsEnd one' two' w) k
      (single_end one two one' two' i j (other i) p.0 l p.1.last p.1.follows p.1.distinct k))
      (λ (ne : i ≢ other i).
      let z = l.rest (other i) (λ k. ne (sym k)) (λ k. apart (sym o.1 ∙ ap (part E) k)) in
      ⊎_elim (λ w. inl (z.0 ∙ w)) (λ w. inr (z.1 ∙ w)) (s.back i ri hi).0)
      (cases_eq i (other i))

-- a path elsewhere stays
path_stays : (n : ℕ) (E : List Pair) (e : Pair) (one two one' two' : ℕ → ℕ) (c z : ℕ) (xs : List ℕ) →
    IsLinked e.i e.j one two one' two' → part E c ≢ part E e.i → part E c ≢ part E e.j →
    IsPathOf n E one two c z xs → IsPathOf n (e ∷ E) one' two' c z xs
path_stays n E e one two one' two' c z xs l p q P =
    record {
      last = P.last;
      chain = IsChain-more E e c xs P.chain;
      distinct = P.distinct;
      whole = λ b. let w = part-stays E e c b p q in (λ h. w.1 ((P.whole b).0 h), λ h. (P.whole b).1 (w.0 h));
      inside = P.inside;
      follows =
          Follows-stays one two one' two' 0 c xs
          (λ b h. l.rest b (λ k. p (sym ((P.whole b).0 h) ∙ ap (part E) k))
          (λ k. q (sym ((P.whole b).0 h) ∙ ap (part E) k))) P.follows;
    }

-- who is in the new part, seen from a city of it
members : (E : List Pair) (e : Pair) (a c : ℕ) → part E e.i ≢ part E e.j → (part E a ≡ part E e.i)
    ⊎ (part E a ≡ part E e.j) →
    (part (e ∷ E) c ≡ part (e ∷ E) a) ↔ ((part E c ≡ part E e.i) ⊎ (part E c ≡ part E e.j))
members E e a c apart h =
    let t : part (e ∷ E) a ≡ part E e.i = ⊎_elim (λ k. part-first E e a apart k) (λ k. part-second E e a k) h in (
      λ k. part-joined E e c apart (k ∙ t),
      λ k. ⊎_elim (λ w. part-first E e c apart w) (λ w. part-second E e c w) k
          ∙ sym t,
    )

turned : {A B C : Type 0} → (A ↔ (B ⊎ C)) → (A ↔ (C ⊎ B))
turned h = (λ a. ⊎_elim (λ b. inr b) (λ c. inl c) (h.0 a), λ k. h.1 (⊎_elim (λ c. inr c) (λ b. inl b) k))

joints_at-yes : (E : List Pair) (e : Pair) (c : ℕ) → (e.i ≡ c) ⊎ (e.j ≡ c) → joints_at (e ∷ E) c ≡ 1 + joints_at E c
unfolding joints_at
joints_at-yes E e c h =
    let t : (eqb e.i c || eqb e.j c) ≡ true =
    ⊎_elim (λ k. or_left _ _ (eq-eqb _ _ k)) (λ k. or_right _ _ (eq-eqb _ _ k)) h in
    ap (λ (x : ℕ). x + joints_at E c) (cond-true _ 1 0 t)

none_added : (b : Bool) (x : ℕ) → b ≡ false → cond b 1 0 + x ≡ x
none_added true x h = absurd (both_ways _ h refl)
none_added false x h = omega arith

pub joints_at-no : (E : List Pair) (e : Pair) (c : ℕ) → c ≢ e.i → c ≢ e.j → joints_at (e ∷ E) c ≡ joints_at E c
unfolding joints_at
joints_at-no E e c p q =
    let t : (eqb e.i c || eqb e.j c) ≡ false =
    or_from _ _ (ne_eqb _ _ (λ (k : e.i ≡ c). p (sym k))) (ne_eqb _ _ (λ (k : e.j ≡ c). q (sym k))) in
    none_added _ _ t

module _ {n : ℕ} {load : ℕ → ℕ} {E : List Pair} {e : Pair} {one two other weight one' two' other' weight' : ℕ → ℕ}
    (m : IsJoin n load E e one two other weight one' two' other' weight') where
  flipped : IsLinked e.j e.i one two one' two'
  flipped = IsLinked-flip _ _ _ _ _ _ m.linked

  -- the other ends of the two paths that are joined
  first_far : IsCity n (other e.i) × (part E (other e.i) ≡ part E e.i)
  first_far = other_end m.ends e.i m.first.0 m.first.1

  second_far : IsCity n (other e.j) × (part E (other e.j) ≡ part E e.j)
  second_far = other_end m.ends e.j m.second.0 m.second.1

  first_back : IsEnd one two (other e.i) × (other (other e.i) ≡ e.i)
  first_back = m.ends.back e.i m.first.0 m.first.1

  second_back : IsEnd one two (other e.j) × (other (other e.j) ≡ e.j)
  second_back = m.ends.back e.j m.second.0 m.second.1

  -- the cities that end a path after the joint: those two, and the ends of other paths
  abbrev IsNewEnd : ℕ → Type 0
  IsNewEnd c = (c ≡ other e.i) ⊎ (c ≡ other e.j)

  abbrev IsAway : ℕ → Type 0
  IsAway c = (c ≢ other e.i) × (c ≢ other e.j) × (c ≢ e.i) × (c ≢ e.j) × IsEnd one two c

  after : (c : ℕ) → IsEnd one' two' c → IsNewEnd c ⊎ IsAway c
  after c h =
      let pi = m.ends.paths e.i m.first.0 m.first.1 in
      let pj = m.ends.paths e.j m.second.0 m.second.1 in
      ⊎_elim
      (λ (k : c ≡ e.i). inl (inl
      (k ∙ still_end (other e.i) pi.0 m.linked m.second.0.0 pi.1.last pi.1.follows (rw k at h))))
      (λ (ni : c ≢ e.i). ⊎_elim
      (λ (k : c ≡ e.j). inl (inr
      (k ∙ still_end (other e.j) pj.0 flipped m.first.0.0 pj.1.last pj.1.follows (rw k at h))))
      (λ (nj : c ≢ e.j). ⊎_elim
      (λ (k : c ≡ other e.i). inl (inl k))
      (λ (na : c ≢ other e.i). ⊎_elim
      (λ (k : c ≡ other e.j). inl (inr k))
      (λ (nb : c ≢ other e.j).
      let l = m.linked.rest c ni nj in
      inr (na, nb, ni, nj, ⊎_elim (λ w. inl (sym l.0 ∙ w)) (λ w. inr (sym l.1 ∙ w)) h))
      (cases_eq c (other e.j)))
      (cases_eq c (other e.i)))
      (cases_eq c e.j))
      (cases_eq c e.i)

  away : (c : ℕ) → IsCity n c → IsAway c → (part E c ≢ part E e.i) × (part E c ≢ part E e.j)
  away c r k = (
    elsewhere m.ends e.i c m.first.0 m.first.1 r k.4 k.2 k.0,
    elsewhere m.ends e.j c m.second.0 m.second.1 r k.4 k.3 k.1,
  )

  new_part : (c : ℕ) → IsNewEnd c → part (e ∷ E) c ≡ part E e.i
  new_part c k =
      ⊎_elim (λ w. ap (part (e ∷ E)) w ∙ part-first E e (other e.i) m.apart first_far.1)
      (λ w. ap (part (e ∷ E)) w ∙ part-second E e (other e.j) second_far.1) k

  new_end : (c : ℕ) → IsNewEnd c → IsEnd one' two' c
  new_end c k =
      ⊎_elim
      (λ w. subst (λ (x : ℕ). IsEnd one' two' x) (sym w)
      (far_end m.ends one' two' e.i e.j m.first.0 m.first.1 m.apart m.linked))
      (λ w. subst (λ (x : ℕ). IsEnd one' two' x) (sym w)
      (far_end m.ends one' two' e.j e.i m.second.0 m.second.1 (λ v. m.apart (sym v)) flipped)) k

  degree-after : (c : ℕ) → IsCity n c → joints_at (e ∷ E) c ≡ one_if (one' c) + one_if (two' c)
  degree-after c r =
      let d = m.ends.degree c r in
      ⊎_elim
      (λ (k : c ≡ e.i).
      let x = joints_at-yes E e c (inl (sym k)) in
      let y = subst (λ (w : ℕ). one_if (one' w) + one_if (two' w) ≡ 1 + (one_if (one w) + one_if (two w))) (sym k)
      (linked_count one two one' two' e.i e.j m.linked m.second.0.0 m.first.1) in
      omega (arith, d, x, y))
      (λ (ni : c ≢ e.i). ⊎_elim
      (λ (k : c ≡ e.j).
      let x = joints_at-yes E e c (inr (sym k)) in
      let y = subst (λ (w : ℕ). one_if (one' w) + one_if (two' w) ≡ 1 + (one_if (one w) + one_if (two w))) (sym k)
      (linked_count one two one' two' e.j e.i flipped m.first.0.0 m.second.1) in
      omega (arith, d, x, y))
      (λ (nj : c ≢ e.j). let l = m.linked.rest c ni nj in rw (l.0, l.1) (joints_at-no E e c ni nj ∙ d))
      (cases_eq c e.j))
      (cases_eq c e.i)

  paths-after : (c : ℕ) → IsCity n c → IsEnd one' two' c →
      (xs : List ℕ) × IsPathOf n (e ∷ E) one' two' c (other' c) xs
  paths-after c r h =
      let pi = m.ends.paths e.i m.first.0 m.first.1 in
      let pj = m.ends.paths e.j m.second.0 m.second.1 in
      let qi = m.ends.paths (other e.i) first_far.0 first_back.0 in
      let qj = m.ends.paths (other e.j) second_far.0 second_back.0 in
      ⊎_elim
      (λ f. ⊎_elim
      (λ (k : c ≡ other e.i).
      let P = subst (λ (w : ℕ). IsPathOf n E one two (other e.i) w qi.0) first_back.1 qi.1 in
      let N = new_path e P pj.1 m.apart first_far.1 (joined-first E e)
      (λ b. members E e (other e.i) b m.apart (inl first_far.1)) m.linked in
      subst (λ (w : ℕ). (xs : List ℕ) × IsPathOf n (e ∷ E) one' two' w (other' w) xs) (sym k) (
        qi.0 ++ e.j ∷ pj.0,
        subst (λ (w : ℕ). IsPathOf n (e ∷ E) one' two' (other e.i) w (qi.0 ++ e.j ∷ pj.0)) (sym m.far.first) N,
      ))
      (λ (k : c ≡ other e.j).
      let P = subst (λ (w : ℕ). IsPathOf n E one two (other e.j) w qj.0) second_back.1 qj.1 in
      let N = new_path e P pi.1 (λ w. m.apart (sym w)) second_far.1 (joined-second E e)
      (λ b. turned (members E e (other e.j) b m.apart (inr second_far.1))) flipped in
      subst (λ (w : ℕ). (xs : List ℕ) × IsPathOf n (e ∷ E) one' two' w (other' w) xs) (sym k) (
        qj.0 ++ e.i ∷ pi.0,
        subst (λ (w : ℕ). IsPathOf n (e ∷ E) one' two' (other e.j) w (qj.0 ++ e.i ∷ pi.0)) (sym m.far.second) N,
      ))
      f)
      (λ k.
      let p = m.ends.paths c r k.4 in
      let apart = away c r k in
      let N = path_stays n E e one two one' two' c (other c) p.0 m.linked apart.0 apart.1 p.1 in
      (p.0, subst (λ (w : ℕ). IsPathOf n (e ∷ E) one' two' c w p.0) (sym (m.far.rest c k.0 k.1)) N))
      (after c h)

  back-after : (c : ℕ) → IsCity n c → IsEnd one' two' c → IsEnd one' two' (other' c) × (other' (other' c) ≡ c)
  back-after c r h =
      ⊎_elim
      (λ f. ⊎_elim
      (λ (k : c ≡ other e.i).
      let far : other' c ≡ other e.j = ap other' k ∙ m.far.first in
      (new_end (other' c) (inr far), ap other' far ∙ (m.far.second ∙ sym k)))
      (λ (k : c ≡ other e.j).
      let far : other' c ≡ other e.i = ap other' k ∙ m.far.second in
      (new_end (other' c) (inl far), ap other' far ∙ (m.far.first ∙ sym k)))
      f)
      (λ k.
      let b = m.ends.back c r k.4 in
      let same = m.far.rest c k.0 k.1 in
      let ni : other c ≢ e.i = λ w. k.0 (sym b.1 ∙ ap other w) in
      let nj : other c ≢ e.j = λ w. k.1 (sym b.1 ∙ ap other w) in
      let na : other c ≢ other e.i = λ w. k.2 (sym b.1 ∙ (ap other w ∙ first_back.1)) in
      let nb : other c ≢ other e.j = λ w. k.3 (sym b.1 ∙ (ap other w ∙ second_back.1)) in
      let l = m.linked.rest (other c) ni nj in
      let x : IsEnd one' two' (other c) = ⊎_elim (λ w. inl (l.0 ∙ w)) (λ w. inr (l.1 ∙ w)) b.0 in
      (subst (λ (w : ℕ). IsEnd one' two' w) (sym same) x, ap other' same ∙ (m.far.rest (other c) na nb ∙ b.1)))
      (after c h)

  only-after : (c d : ℕ) → IsCity n c → IsCity n d → IsEnd one' two' c → IsEnd one' two' d →
      part (e ∷ E) d ≡ part (e ∷ E) c → (d ≡ c) ⊎ (d ≡ other' c)
  only-after c d rc rd hc hd same =
      let gone : (x : ℕ) → IsCity n x → IsAway x → part (e ∷ E) x ≢ part E e.i =
      λ x rx k w. let apart = away x rx k in ⊎_elim apart.0 apart.1 (part-joined E e x m.apart w) in
      ⊎_elim
      (λ (p : IsNewEnd c). ⊎_elim
      (λ (q : IsNewEnd d). ⊎_elim
      (λ u. ⊎_elim (λ v. inl (v ∙ sym u)) (λ v. inr (v ∙ (sym m.far.first ∙ ap other' (sym u)))) q)
      (λ u. ⊎_elim (λ v. inr (v ∙ (sym m.far.second ∙ ap other' (sym u)))) (λ v. inl (v ∙ sym u)) q)
      p)
      (λ (k : IsAway d). absurd (gone d rd k (same ∙ new_part c p)))
      (after d hd))
      (λ (k : IsAway c). ⊎_elim
      (λ (q : IsNewEnd d). absurd (gone c rc k (sym same ∙ new_part d q)))
      (λ (w : IsAway d).
      let apart = away c rc k in
      ⊎_elim (λ x. inl x) (λ x. inr (x ∙ sym (m.far.rest c k.0 k.1)))
      (m.ends.only c d rc rd k.4 w.4 ((part-stays E e c d apart.0 apart.1).0 same)))
      (after d hd))
      (after c hc)

  total-after : (c : ℕ) → IsCity n c → IsEnd one' two' c → weight' c ≡ part_load load (e ∷ E) n (part (e ∷ E) c)
  total-after c r h =
      let sum : weight e.i + weight e.j ≡ part_load load (e ∷ E) n (part E e.i) =
      omega (
        arith,
        part_load-joined load E e n m.apart,
        m.ends.total e.i m.first.0 m.first.1,
        m.ends.total e.j m.second.0 m.second.1,
      ) in
      ⊎_elim
      (λ k.
      ⊎_elim (λ w. ap weight' w ∙ m.heavy.first) (λ w. ap weight' w ∙ m.heavy.second) k
      ∙ (sum ∙ ap (part_load load (e ∷ E) n) (sym (new_part c k))))
      (λ k.
      let apart = away c r k in
      m.heavy.rest c k.0 k.1
      ∙ (m.ends.total c r k.4
      ∙ (sym (part_load-stays load E e n (part E c) apart.0 apart.1)
      ∙ ap (part_load load (e ∷ E) n) (sym (part-other E e c apart.1)))))
      (after c h)

  covered-after : (c : ℕ) → IsCity n c →
      (d : ℕ) × (IsCity n d × IsEnd one' two' d × (part (e ∷ E) d ≡ part (e ∷ E) c))
  covered-after c r =
      let far : IsNewEnd (other e.i) = inl refl in
      let end = new_end (other e.i) far in
      let t = new_part (other e.i) far in
      ⊎_elim
      (λ (k : part E c ≡ part E e.i). (other e.i, (first_far.0, end, t ∙ sym (part-first E e c m.apart k))))
      (λ (ni : part E c ≢ part E e.i). ⊎_elim
      (λ (k : part E c ≡ part E e.j). (other e.i, (first_far.0, end, t ∙ sym (part-second E e c k))))
      (λ (nj : part E c ≢ part E e.j).
      let v = m.ends.covered c r in
      let l = m.linked.rest v.0 (λ k. ni (sym v.1.2 ∙ ap (part E) k)) (λ k. nj (sym v.1.2 ∙ ap (part E) k)) in
      (v.0, (v.1.0, ⊎_elim (λ w. inl (l.0 ∙ w)) (λ w. inr (l.1 ∙ w)) v.1.1, (part-stays E e c v.0 ni nj).1 v.1.2)))
      (cases_eq (part E c) (part E e.j)))
      (cases_eq (part E c) (part E e.i))

pub AreEnds-joined : (n : ℕ) (load : ℕ → ℕ) (E : List Pair) (e : Pair)
    (one two other weight one' two' other' weight' : ℕ → ℕ) →
    IsJoin n load E e one two other weight one' two' other' weight' →
    AreEnds n load (e ∷ E) one' two' other' weight'
AreEnds-joined n load E e one two other weight one' two' other' weight' m =
    record {
      degree = degree-after m;
      paths = paths-after m;
      back = back-after m;
      only = only-after m;
      total = total-after m;
      covered = covered-after m;
    }
