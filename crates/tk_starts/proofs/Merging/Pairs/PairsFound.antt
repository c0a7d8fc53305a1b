-- The pairs found so far.
use Rattle.std.proofs.Common.{eqb, ◌&&◌, ◌||◌, Bool, take, ◌≡◌, ℕ, suc, zero, ◌+◌, ◌≤◌, ◌<◌, true, List, [], ◌∷◌, ◌++◌}
use Rattle.std.proofs.Common.{Some, length, get_or, refl, sym, ap, ◌∙◌, ◌⊎◌, inl, inr, arith, ⊎_elim, subst}
use Rattle.std.proofs.Math.Bool.{or-false, or_assoc}
use Rattle.std.specs.List.{Contains}
use Rattle.std.specs.List.Sorted.{IsPermutation}
use Rattle.std.proofs.lemmas.List.Sorted.{Contains-permutation, IsPermutation-sym}
use Rattle.std.specs.Ordering.{nat_cmp, ordering_then}
use Rattle.std.specs.declared.cmp.Ordering.TheVariants.{Less, Greater}
use Rattle.std.proofs.lemmas.List.Elements.{Contains-append_left, Contains-append_cases, Contains-append_right}
use Rattle.std.proofs.lemmas.Bool.{eqb-true, eq-eqb, or_cases, or_left, or_right, both_ways, cases_lt, cases_order}
use Rattle.std.proofs.lemmas.Bool.{le-ltb, ne_eqb, and_parts}
use Rattle.std.proofs.lemmas.Bool.Decides.{nat_tests}
use Rattle.std.specs.declared.cmp.Ordering.{Ordering}
use Rattle.tk_distance.specs.Holding.{holds}
use Rattle.tk_starts.specs.SavingPairs.{IsPair, IsCandidate, IsPairOf, Before}
use Rattle.tk_starts.specs.declared.merges.pairs.Pair.{Pair}

pub holds-at : (xs : List ℕ) (k : ℕ) → k < length xs → holds xs (get_or xs k 0) ≡ true
holds-at [] k h = absurd (omega (arith, h))
holds-at (x ∷ xs) zero h = or_left _ _ (eq-eqb x x refl)
holds-at (x ∷ xs) (suc k) h = or_right _ _ (holds-at xs k (omega (arith, h)))

holds-suc : (xs : List ℕ) (k b : ℕ) → k < length xs →
    holds (take (suc k) xs) b ≡ (holds (take k xs) b || eqb (get_or xs k 0) b)
holds-suc [] k b h = absurd (omega (arith, h))
holds-suc (x ∷ xs) zero b h = or-false (eqb x b)
holds-suc (x ∷ xs) (suc k) b h =
    ap (λ (v : Bool). eqb x b || v) (holds-suc xs k b (omega (arith, h)))
    ∙ sym (or_assoc (eqb x b) (holds (take k xs) b) (eqb (get_or xs k 0) b))

-- what one more place makes of a list's beginning
pub holds-next : (xs : List ℕ) (k b : ℕ) → k < length xs →
    holds (take (k + 1) xs) b ≡ (holds (take k xs) b || eqb (get_or xs k 0) b)
holds-next xs k b h =
    let more : suc k ≡ k + 1 = omega arith in
    subst (λ (j : ℕ). holds (take j xs) b ≡ (holds (take k xs) b || eqb (get_or xs k 0) b)) more (holds-suc xs k b h)

pub place : (xs : List ℕ) (b : ℕ) → holds xs b ≡ true → (k : ℕ) × (k < length xs) × (get_or xs k 0 ≡ b)
place [] b h = absurd (both_ways _ refl h)
place (x ∷ xs) b h =
    ⊎_elim (λ k. (0, omega arith, eqb-true x b k)) (λ k. let p = place xs b k in (suc p.0, omega (arith, p.1), p.2))
    (or_cases _ _ h)

pub only_one : {X : Type 0} (q p : X) → Contains (q ∷ []) p → q ≡ p
only_one q p (zero, h, e) = e
only_one q p (suc k, h, e) = absurd (omega (arith, h))

pub near_one : (dist : ℕ → ℕ → ℕ) (near : ℕ → List ℕ) (n hub c d : ℕ) (p : Pair) → IsPair dist n hub p →
    IsPairOf c d p →
    holds (near c) d ≡ true → IsCandidate dist near n hub p
near_one dist near n hub c d p h o m = (
  h,
  ⊎_elim (λ k. inl (rw (k.0, k.1) m)) (λ k. inr (rw (k.1, k.0) m)) o,
)

pub last_one : {X : Type 0} (xs : List X) (q p : X) → q ≡ p → Contains (xs ++ q ∷ []) p
last_one xs q p e = Contains-append_right xs (q ∷ []) p (0, omega arith, e)

abbrev pub Sound : (ℕ → ℕ → ℕ) → (ℕ → List ℕ) → ℕ → ℕ → List Pair → Type 0
Sound dist near n hub pairs = (p : Pair) → Contains pairs p → IsCandidate dist near n hub p

-- the pairs of the cities before c with their near ones
abbrev pub Earlier : (ℕ → ℕ → ℕ) → (ℕ → List ℕ) → ℕ → ℕ → ℕ → List Pair → Type 0
Earlier dist near n hub c pairs = (p : Pair) → IsPair dist n hub p → (a b : ℕ) → IsPairOf a b p → a < c →
    holds (near a) b ≡ true → Contains pairs p

-- the pairs of c with the first m of its near ones
abbrev pub Here : (ℕ → ℕ → ℕ) → ℕ → ℕ → ℕ → List ℕ → ℕ → List Pair → Type 0
Here dist n hub c items m pairs = (p : Pair) → IsPair dist n hub p → (k : ℕ) → k < m → IsPairOf c (get_or items k 0) p →
    Contains pairs p

pub sound_more : (dist : ℕ → ℕ → ℕ) (near : ℕ → List ℕ) (n hub c d : ℕ) (pairs pairs' : List Pair) (q : Pair) →
    IsPermutation (pairs ++ q ∷ []) pairs' →
    Sound dist near n hub pairs → IsPair dist n hub q × IsPairOf c d q → holds (near c) d ≡ true →
    Sound dist near n hub pairs'
sound_more dist near n hub c d pairs pairs' q e s h m p k =
    ⊎_elim (s p)
    (λ w. subst (λ (x : Pair). IsCandidate dist near n hub x) (only_one q p w)
    (near_one dist near n hub c d q h.0 h.1 m))
    (Contains-append_cases pairs (q ∷ []) p (Contains-permutation _ _ p (IsPermutation-sym _ _ e) k))

pub kept : (pairs pairs' : List Pair) (q p : Pair) → IsPermutation (pairs ++ q ∷ []) pairs' → Contains pairs p →
    Contains pairs' p
kept pairs pairs' q p e k = Contains-permutation _ _ p e (Contains-append_left pairs (q ∷ []) p k)

pub here_more : (dist : ℕ → ℕ → ℕ) (n hub c : ℕ) (items : List ℕ) (m : ℕ) (pairs pairs' : List Pair) (q : Pair) →
    IsPermutation (pairs ++ q ∷ []) pairs' →
    Here dist n hub c items m pairs →
    ((p : Pair) → IsPair dist n hub p → IsPairOf c (get_or items m 0) p → Some q ≡ Some p) →
    Here dist n hub c items (m + 1) pairs'
here_more dist n hub c items m pairs pairs' q e s all p h k l o =
    ⊎_elim
    (λ w. kept pairs pairs' q p e (s p h k w o))
    (λ w. let t : k ≡ m = omega (arith, l, w) in
    let same = all p h (subst (λ (x : ℕ). IsPairOf c (get_or items x 0) p) t o) in
    Contains-permutation _ _ p e (last_one pairs q p cc))
    (cases_lt k m)

pub here_same : (dist : ℕ → ℕ → ℕ) (n hub c : ℕ) (items : List ℕ) (m : ℕ) (pairs : List Pair) →
    Here dist n hub c items m pairs → ((p : Pair) → IsPair dist n hub p → IsPairOf c (get_or items m 0) p → ⊥) →
    Here dist n hub c items (m + 1) pairs
here_same dist n hub c items m pairs s never p h k l o =
    ⊎_elim
    (λ w. s p h k w o)
    (λ w. let t : k ≡ m = omega (arith, l, w) in
    absurd (never p h (subst (λ (x : ℕ). IsPairOf c (get_or items x 0) p) t o)))
    (cases_lt k m)

-- the pair of c and an earlier city that has c near it was found there
pub here_found : (dist : ℕ → ℕ → ℕ) (near : ℕ → List ℕ) (n hub c : ℕ) (items : List ℕ) (m : ℕ) (pairs : List Pair) →
    Earlier dist near n hub c pairs → Here dist n hub c items m pairs → get_or items m 0 < c →
    holds (near (get_or items m 0)) c ≡ true → Here dist n hub c items (m + 1) pairs
here_found dist near n hub c items m pairs s here before held p h k l o =
    ⊎_elim
    (λ w. here p h k w o)
    (λ w. let t : k ≡ m = omega (arith, l, w) in
    s p h (get_or items m 0) c
    (⊎_elim (λ u. inr u) (λ u. inl u) (subst (λ (x : ℕ). IsPairOf c (get_or items x 0) p) t o)) before held)
    (cases_lt k m)

pub earlier_more : (dist : ℕ → ℕ → ℕ) (near : ℕ → List ℕ) (n hub c : ℕ) (items : List ℕ) (m : ℕ) (pairs : List Pair) →
    items ≡ near c → length items ≤ m →
    Earlier dist near n hub c pairs → Here dist n hub c items m pairs → Earlier dist near n hub (c + 1) pairs
earlier_more dist near n hub c items m pairs e len s here p h a b o l k =
    ⊎_elim
    (λ w. s p h a b o w k)
    (λ w.
    let t : a ≡ c = omega (arith, l, w) in
    let v =
    place items b
    (subst (λ (x : List ℕ). holds x b ≡ true) (sym e) (subst (λ (x : ℕ). holds (near x) b ≡ true) t k)) in
    here p h v.0 (omega (arith, v.1, len))
    (subst (λ (x : ℕ). IsPairOf c x p) (sym v.2) (subst (λ (x : ℕ). IsPairOf x b p) t o)))
    (cases_lt a c)

pub all_found : (dist : ℕ → ℕ → ℕ) (near : ℕ → List ℕ) (n hub c : ℕ) (pairs : List Pair) (p : Pair) → n < c →
    Earlier dist near n hub c pairs → IsCandidate dist near n hub p → Contains pairs p
all_found dist near n hub c pairs p l s h =
    ⊎_elim
    (λ k. s p h.0 p.i p.j (inl (refl, refl)) (omega (arith, l, h.0.first.0.1)) k)
    (λ k. s p h.0 p.j p.i (inr (refl, refl)) (omega (arith, l, h.0.second.0.1)) k)
    h.1

cmp_equal : (a b : ℕ) → a ≡ b → (o : Ordering) → ordering_then (nat_cmp a b) o ≡ o
cmp_equal a b e o = rw (le-ltb a b (omega (arith, e)), eq-eqb a b e)

cmp_greater : (a b : ℕ) → b < a → (o : Ordering) → ordering_then (nat_cmp a b) o ≡ Greater
cmp_greater a b l o = rw (le-ltb a b (omega (arith, l)), ne_eqb a b (λ (e : a ≡ b). omega (arith, e, l)))

nat_less_last : (a b : ℕ) → nat_cmp a b ≡ Less → a < b
nat_less_last a b h = grind (arith, nat_tests)

nat_less : (a b : ℕ) (o : Ordering) → ordering_then (nat_cmp a b) o ≡ Less → (a < b) ⊎ ((a ≡ b) × (o ≡ Less))
nat_less a b o h =
    ⊎_elim
    (λ (e : a ≡ b). inr (e, sym (cmp_equal a b e o) ∙ h))
    (λ k. ⊎_elim (λ l. inl l) (λ l. let e = sym (cmp_greater a b l o) ∙ h in cc) k)
    (cases_order a b)

pub Before-from_less : (p q : Pair) →
    ordering_then (nat_cmp q.saving.0 p.saving.0) (ordering_then (nat_cmp p.i q.i) (nat_cmp p.j q.j)) ≡ Less →
    Before p q
Before-from_less p q h =
    ⊎_elim (λ k. inl k)
    (λ k. inr (sym k.0, ⊎_elim (λ l. inl l) (λ l. inr (l.0, nat_less_last p.j q.j l.1)) (nat_less p.i q.i _ k.1)))
    (nat_less q.saving.0 p.saving.0 _ h)

pair_made : ℕ → ℕ → ℕ → Pair
pair_made s i j = record { saving = record { 0 = s }; i = i; j = j }

pub same_pair : (x y : Pair) → (eqb x.saving.0 y.saving.0 && (eqb x.i y.i && eqb x.j y.j)) ≡ true → x ≡ y
unfolding pair_made
same_pair x y h =
    let a = and_parts _ _ h in
    let b = and_parts _ _ a.1 in
    ap (λ (s : ℕ). pair_made s x.i x.j) (eqb-true _ _ a.0)
    ∙ (ap (λ (i : ℕ). pair_made y.saving.0 i x.j) (eqb-true _ _ b.0)
    ∙ ap (λ (j : ℕ). pair_made y.saving.0 y.i j) (eqb-true _ _ b.1))
