-- The joints that the rule takes have arrays of their cities' neighbours, and two cities that are joined are neighbours
-- there.
use Rattle.std.proofs.Common.{◌≡◌, ◌≢◌, ℕ, ◌+◌, ◌<◌, true, cond, eqb, List, [], ◌∷◌, refl, sym, ◌∙◌, ◌⊎◌, inl, inr}
use Rattle.std.proofs.Common.{arith, ⊎_elim, subst}
use Rattle.std.specs.List.{All}
use Rattle.std.proofs.lemmas.Bool.{eqb-true, eq-eqb, ne_eqb, or_cases, both_ways, cases_eq, cond-true, cond-false}
use Rattle.std.proofs.lemmas.Bool.{and_parts}
use Rattle.std.proofs.lemmas.List.Elements.{All-contains}
use Rattle.tk_starts.specs.Joints.{may_join, joints, joined}
use Rattle.tk_starts.specs.PathEnds.{AreBoth, IsLinked, IsEnd, AreEnds, IsSetAt, IsPairWithin}
use Rattle.tk_starts.specs.declared.merges.pairs.Pair.{Pair}
use Rattle.tk_starts.proofs.Merging.Paths.EndsJoined.{AreEnds-joined}
use Rattle.tk_starts.proofs.Merging.Paths.JoinTest.{may_join-test}
use Rattle.tk_starts.proofs.Merging.Pairs.PairsMerged.{AreEnds-single, IsTaken-from, joints_keep}
use Rattle.tk_starts.proofs.Merging.Paths.PathLists.{AreBoth-flip, IsLinked-from_links}

-- c is a neighbour of b
abbrev pub IsBeside : (ℕ → ℕ) → (ℕ → ℕ) → ℕ → ℕ → Type 0
IsBeside one two b c = (0 < c) × ((one b ≡ c) ⊎ (two b ≡ c))

-- two cities that are joined are neighbours
abbrev pub AreBeside : List Pair → (ℕ → ℕ) → (ℕ → ℕ) → Type 0
AreBeside E one two = (b c : ℕ) → joined E b c ≡ true → IsBeside one two b c

-- arrays of the neighbours that the joints make
pub record HasArrays (n : ℕ) (load : ℕ → ℕ) (E : List Pair) : Type 0 where
  pub one : ℕ → ℕ
  pub two : ℕ → ℕ
  pub other : ℕ → ℕ
  pub weight : ℕ → ℕ
  pub ends : AreEnds n load E one two other weight
  pub beside : AreBeside E one two

-- ---- the neighbours of an end that gets one more

pub end_both : (p q c : ℕ) → (p ≡ 0) ⊎ (q ≡ 0) → (0 < c) × ((p ≡ c) ⊎ (q ≡ c)) → AreBoth p q c 0
end_both p q c e h =
    ⊎_elim
    (λ (k : p ≡ c). inl (k, ⊎_elim (λ w. absurd (omega (arith, w, k, h.0))) (λ w. w) e))
    (λ (k : q ≡ c). inr (⊎_elim (λ w. w) (λ w. absurd (omega (arith, w, k, h.0))) e, k))
    h.1

both_has : (p q x c : ℕ) → AreBoth p q x c → (p ≡ c) ⊎ (q ≡ c)
both_has p q x c h = ⊎_elim (λ k. inr k.1) (λ k. inl k.0) h

-- the one that it had stays
had_beside : (one two one' two' : ℕ → ℕ) (i j c : ℕ) →
    ((x : ℕ) → AreBoth (one i) (two i) x 0 → AreBoth (one' i) (two' i) x j) → IsEnd one two i → IsBeside one two i c →
    IsBeside one' two' i c
had_beside one two one' two' i j c l e h = (h.0, both_has _ _ j c (AreBoth-flip _ _ c j (l c (end_both _ _ c e h))))

new_beside : (one two one' two' : ℕ → ℕ) (i j : ℕ) →
    ((x : ℕ) → AreBoth (one i) (two i) x 0 → AreBoth (one' i) (two' i) x j) → IsEnd one two i → 0 < j →
    IsBeside one' two' i j
new_beside one two one' two' i j l e pos = (
  pos,
  ⊎_elim (λ (k : one i ≡ 0). both_has _ _ (two i) j (l (two i) (inr (k, refl))))
      (λ (k : two i ≡ 0). both_has _ _ (one i) j (l (one i) (inl (refl, k)))) e,
)

-- a city that was joined before
old_beside : (e : Pair) (one two one' two' : ℕ → ℕ) (b c : ℕ) → IsLinked e.i e.j one two one' two' → IsEnd one two e.i →
    IsEnd one two e.j → IsBeside one two b c → IsBeside one' two' b c
old_beside e one two one' two' b c l ei ej h =
    ⊎_elim
    (λ (k : b ≡ e.i). subst (λ (z : ℕ). IsBeside one two z c → IsBeside one' two' z c) (sym k)
    (had_beside one two one' two' e.i e.j c l.first ei) h)
    (λ (ni : b ≢ e.i). ⊎_elim
    (λ (k : b ≡ e.j). subst (λ (z : ℕ). IsBeside one two z c → IsBeside one' two' z c) (sym k)
    (had_beside one two one' two' e.j e.i c l.second ej) h)
    (λ (nj : b ≢ e.j). let same = l.rest b ni nj in (h.0, ⊎_elim (λ w. inl (same.0 ∙ w)) (λ w. inr (same.1 ∙ w)) h.1))
    (cases_eq b e.j))
    (cases_eq b e.i)

AreBeside-joined : (E : List Pair) (e : Pair) (one two one' two' : ℕ → ℕ) → IsLinked e.i e.j one two one' two' →
    IsEnd one two e.i → IsEnd one two e.j → 0 < e.i → 0 < e.j → AreBeside E one two → AreBeside (e ∷ E) one' two'
unfolding joined
AreBeside-joined E e one two one' two' l ei ej pi pj s b c h =
    ⊎_elim
    (λ k. ⊎_elim
    (λ m. let p = and_parts _ _ m in
    subst (λ (z : ℕ). IsBeside one' two' z c) (eqb-true e.i b p.0)
    (subst (λ (z : ℕ). IsBeside one' two' e.i z) (eqb-true e.j c p.1)
    (new_beside one two one' two' e.i e.j l.first ei pj)))
    (λ m. let p = and_parts _ _ m in
    subst (λ (z : ℕ). IsBeside one' two' z c) (eqb-true e.j b p.1)
    (subst (λ (z : ℕ). IsBeside one' two' e.j z) (eqb-true e.i c p.0)
    (new_beside one two one' two' e.j e.i l.second ej pi)))
    (or_cases _ _ k))
    (λ k. old_beside e one two one' two' b c l ei ej (s b c k))
    (or_cases _ _ h)

-- ---- arrays with a value more

put : (ℕ → ℕ) → ℕ → ℕ → ℕ → ℕ
put f a x c = cond (eqb c a) x (f c)

put-here : (f : ℕ → ℕ) (a x : ℕ) → put f a x a ≡ x
unfolding put
put-here f a x = cond-true _ x (f a) (eq-eqb a a refl)

put-other : (f : ℕ → ℕ) (a x c : ℕ) → c ≢ a → put f a x c ≡ f c
unfolding put
put-other f a x c ne = cond-false _ x (f c) (ne_eqb c a ne)

-- c gets the neighbour d
one_link : (one two : ℕ → ℕ) (c d : ℕ) → (one' : ℕ → ℕ) × (two' : ℕ → ℕ)
    × ((x : ℕ) → AreBoth (one c) (two c) x 0 → AreBoth (one' c) (two' c) x d)
    × ((b : ℕ) → b ≢ c → (one' b ≡ one b) × (two' b ≡ two b))
one_link one two c d =
    ⊎_elim
    (λ (z : one c ≡ 0). (
      put one c d,
      two,
      λ x h. inr (put-here one c d, ⊎_elim (λ k. k.1 ∙ (sym z ∙ k.0)) (λ k. k.1) h),
      λ b ne. (put-other one c d b ne, refl),
    ))
    (λ (z : one c ≢ 0). (
      one,
      put two c d,
      λ x h. inl (⊎_elim (λ k. k.0) (λ k. absurd (z k.0)) h, put-here two c d),
      λ b ne. (refl, put-other two c d b ne),
    ))
    (cases_eq (one c) 0)

both_linked : (one two : ℕ → ℕ) (i j : ℕ) → i ≢ j → (one' : ℕ → ℕ) × (two' : ℕ → ℕ) × IsLinked i j one two one' two'
both_linked one two i j ne =
    let a = one_link one two i j in
    let b = one_link a.0 a.1 j i in
    (b.0, b.1, IsLinked-from_links i j one two a.0 a.1 b.0 b.1 ne a.2 a.3 b.2 b.3)

both_set : (f : ℕ → ℕ) (a x b y : ℕ) → a ≢ b → (f' : ℕ → ℕ) × IsSetAt a x b y f f'
both_set f a x b y ne = (
  put (put f a x) b y,
  record {
    first = put-other (put f a x) b y a ne ∙ put-here f a x;
    second = put-here (put f a x) b y;
    rest = λ c p q. put-other (put f a x) b y c q ∙ put-other f a x c p;
  },
)

-- ---- the arrays of all joints

HasArrays-none : (n : ℕ) (load : ℕ → ℕ) → HasArrays n load []
unfolding joined
HasArrays-none n load = record {
  one = λ _. 0;
  two = λ _. 0;
  other = λ c. c;
  weight = load;
  ends = AreEnds-single n load (λ _. 0) (λ _. 0) (λ c. c) load (λ c r. (refl, refl, refl, refl));
  beside = λ b c h. absurd (both_ways _ refl h);
}

HasArrays-joined : (n : ℕ) (load : ℕ → ℕ) (capacity : ℕ) (E : List Pair) (p : Pair) → IsPairWithin n p →
    may_join load n capacity E p ≡ true → HasArrays n load E → HasArrays n load (p ∷ E)
HasArrays-joined n load capacity E p w h k =
    let t = may_join-test k.ends p w.0 w.1 w.2 capacity ∙ h in
    let v = IsTaken-from k.ends p w.0 w.1 w.2 capacity t in
    let a = both_linked k.one k.two p.i p.j w.2 in
    let b = both_set k.other (k.other p.i) (k.other p.j) (k.other p.j) (k.other p.i) v.far.2 in
    let c = both_set k.weight (k.other p.i) (k.weight p.i + k.weight p.j) (k.other p.j)
    (k.weight p.i + k.weight p.j) v.far.2 in
    record {
      one = a.0;
      two = a.1;
      other = b.0;
      weight = c.0;
      ends = AreEnds-joined n load E p k.one k.two k.other k.weight a.0 a.1 b.0 c.0
          (record {
            ends = k.ends;
            first = (w.0, v.first);
            second = (w.1, v.second);
            apart = v.apart;
            linked = a.2;
            far = b.1;
            heavy = c.1;
          });
      beside = AreBeside-joined E p k.one k.two a.0 a.1 a.2 v.first v.second w.0.0 w.1.0 k.beside;
    }

pub HasArrays-joints : (n : ℕ) (load : ℕ → ℕ) (capacity : ℕ) (pairs : List Pair) → All (IsPairWithin n) pairs →
    HasArrays n load (joints load n capacity [] pairs)
HasArrays-joints n load capacity pairs w =
    joints_keep (HasArrays n load) load n capacity pairs []
    (λ p E c h k. HasArrays-joined n load capacity E p (All-contains (IsPairWithin n) pairs p w c) h k)
    (HasArrays-none n load)
