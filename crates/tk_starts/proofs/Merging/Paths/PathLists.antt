-- Chains, ends and distinct cities of two lists put together.
use Rattle.std.proofs.Common.{◌≡◌, ◌≢◌, ℕ, ◌<◌, true, false, List, [], ◌∷◌, ◌++◌, refl, sym, ◌∙◌, ◌⊎◌, inl, inr, arith}
use Rattle.std.proofs.Common.{⊎_elim, subst}
use Rattle.std.proofs.lemmas.Bool.{eqb-true, eq-eqb, or_cases, or_left, or_right, or_parts, false_from_ne_true}
use Rattle.std.proofs.lemmas.Bool.{both_ways, and_from}
use Rattle.tk_distance.specs.Holding.{holds, IsDistinct}
use Rattle.tk_starts.specs.Joints.{joined, IsChain, last_from}
use Rattle.tk_starts.specs.PathEnds.{AreBoth, Follows, IsLinked}
use Rattle.tk_starts.specs.declared.merges.pairs.Pair.{Pair}

pub holds-here : (a : ℕ) (xs : List ℕ) → holds (a ∷ xs) a ≡ true
holds-here a xs = or_left _ _ (eq-eqb a a refl)

pub holds-later : (a b : ℕ) (xs : List ℕ) → holds xs b ≡ true → holds (a ∷ xs) b ≡ true
holds-later a b xs h = or_right _ _ h

pub holds-cases : (a b : ℕ) (xs : List ℕ) → holds (a ∷ xs) b ≡ true → (a ≡ b) ⊎ (holds xs b ≡ true)
holds-cases a b xs h = ⊎_elim (λ k. inl (eqb-true a b k)) (λ k. inr k) (or_cases _ _ h)

pub holds-last : (a : ℕ) (xs : List ℕ) → holds (a ∷ xs) (last_from a xs) ≡ true
holds-last a [] = holds-here a []
holds-last a (b ∷ xs) = holds-later a _ (b ∷ xs) (holds-last b xs)

pub holds-left : (xs ys : List ℕ) (b : ℕ) → holds xs b ≡ true → holds (xs ++ ys) b ≡ true
holds-left [] ys b h = absurd (both_ways _ refl h)
holds-left (x ∷ xs) ys b h = ⊎_elim (λ k. or_left _ _ k) (λ k. or_right _ _ (holds-left xs ys b k)) (or_cases _ _ h)

pub holds-right : (xs ys : List ℕ) (b : ℕ) → holds ys b ≡ true → holds (xs ++ ys) b ≡ true
holds-right [] ys b h = h
holds-right (x ∷ xs) ys b h = or_right _ _ (holds-right xs ys b h)

pub holds-append : (xs ys : List ℕ) (b : ℕ) → holds (xs ++ ys) b ≡ true → (holds xs b ≡ true) ⊎ (holds ys b ≡ true)
holds-append [] ys b h = inr h
holds-append (x ∷ xs) ys b h =
    ⊎_elim (λ k. inl (or_left _ _ k)) (λ k. ⊎_elim (λ m. inl (or_right _ _ m)) (λ m. inr m) (holds-append xs ys b k))
    (or_cases _ _ h)

pub last_from-append : (a : ℕ) (xs : List ℕ) (j : ℕ) (ys : List ℕ) → last_from a (xs ++ j ∷ ys) ≡ last_from j ys
last_from-append a [] j ys = refl
last_from-append a (b ∷ xs) j ys = last_from-append b xs j ys

pub IsDistinct-append : (xs ys : List ℕ) → IsDistinct xs → IsDistinct ys →
    ((b : ℕ) → holds xs b ≡ true → holds ys b ≡ true → ⊥) → IsDistinct (xs ++ ys)
IsDistinct-append [] ys h k apart = k
IsDistinct-append (x ∷ xs) ys h k apart = (
  false_from_ne_true _ (λ m. ⊎_elim (λ w. both_ways _ h.0 w) (λ w. apart x (holds-here x xs) w)
      (holds-append xs ys x m)),
  IsDistinct-append xs ys h.1 k (λ b p q. apart b (or_right _ _ p) q),
)

pub joined-more : (E : List Pair) (e : Pair) (a b : ℕ) → joined E a b ≡ true → joined (e ∷ E) a b ≡ true
unfolding joined
joined-more E e a b h = or_right _ _ h

-- a new joint joins its two cities
pub joined-first : (E : List Pair) (e : Pair) → joined (e ∷ E) e.i e.j ≡ true
unfolding joined
joined-first E e = or_left _ _ (or_left _ _ (and_from _ _ (eq-eqb e.i e.i refl) (eq-eqb e.j e.j refl)))

pub joined-second : (E : List Pair) (e : Pair) → joined (e ∷ E) e.j e.i ≡ true
unfolding joined
joined-second E e = or_left _ _ (or_right _ _ (and_from _ _ (eq-eqb e.i e.i refl) (eq-eqb e.j e.j refl)))

pub IsChain-more : (E : List Pair) (e : Pair) (a : ℕ) (xs : List ℕ) → IsChain E a xs → IsChain (e ∷ E) a xs
unfolding IsChain
IsChain-more E e a [] h = tt
IsChain-more E e a (b ∷ xs) h = (joined-more E e a b h.0, IsChain-more E e b xs h.1)

pub IsChain-append : (E : List Pair) (a : ℕ) (xs : List ℕ) (j : ℕ) (ys : List ℕ) → IsChain E a xs →
    joined E (last_from a xs) j ≡ true → IsChain E j ys → IsChain E a (xs ++ j ∷ ys)
unfolding IsChain
IsChain-append E a [] j ys h m k = (m, k)
IsChain-append E a (b ∷ xs) j ys h m k = (h.0, IsChain-append E b xs j ys h.1 m k)

pub AreBoth-flip : (p q x y : ℕ) → AreBoth p q x y → AreBoth p q y x
AreBoth-flip p q x y h = ⊎_elim (λ k. inr k) (λ k. inl k) h

pub AreBoth-same : (p q p' q' x y : ℕ) → p' ≡ p → q' ≡ q → AreBoth p q x y → AreBoth p' q' x y
AreBoth-same p q p' q' x y e f h = ⊎_elim (λ k. inl (e ∙ k.0, f ∙ k.1)) (λ k. inr (e ∙ k.0, f ∙ k.1)) h

-- cities whose neighbours stay
pub Follows-stays : (one two one' two' : ℕ → ℕ) (before c : ℕ) (xs : List ℕ) →
    ((b : ℕ) → holds (c ∷ xs) b ≡ true → (one' b ≡ one b) × (two' b ≡ two b)) → Follows one two before c xs →
    Follows one' two' before c xs
unfolding Follows
Follows-stays one two one' two' before c [] same h =
    AreBoth-same _ _ _ _ before 0 (same c (holds-here c [])).0 (same c (holds-here c [])).1 h
Follows-stays one two one' two' before c (d ∷ xs) same h = (
  AreBoth-same _ _ _ _ before d (same c (holds-here c (d ∷ xs))).0 (same c (holds-here c (d ∷ xs))).1 h.0,
  h.1,
  Follows-stays one two one' two' c d xs (λ b k. same b (holds-later c b (d ∷ xs) k)) h.2,
)

-- a path whose first city j gets the neighbour i before it
pub Follows-after : (one two one' two' : ℕ → ℕ) (i j : ℕ) (xs : List ℕ) → IsLinked i j one two one' two' →
    IsDistinct (j ∷ xs) → holds xs i ≡ false →
    Follows one two 0 j xs → Follows one' two' i j xs
unfolding Follows
Follows-after one two one' two' i j [] l h k f = AreBoth-flip _ _ 0 i (l.second 0 f)
Follows-after one two one' two' i j (d ∷ xs) l h k f = (
  AreBoth-flip _ _ d i (l.second d (AreBoth-flip _ _ 0 d f.0)),
  f.1,
  Follows-stays one two one' two' j d xs
      (λ b m. l.rest b (λ e. both_ways _ k (subst (λ (z : ℕ). holds (d ∷ xs) z ≡ true) e m))
      (λ e. both_ways _ h.0 (subst (λ (z : ℕ). holds (d ∷ xs) z ≡ true) e m))) f.2,
)

-- and a path that ends at i and goes on with j
pub Follows-append : (one two one' two' : ℕ → ℕ) (i j before a : ℕ) (xs ys : List ℕ) → IsLinked i j one two one' two' →
    last_from a xs ≡ i → 0 < j → IsDistinct (a ∷ xs) → holds (a ∷ xs) j ≡ false →
    Follows one two before a xs → Follows one' two' i j ys → Follows one' two' before a (xs ++ j ∷ ys)
unfolding Follows
Follows-append one two one' two' i j before a [] ys l e pos h k f g = (
  subst (λ (z : ℕ). AreBoth (one z) (two z) before 0 → AreBoth (one' z) (two' z) before j) (sym e) (l.first before) f,
  pos,
  subst (λ (z : ℕ). Follows one' two' z j ys) (sym e) g,
)
Follows-append one two one' two' i j before a (d ∷ xs) ys l e pos h k f g =
    let ne : a ≢ i = λ m. both_ways _ h.0 (subst (λ (z : ℕ). holds (d ∷ xs) z ≡ true) (e ∙ sym m) (holds-last d xs)) in
    let nj : a ≢ j = λ m. both_ways _ k (or_left _ _ (eq-eqb a j m)) in (
      AreBoth-same _ _ _ _ before d (l.rest a ne nj).0 (l.rest a ne nj).1 f.0,
      f.1,
      Follows-append one two one' two' i j a d xs ys l e pos h.1 (or_parts _ _ k).1 f.2 g,
    )

pub both_last : (p q x y z : ℕ) → AreBoth p q x y → AreBoth p q x z → y ≡ z
both_last p q x y z h k = omega arith

-- the neighbours lead along one list alone
pub Follows-one : (one two : ℕ → ℕ) (before c : ℕ) (xs ys : List ℕ) → Follows one two before c xs →
    Follows one two before c ys → xs ≡ ys
unfolding Follows
Follows-one one two before c [] [] f g = refl
Follows-one one two before c [] (e ∷ ys) f g = let h = both_last _ _ before 0 e f g.0 in absurd (omega (arith, h, g.1))
Follows-one one two before c (d ∷ xs) [] f g = let h = both_last _ _ before d 0 f.0 g in absurd (omega (arith, h, f.1))
Follows-one one two before c (d ∷ xs) (e ∷ ys) f g =
    let h : d ≡ e = both_last _ _ before d e f.0 g.0 in
    let k : xs ≡ ys = Follows-one one two c d xs ys f.2 (subst (λ (z : ℕ). Follows one two c z ys) (sym h) g.2) in
    cc

-- two links make the two cities neighbours
pub IsLinked-from_links : (i j : ℕ) (one two one1 two1 one2 two2 : ℕ → ℕ) → i ≢ j →
    ((x : ℕ) → AreBoth (one i) (two i) x 0 → AreBoth (one1 i) (two1 i) x j) →
    ((b : ℕ) → b ≢ i → (one1 b ≡ one b) × (two1 b ≡ two b)) →
    ((x : ℕ) → AreBoth (one1 j) (two1 j) x 0 → AreBoth (one2 j) (two2 j) x i) →
    ((b : ℕ) → b ≢ j → (one2 b ≡ one1 b) × (two2 b ≡ two1 b)) →
    IsLinked i j one two one2 two2
IsLinked-from_links i j one two one1 two1 one2 two2 ne a ra b rb =
    let ji : j ≢ i = λ e. ne (sym e) in
    record {
      first = λ x h. AreBoth-same _ _ _ _ x j (rb i ne).0 (rb i ne).1 (a x h);
      second = λ x h. b x (AreBoth-same _ _ _ _ x 0 (ra j ji).0 (ra j ji).1 h);
      rest = λ c p q. ((rb c q).0 ∙ (ra c p).0, (rb c q).1 ∙ (ra c p).1);
    }
