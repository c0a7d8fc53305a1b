-- Two cities are in the same part where a path of joints leads from the one to the other.
use Rattle.std.proofs.Common.{◌≡◌, ◌≢◌, ℕ, true, cond, eqb, List, [], ◌∷◌, ◌++◌, refl, sym, ap, ◌∙◌, ⊎_elim, subst}
use Rattle.std.proofs.lemmas.Bool.{eqb-true, or_cases, both_ways, cases_eq, and_parts}
use Rattle.tk_starts.specs.Joints.{part, joined, IsChain, IsConnected, last_from}
use Rattle.tk_starts.specs.declared.merges.pairs.Pair.{Pair}
use Rattle.tk_starts.proofs.Merging.Parts.PartsJoined.{part-second, part-other}
use Rattle.tk_starts.proofs.Merging.Paths.PathLists.{joined-first, joined-second, IsChain-more}

chain_on : (E : List Pair) (a : ℕ) (xs ys : List ℕ) → IsChain E a xs → IsChain E (last_from a xs) ys →
    IsChain E a (xs ++ ys)
unfolding IsChain
chain_on E a [] ys h k = k
chain_on E a (b ∷ xs) ys h k = (h.0, chain_on E b xs ys h.1 k)

last_on : (a : ℕ) (xs ys : List ℕ) → last_from a (xs ++ ys) ≡ last_from (last_from a xs) ys
last_on a [] ys = refl
last_on a (b ∷ xs) ys = last_on b xs ys

IsConnected-trans : (E : List Pair) (a b c : ℕ) → IsConnected E a b → IsConnected E b c → IsConnected E a c
IsConnected-trans E a b c (xs, h, e) (ys, k, f) = (
  xs ++ ys,
  chain_on E a xs ys h (subst (λ (z : ℕ). IsChain E z ys) (sym e) k),
  last_on a xs ys ∙ (ap (λ (z : ℕ). last_from z ys) e ∙ f),
)

IsConnected-more : (E : List Pair) (e : Pair) (a b : ℕ) → IsConnected E a b → IsConnected (e ∷ E) a b
IsConnected-more E e a b (xs, h, k) = (xs, IsChain-more E e a xs h, k)

IsConnected-same : (E : List Pair) (a b : ℕ) → a ≡ b → IsConnected E a b
unfolding IsChain
IsConnected-same E a b e = ([], tt, e)

IsConnected-joint : (E : List Pair) (a b : ℕ) → joined E a b ≡ true → IsConnected E a b
unfolding IsChain
IsConnected-joint E a b h = (b ∷ [], (h, tt), refl)

-- a new joint leads from the one of its cities to the other
across : (E : List Pair) (e : Pair) (i j a b : ℕ) → joined (e ∷ E) i j ≡ true → IsConnected E a i → IsConnected E j b →
    IsConnected (e ∷ E) a b
across E e i j a b joint h k =
    let t = IsConnected-trans (e ∷ E) i j b (IsConnected-joint (e ∷ E) i j joint) (IsConnected-more E e j b k) in
    IsConnected-trans (e ∷ E) a i b (IsConnected-more E e a i h) t

pub IsConnected-from_part : (E : List Pair) (a b : ℕ) → part E a ≡ part E b → IsConnected E a b
unfolding part
IsConnected-from_part [] a b h = IsConnected-same [] a b h
IsConnected-from_part (e ∷ E) a b h =
    ⊎_elim
    (λ (ja : part E a ≡ part E e.j). ⊎_elim
    (λ (jb : part E b ≡ part E e.j). IsConnected-more E e a b (IsConnected-from_part E a b (ja ∙ sym jb)))
    (λ (nb : part E b ≢ part E e.j).
    let i : part E e.i ≡ part E b = sym (part-second E e a ja) ∙ (h ∙ part-other E e b nb) in
    across E e e.j e.i a b (joined-second E e) (IsConnected-from_part E a e.j ja) (IsConnected-from_part E e.i b i))
    (cases_eq (part E b) (part E e.j)))
    (λ (na : part E a ≢ part E e.j). ⊎_elim
    (λ (jb : part E b ≡ part E e.j).
    let i : part E a ≡ part E e.i = sym (part-other E e a na) ∙ (h ∙ part-second E e b jb) in
    across E e e.i e.j a b (joined-first E e) (IsConnected-from_part E a e.i i)
    (IsConnected-from_part E e.j b (sym jb)))
    (λ (nb : part E b ≢ part E e.j). IsConnected-more E e a b
    (IsConnected-from_part E a b (sym (part-other E e a na) ∙ (h ∙ part-other E e b nb))))
    (cases_eq (part E b) (part E e.j)))
    (cases_eq (part E a) (part E e.j))

-- the two cities of a joint come into one part
first_second : (E : List Pair) (e : Pair) → part (e ∷ E) e.i ≡ part (e ∷ E) e.j
first_second E e =
    let second = part-second E e e.j refl in
    ⊎_elim
    (λ (h : part E e.i ≡ part E e.j). part-second E e e.i h ∙ sym second)
    (λ (h : part E e.i ≢ part E e.j). part-other E e e.i h ∙ sym second)
    (cases_eq (part E e.i) (part E e.j))

part-stays_same : (E : List Pair) (e : Pair) (a b : ℕ) → part E a ≡ part E b → part (e ∷ E) a ≡ part (e ∷ E) b
unfolding part
part-stays_same E e a b h = ap (λ (z : ℕ). cond (eqb z (part E e.j)) (part E e.i) z) h

part-from_joined : (E : List Pair) (a b : ℕ) → joined E a b ≡ true → part E a ≡ part E b
unfolding joined
part-from_joined [] a b h = absurd (both_ways _ refl h)
part-from_joined (e ∷ E) a b h =
    let P : ℕ → ℕ = part (e ∷ E) in
    ⊎_elim
    (λ k. ⊎_elim
    (λ m. let p = and_parts _ _ m in ap P (sym (eqb-true e.i a p.0)) ∙ (first_second E e ∙ ap P (eqb-true e.j b p.1)))
    (λ m. let p = and_parts _ _ m in ap P (sym (eqb-true e.j a p.1))
    ∙ (sym (first_second E e) ∙ ap P (eqb-true e.i b p.0)))
    (or_cases _ _ k))
    (λ k. part-stays_same E e a b (part-from_joined E a b k))
    (or_cases _ _ h)

along : (E : List Pair) (a : ℕ) (xs : List ℕ) → IsChain E a xs → part E a ≡ part E (last_from a xs)
unfolding IsChain
along E a [] h = refl
along E a (b ∷ xs) h = part-from_joined E a b h.0 ∙ along E b xs h.1

pub part-from_connected : (E : List Pair) (a b : ℕ) → IsConnected E a b → part E a ≡ part E b
part-from_connected E a b (xs, h, e) = along E a xs h ∙ ap (part E) e
