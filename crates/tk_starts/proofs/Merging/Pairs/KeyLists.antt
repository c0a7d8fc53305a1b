-- Pairs and the keys of further ones, as one list.
use Rattle.std.proofs.Common.{◌≡◌, ℕ, ◌-◌, ◌/◌, ◌%◌, ◌≤◌, ◌<◌, List, [], ◌∷◌, ◌++◌, map, length, get_or, arith, ⊎_elim}
use Rattle.std.proofs.Common.{inl, inr, refl, sym, ap, ◌∙◌, append_assoc, length-append}
use Rattle.std.specs.List.{All, AllPairs, Contains}
use Rattle.std.specs.List.Sorted.{IsPermutation, IsStrictlyIncreasing}
use Rattle.std.proofs.lemmas.Bool.{cases_lt, cases_order}
use Rattle.std.proofs.lemmas.List.{get_or-map, get_or_append_left, get_or-append_right, length-map}
use Rattle.std.proofs.lemmas.List.Elements.{All-contains, Contains-get_or, Contains-append_left, Contains-append_right}
use Rattle.std.proofs.lemmas.List.Elements.{Contains-append_cases}
use Rattle.std.proofs.lemmas.List.Kept.{AllPairs-from_increasing}
use Rattle.std.proofs.lemmas.List.Sorted.{IsPermutation-append_right, IsPermutation-to_front}
use Rattle.tk_starts.specs.declared.merges.pairs.Pair.{Pair}
use Rattle.tk_starts.specs.PairKeys.{pair_at, IsKey, IsWide}
use Rattle.tk_starts.specs.SavingPairs.{Before}

-- a pair goes in before the keys
pub wide_pushed : {X : Type 0} (ws ks : List X) (p : X) → IsPermutation ((ws ++ ks) ++ p ∷ []) ((ws ++ p ∷ []) ++ ks)
wide_pushed ws ks p =
    rw (append_assoc ws ks (p ∷ []), append_assoc ws (p ∷ []) ks)
    (IsPermutation-append_right ws _ _ (IsPermutation-to_front ks p))

-- the pair of a lesser key comes before that of a greater one
pub key_before : (k l : ℕ) → k < l → IsKey l → Before (pair_at k) (pair_at l)
key_before k l h b =
    ⊎_elim
    (λ (e : k / 131072 / 131072 ≡ l / 131072 / 131072).
    inr (
      ap (λ x. 1073741823 - x) e,
      ⊎_elim
          (λ (f : k / 131072 ≡ l / 131072). inr (ap (λ x. x % 131072) f, omega (arith, h, f)))
          (λ u. ⊎_elim (λ m. inl (omega (arith, e, m))) (λ m. absurd (omega (arith, h, m))) u)
          (cases_order (k / 131072) (l / 131072)),
    ))
    (λ u. ⊎_elim (λ m. inl (omega (arith, m, b))) (λ m. absurd (omega (arith, h, m))) u)
    (cases_order (k / 131072 / 131072) (l / 131072 / 131072))

pub keys_rise : (ks : List ℕ) → All IsKey ks → IsStrictlyIncreasing ks → AllPairs Before (map pair_at ks)
keys_rise ks small rise i j d l m =
    let n = length-map ks pair_at in
    let a : j < length ks = omega (arith, n, m) in
    rw (get_or-map pair_at ks i 0 d (omega (arith, a, l)), get_or-map pair_at ks j 0 d a)
    (key_before (get_or ks i 0) (get_or ks j 0) (AllPairs-from_increasing ks rise i j 0 l a) (small j 0 a))

-- what holds of each element holds of those that are left
pub still_all : {X : Type 0} (P : X → Type 0) (xs ys : List X) → ((x : X) → Contains ys x → Contains xs x) →
    All P xs → All P ys
still_all P xs ys h a k d l = All-contains P xs (get_or ys k d) a (h (get_or ys k d) (Contains-get_or ys k d l))

-- two lists, one after the other
pub pairs_joined : {X : Type 0} (R : X → X → Type 0) (xs ys : List X) → AllPairs R xs → AllPairs R ys →
    ((i j : ℕ) (d : X) → i < length xs → j < length ys → R (get_or xs i d) (get_or ys j d)) → AllPairs R (xs ++ ys)
pairs_joined R xs ys a b h i j d l m =
    let n = length-append xs ys in
    ⊎_elim
    (λ (u : j < length xs). rw (get_or_append_left xs ys d i (omega (arith, l, u)), get_or_append_left xs ys d j u)
    (a i j d l u))
    (λ (u : length xs ≤ j).
    rw (get_or-append_right xs ys (length xs) j d refl u)
    (⊎_elim
    (λ (v : i < length xs). rw (get_or_append_left xs ys d i v) (h i (j - length xs) d v (omega (arith, m, n, u))))
    (λ (v : length xs ≤ i). rw (get_or-append_right xs ys (length xs) i d refl v)
    (b (i - length xs) (j - length xs) d (omega (arith, l, u, v)) (omega (arith, m, n, u))))
    (cases_lt i (length xs))))
    (cases_lt j (length xs))

-- a pair that is too great for a key comes before that of each key
pub wide_first : (ws : List Pair) (ks : List ℕ) → All IsWide ws → (i j : ℕ) (d : Pair) → i < length ws →
    j < length (map pair_at ks) → Before (get_or ws i d) (get_or (map pair_at ks) j d)
wide_first ws ks w i j d l m =
    let n = length-map ks pair_at in
    let a : j < length ks = omega (arith, n, m) in
    rw (get_or-map pair_at ks j 0 d a) (inl (omega (arith, w i d l)))

pub contains_mapped : {X : Type 0} (f : ℕ → X) (xs ys : List ℕ) → ((x : ℕ) → Contains xs x → Contains ys x) → (p : X) →
    Contains (map f xs) p → Contains (map f ys) p
contains_mapped f xs ys h p (k, l, e) =
    let w : k < length xs = omega (arith, l, length-map xs f) in
    let (m, n, q) = h (get_or xs k 0) (Contains-get_or xs k 0 w) in (
      m,
      omega (arith, n, length-map ys f),
      get_or-map f ys m (get_or xs k 0) p n
          ∙ (ap f q ∙ (sym (get_or-map f xs k 0 p w) ∙ e)),
    )

pub contains_both : {X : Type 0} (xs ys us vs : List X) (p : X) → (Contains xs p → Contains us p) →
    (Contains ys p → Contains vs p) → Contains (xs ++ ys) p → Contains (us ++ vs) p
contains_both xs ys us vs p a b h =
    ⊎_elim (λ k. Contains-append_left us vs p (a k)) (λ k. Contains-append_right us vs p (b k))
    (Contains-append_cases xs ys p h)
