-- Reversed or rotated segments are the old segments in another order.
use Rattle.std.proofs.Common.{◌≡◌, ℕ, ◌+◌, ◌-◌, ◌<◌, ◌≤◌, ◌⊎◌, inl, inr, ⊎_elim, suc, zero, List, [], ◌∷◌, ◌++◌, length}
use Rattle.std.proofs.Common.{take, drop, map, refl, sym, ap, ◌∙◌, arith, get_or}
use Rattle.std.specs.Prelude.{reverse}
use Rattle.std.proofs.lemmas.Bool.{cases_lt}
use Rattle.std.proofs.lemmas.List.{length-append, length-take-le, length-drop, length-reverse, length-map, get_or-take}
use Rattle.std.proofs.lemmas.List.{get_or-drop, get_or-reverse, get_or_append_left, get_or-append_right}
use Rattle.tk_segments.specs.Segments.{segment_size, turned_segment, placed, SameBefore}
use Rattle.tk_segments.specs.declared.segment.Segment.{Segment}
use Rattle.tk_segments.proofs.SeenTours.Placing.{length-placed}
use Rattle.tk_segments.proofs.SeenTours.Names.{AreAlike, AreReordered}

alike_of : (r s : Segment) → r ≡ s → AreAlike r s
alike_of r s e = record {
  id = ap (λ (u : Segment). u.id) e;
  low = ap (λ (u : Segment). u.low) e;
  high = ap (λ (u : Segment). u.high) e;
  next = ap (λ (u : Segment). u.next) e;
}

AreAlike-trans : (r s t : Segment) → AreAlike r s → AreAlike s t → AreAlike r t
AreAlike-trans r s t h k =
    record { id = h.id ∙ k.id; low = h.low ∙ k.low; high = h.high ∙ k.high; next = h.next ∙ k.next }

placed_alike : (v k : ℕ) (xs : List Segment) (d : Segment) → k < length xs → AreAlike (get_or (placed v xs) k d)
    (get_or xs k d)
placed_alike v k [] d lt = absurd (omega arith)
placed_alike v zero (x ∷ xs) d lt = record { id = refl; low = refl; high = refl; next = refl }
placed_alike v (suc k) (x ∷ xs) d lt = placed_alike (v + segment_size x) k xs d (omega arith)

turned_alike : (k : ℕ) (xs : List Segment) (d : Segment) → k < length xs →
    AreAlike (get_or (map turned_segment xs) k d) (get_or xs k d)
turned_alike k [] d lt = absurd (omega arith)
turned_alike zero (x ∷ xs) d lt = record { id = refl; low = refl; high = refl; next = refl }
turned_alike (suc k) (x ∷ xs) d lt = turned_alike k xs d (omega arith)

-- the k-th segment was the p-th before those from i to j - 1 were reversed
abbrev pub IsMirrored : ℕ → ℕ → ℕ → ℕ → Type 0
IsMirrored i j k p =
    ((k < i) × (p ≡ k)) ⊎ (((i ≤ k) × (k < j) × (p + k + 1 ≡ i + j)) ⊎ ((j ≤ k) × (p ≡ k)))

mirrored_one : (i j k l p : ℕ) → IsMirrored i j k p → IsMirrored i j l p → k ≡ l
mirrored_one i j k l p h g =
    ⊎_elim
    (λ (a : (k < i) × (p ≡ k)). ⊎_elim
    (λ (b : (l < i) × (p ≡ l)). omega (arith, a, b))
    (λ (b : ((i ≤ l) × (l < j) × (p + l + 1 ≡ i + j)) ⊎ ((j ≤ l) × (p ≡ l))). ⊎_elim
    (λ (d : (i ≤ l) × (l < j) × (p + l + 1 ≡ i + j)). absurd (omega (arith, a, d)))
    (λ (d : (j ≤ l) × (p ≡ l)). omega (arith, a, d)) b)
    g)
    (λ (a : ((i ≤ k) × (k < j) × (p + k + 1 ≡ i + j)) ⊎ ((j ≤ k) × (p ≡ k))). ⊎_elim
    (λ (c : (i ≤ k) × (k < j) × (p + k + 1 ≡ i + j)). ⊎_elim
    (λ (b : (l < i) × (p ≡ l)). absurd (omega (arith, c, b)))
    (λ (b : ((i ≤ l) × (l < j) × (p + l + 1 ≡ i + j)) ⊎ ((j ≤ l) × (p ≡ l))). ⊎_elim
    (λ (d : (i ≤ l) × (l < j) × (p + l + 1 ≡ i + j)). omega (arith, c, d))
    (λ (d : (j ≤ l) × (p ≡ l)). absurd (omega (arith, c, d))) b)
    g)
    (λ (c : (j ≤ k) × (p ≡ k)). ⊎_elim
    (λ (b : (l < i) × (p ≡ l)). omega (arith, c, b))
    (λ (b : ((i ≤ l) × (l < j) × (p + l + 1 ≡ i + j)) ⊎ ((j ≤ l) × (p ≡ l))). ⊎_elim
    (λ (d : (i ≤ l) × (l < j) × (p + l + 1 ≡ i + j)). absurd (omega (arith, c, d)))
    (λ (d : (j ≤ l) × (p ≡ l)). omega (arith, c, d)) b)
    g)
    a)
    h

-- each index has a mirror image, whose mirror image it is
pub record Mirror (i j m k : ℕ) : Type 0 where
  pub p : ℕ
  pub within : p < m
  pub there : IsMirrored i j k p
  pub back : IsMirrored i j p k

mirror : (i j m k : ℕ) → i ≤ j → j ≤ m → k < m → Mirror i j m k
mirror i j m k le lj lk =
    ⊎_elim
    (λ (a : k < i). record { p = k; within = lk; there = inl (a, refl); back = inl (a, refl) })
    (λ (a : i ≤ k). ⊎_elim
    (λ (b : k < j). record {
      p = i + j - 1 - k;
      within = omega (arith, a, b, le, lj);
      there = inr (inl (a, b, omega (arith, a, b)));
      back = inr (inl (omega (arith, a, b), omega (arith, a, b), omega (arith, a, b)));
    })
    (λ (b : j ≤ k). record { p = k; within = lk; there = inr (inr (b, refl)); back = inr (inr (b, refl)) })
    (cases_lt k j))
    (cases_lt k i)

turned_entry : (i j first k p : ℕ) (old part : List Segment) (d : Segment) → i ≤ j → j ≤ length old →
    part ≡ placed first (map turned_segment (reverse (take (j - i) (drop i old)))) →
    k < length old → IsMirrored i j k p →
    AreAlike (get_or (take i old ++ (part ++ drop (j - i) (drop i old))) k d) (get_or old p d)
turned_entry i j first k p old part d le lj ep lk h =
    let us : List Segment = take i old in
    let rs : List Segment = take (j - i) (drop i old) in
    let ws : List Segment = drop (j - i) (drop i old) in
    let ss : List Segment = map turned_segment (reverse rs) in
    let lu : length us ≡ i = length-take-le i old (omega (arith, le, lj)) in
    let lr : length rs ≡ j - i = length-take-le (j - i) (drop i old) (omega (arith, length-drop i old, lj)) in
    let ls : length ss ≡ j - i = length-map (reverse rs) turned_segment ∙ length-reverse rs ∙ lr in
    let lp : length part ≡ j - i = ap length ep ∙ length-placed first ss ∙ ls in
    ⊎_elim
    (λ (a : (k < i) × (p ≡ k)).
    alike_of _ _ (get_or_append_left us (part ++ ws) d k (omega (arith, a, lu)) ∙ get_or-take i old k d a.0
    ∙ ap (λ u. get_or old u d) (sym a.1)))
    (λ (a : ((i ≤ k) × (k < j) × (p + k + 1 ≡ i + j)) ⊎ ((j ≤ k) × (p ≡ k))). ⊎_elim
    (λ (b : (i ≤ k) × (k < j) × (p + k + 1 ≡ i + j)).
    let m : ℕ = k - i in
    let lm : m < j - i = omega (arith, b) in
    let e1 : get_or (us ++ (part ++ ws)) k d ≡ get_or (placed first ss) m d =
    get_or-append_right us (part ++ ws) i k d lu b.0 ∙ get_or_append_left part ws d m (omega (arith, lm, lp))
    ∙ ap (λ u. get_or u m d) ep in
    let e2 : get_or (reverse rs) m d ≡ get_or old p d =
    get_or-reverse rs m d (omega (arith, lm, lr))
    ∙ get_or-take (j - i) (drop i old) (length rs - 1 - m) d (omega (arith, lm, lr))
    ∙ get_or-drop i old (length rs - 1 - m) d
    ∙ ap (λ u. get_or old u d) (omega (arith, b, lr)) in
    AreAlike-trans _ _ _ (alike_of _ _ e1) (AreAlike-trans _ _ _ (placed_alike first m ss d (omega (arith, lm, ls)))
    (AreAlike-trans _ _ _ (turned_alike m (reverse rs) d (omega (arith, lm, length-reverse rs, lr)))
    (alike_of _ _ e2))))
    (λ (b : (j ≤ k) × (p ≡ k)).
    alike_of _ _
    (get_or-append_right us (part ++ ws) i k d lu (omega (arith, b, le))
    ∙ get_or-append_right part ws (j - i) (k - i) d lp (omega (arith, b, le))
    ∙ get_or-drop (j - i) (drop i old) (k - i - (j - i)) d ∙ get_or-drop i old (j - i + (k - i - (j - i))) d
    ∙ ap (λ u. get_or old u d) (omega (arith, b, le))))
    a)
    h

pub turned_reordered : (i j first : ℕ) (old part : List Segment) → i ≤ j → j ≤ length old →
    part ≡ placed first (map turned_segment (reverse (take (j - i) (drop i old)))) →
    AreReordered (IsMirrored i j) old (take i old ++ (part ++ drop (j - i) (drop i old)))
turned_reordered i j first old part le lj ep =
    let us : List Segment = take i old in
    let rs : List Segment = take (j - i) (drop i old) in
    let ws : List Segment = drop (j - i) (drop i old) in
    let lp : length part ≡ j - i = ap length ep ∙ length-placed first (map turned_segment (reverse rs))
    ∙ length-map (reverse rs) turned_segment ∙ length-reverse rs
    ∙ length-take-le (j - i) (drop i old) (omega (arith, length-drop i old, lj)) in
    record {
      size =
          omega (
            arith,
            length-append us (part ++ ws),
            length-append part ws,
            length-take-le i old (omega (arith, le, lj)),
            lp,
            length-drop (j - i) (drop i old),
            length-drop i old,
            le,
            lj,
          );
      from = λ k lk. let z = mirror i j (length old) k le lj lk in (z.p, z.within, z.there);
      to = λ p lp'. let z = mirror i j (length old) p le lj lp' in (z.p, z.within, z.back);
      alike = λ k p d lk _ h. turned_entry i j first k p old part d le lj ep lk h;
      one = λ k l p h g. mirrored_one i j k l p h g;
    }

pub turned_same : (i j first : ℕ) (old part : List Segment) → i ≤ j → j ≤ length old →
    part ≡ placed first (map turned_segment (reverse (take (j - i) (drop i old)))) →
    SameBefore i old (take i old ++ (part ++ drop (j - i) (drop i old)))
turned_same i j first old part le lj ep = (
  omega (arith, le, lj),
  λ k d lt. (turned_entry i j first k k old part d le lj ep (omega (arith, lt, le, lj)) (inl (lt, refl))).id,
)

-- the k-th segment was the p-th before the m segments were rotated to begin with the r-th
abbrev pub IsBegun : ℕ → ℕ → ℕ → ℕ → Type 0
IsBegun m r k p = ((k + r < m) × (p ≡ k + r)) ⊎ ((m ≤ k + r) × (p + m ≡ k + r) × (k < m))

begun_entry : (r k p : ℕ) (old : List Segment) (d : Segment) → r ≤ length old → k < length old → IsBegun (length old) r
    k p →
    AreAlike (get_or (placed 0 (drop r old ++ take r old)) k d) (get_or old p d)
begun_entry r k p old d lr lk h =
    let ws : List Segment = drop r old in
    let us : List Segment = take r old in
    let l : length (ws ++ us) ≡ length old =
    omega (arith, length-append ws us, length-drop r old, length-take-le r old lr, lr) in
    let e : get_or (ws ++ us) k d ≡ get_or old p d =
    ⊎_elim
    (λ (a : (k + r < length old) × (p ≡ k + r)).
    get_or_append_left ws us d k (omega (arith, a, length-drop r old)) ∙ get_or-drop r old k d
    ∙ ap (λ u. get_or old u d) (omega (arith, a)))
    (λ (a : (length old ≤ k + r) × (p + length old ≡ k + r) × (k < length old)).
    get_or-append_right ws us (length old - r) k d (length-drop r old) (omega (arith, a, lr))
    ∙ get_or-take r old (k - (length old - r)) d (omega (arith, a, lr, lk))
    ∙ ap (λ u. get_or old u d) (omega (arith, a, lr)))
    h in
    AreAlike-trans _ _ _ (placed_alike 0 k (ws ++ us) d (omega (arith, l, lk))) (alike_of _ _ e)

pub begun_reordered : (r : ℕ) (old : List Segment) → r ≤ length old →
    AreReordered (IsBegun (length old) r) old (placed 0 (drop r old ++ take r old))
begun_reordered r old lr =
    let m : ℕ = length old in
    record {
      size = length-placed 0 (drop r old ++ take r old)
          ∙ omega (arith, length-append (drop r old) (take r old), length-drop r old, length-take-le r old lr, lr);
      from = λ k lk.
          ⊎_elim
          (λ (a : k + r < m). (k + r, a, inl (a, refl)))
          (λ (a : m ≤ k + r). (k + r - m, omega (arith, lk, lr, a), inr (a, omega (arith, a), lk)))
          (cases_lt (k + r) m);
      to = λ p lp.
          ⊎_elim
          (λ (a : p < r). (
            p + m - r,
            omega (arith, a, lr, lp),
            inr (omega (arith, a, lr), omega (arith, a, lr), omega (arith, a, lr)),
          ))
          (λ (a : r ≤ p). (p - r, omega (arith, a, lp), inl (omega (arith, a, lp), omega (arith, a))))
          (cases_lt p r);
      alike = λ k p d lk _ h. begun_entry r k p old d lr lk h;
      one = λ j k p h g.
          ⊎_elim
          (λ (a : (j + r < m) × (p ≡ j + r)). ⊎_elim
          (λ (b : (k + r < m) × (p ≡ k + r)). omega (arith, a, b))
          (λ (b : (m ≤ k + r) × (p + m ≡ k + r) × (k < m)). absurd (omega (arith, a, b, lr)))
          g)
          (λ (a : (m ≤ j + r) × (p + m ≡ j + r) × (j < m)). ⊎_elim
          (λ (b : (k + r < m) × (p ≡ k + r)). absurd (omega (arith, a, b, lr)))
          (λ (b : (m ≤ k + r) × (p + m ≡ k + r) × (k < m)). omega (arith, a, b))
          g)
          h;
    }
