-- What a split or a reversal keeps of the ids of segments.
use Rattle.std.proofs.Common.{◌≡◌, ◌≢◌, ℕ, true, false, ◌+◌, ◌-◌, ◌<◌, ◌≤◌, ◌⊎◌, inl, inr, ⊎_elim, suc, zero, List, ◌∷◌}
use Rattle.std.proofs.Common.{◌++◌, length, take, drop, sym, ap, ◌∙◌, subst, arith, get_or}
use Rattle.std.proofs.lemmas.Bool.{cases_lt}
use Rattle.std.proofs.lemmas.List.{get_or_default, get_or-drop, get_or-take, get_or_append_left, get_or-append_right}
use Rattle.std.proofs.lemmas.List.{length-take-le, length-drop, length-append}
use Rattle.tk_segments.specs.Segments.{IsSplit, AreNamed, Names, Holds}
use Rattle.tk_segments.specs.declared.segment.Segment.{Segment}
use Rattle.tk_segments.proofs.SeenTours.Splitting.{cases_bool}

-- the segment with an id is at the index that `home` has
pub named_home : (segments : List Segment) (home : List ℕ) (id lo : ℕ) (d : Segment) → AreNamed segments home →
    (h : Names segments id lo) →
    (get_or home id 0 < length segments) × ((get_or segments (get_or home id 0) d).low ≡ lo)
named_home segments home id lo d named h =
    let k = named h.0 d h.1 in
    let e : get_or home id 0 ≡ h.0 = ap (λ u. get_or home u 0) (sym (h.2 d).0) ∙ k.1 in
    (omega (arith, e, h.1), ap (λ u. (get_or segments u d).low) e ∙ (h.2 d).1)

pub held_home : (segments : List Segment) (home : List ℕ) (id place : ℕ) (d : Segment) → AreNamed segments home →
    (h : Holds segments id place) →
    (id < length segments) × (get_or home id 0 < length segments) × ((get_or segments (get_or home id 0) d).low ≤ place)
held_home segments home id place d named h =
    let k = named h.0 d h.1 in
    let e : get_or home id 0 ≡ h.0 = ap (λ u. get_or home u 0) (sym (h.2 d).0) ∙ k.1 in (
      omega (arith, k.0, (h.2 d).0),
      omega (arith, e, h.1),
      omega
          (arith, ap (λ u. (get_or segments u d).low) e, (h.2 d).1),
    )

pub named_less : (segments : List Segment) (home : List ℕ) (id lo : ℕ) (d : Segment) → AreNamed segments home → Names
    segments id lo →
    id < length segments
named_less segments home id lo d named h = omega (arith, named h.0 d h.1, (h.2 d).0)

-- the entries of a list in which one entry is split in two
pub entry_before : (us ws : List Segment) (one two : Segment) (i k : ℕ) (d : Segment) → length us ≡ k → i < k →
    get_or (us ++ (one ∷ two ∷ ws)) i d ≡ get_or us i d
entry_before us ws one two i k d l lt = get_or_append_left us (one ∷ two ∷ ws) d i (omega (arith, l))

pub entry_from : (us ws : List Segment) (one two : Segment) (i k : ℕ) (d : Segment) → length us ≡ k → k ≤ i →
    get_or (us ++ (one ∷ two ∷ ws)) i d ≡ get_or (one ∷ two ∷ ws) (i - k) d
entry_from us ws one two i k d l le = get_or-append_right us (one ∷ two ∷ ws) k i d l le

-- a split keeps the ids of the segments
pub Names-split : (old new : List Segment) (k m : ℕ) (id lo : ℕ) → k < length old → IsSplit old new k m → Names old id
    lo →
    Names new id lo
Names-split old new k m id lo lt s h =
    let us : List Segment = take k old in
    let ws : List Segment = drop (k + 1) old in
    let l : length us ≡ k = length-take-le k old (omega arith) in
    let n : length new ≡ length old + 1 = ap length s.list
    ∙ omega (arith, length-append us (s.one ∷ s.two ∷ ws), l, length-drop (k + 1) old, lt) in
    let at : (i : ℕ) (d : Segment) → get_or new i d ≡ get_or (us ++ (s.one ∷ s.two ∷ ws)) i d =
    λ i d. ap (λ u. get_or u i d) s.list in
    let j : ℕ = h.0 in
    ⊎_elim
    (λ (a : j < k). (
      j,
      omega (arith, n, h.1),
      (λ d.
          let e : get_or new j d ≡ get_or old j d = at j d ∙ entry_before us ws s.one s.two j k d l a
          ∙ get_or-take k old j d a in
          (ap (λ (r : Segment). r.id) e ∙ (h.2 d).0, ap (λ (r : Segment). r.low) e ∙ (h.2 d).1)),
    ))
    (λ (a : k ≤ j).
    ⊎_elim
    (λ (b : k < j). (
      j + 1,
      omega (arith, n, h.1),
      (λ d.
          let e0 : j + 1 - k ≡ suc (suc (j - (k + 1))) = omega arith in
          let e : get_or new (j + 1) d ≡ get_or old j d =
          at (j + 1) d ∙ entry_from us ws s.one s.two (j + 1) k d l (omega arith)
          ∙ ap (λ u. get_or (s.one ∷ s.two ∷ ws) u d) e0
          ∙ get_or-drop (k + 1) old (j - (k + 1)) d ∙ ap (λ u. get_or old u d) (omega arith) in
          (ap (λ (r : Segment). r.id) e ∙ (h.2 d).0, ap (λ (r : Segment). r.low) e ∙ (h.2 d).1)),
    ))
    (λ (b : j ≤ k).
    let same : j ≡ k = omega arith in
    let segment_is : (d : Segment) → s.segment ≡ get_or old j d = λ d. s.segment_is ∙ get_or_default old k s.segment d
    lt
    ∙ ap (λ u. get_or old u d) (sym same) in
    ⊎_elim
    (λ (e : s.segment.back ≡ true).
    let p = s.parts.behind e in
    let e1 : k + 1 - k ≡ suc zero = omega arith in (
      k + 1,
      omega (arith, n, lt),
      (λ d.
          let f : get_or new (k + 1) d ≡ s.two = at (k + 1) d ∙ entry_from us ws s.one s.two (k + 1) k d l (omega arith)
          ∙ ap (λ u. get_or (s.one ∷ s.two ∷ ws) u d) e1 in (
            ap (λ (r : Segment). r.id) f ∙ p.low_is.3 ∙ ap (λ (r : Segment). r.id) (segment_is d)
                ∙ (h.2 d).0,
            ap (λ (r : Segment). r.low) f ∙ p.low_is.0 ∙ ap (λ (r : Segment). r.low) (segment_is d) ∙ (h.2 d).1,
          )),
    ))
    (λ (e : s.segment.back ≡ false).
    let p = s.parts.ahead e in
    let e1 : k - k ≡ zero = omega arith in (
      k,
      omega (arith, n, lt),
      (λ d.
          let f : get_or new k d ≡ s.one = at k d ∙ entry_from us ws s.one s.two k k d l (omega arith)
          ∙ ap (λ u. get_or (s.one ∷ s.two ∷ ws) u d) e1 in (
            ap (λ (r : Segment). r.id) f ∙ p.low_is.3 ∙ ap (λ (r : Segment). r.id) (segment_is d)
                ∙ (h.2 d).0,
            ap (λ (r : Segment). r.low) f ∙ p.low_is.0 ∙ ap (λ (r : Segment). r.low) (segment_is d) ∙ (h.2 d).1,
          )),
    ))
    (cases_bool s.segment.back))
    (cases_lt k j))
    (cases_lt j k)

-- each segment after a split is an old one other than the split one, or one of the two parts
pub split_entry : (old new : List Segment) (k m i : ℕ) (d : Segment) → k < length old → (s : IsSplit old new k m) →
    i < length new →
    ((j : ℕ) × (j < length old) × (j ≢ k) × (get_or new i d ≡ get_or old j d))
    ⊎ ((get_or new i d ≡ s.one) ⊎ (get_or new i d ≡ s.two))
split_entry old new k m i d lt s li =
    let us : List Segment = take k old in
    let ws : List Segment = drop (k + 1) old in
    let l : length us ≡ k = length-take-le k old (omega arith) in
    let n : length new ≡ length old + 1 = ap length s.list
    ∙ omega (arith, length-append us (s.one ∷ s.two ∷ ws), l, length-drop (k + 1) old, lt) in
    let at : get_or new i d ≡ get_or (us ++ (s.one ∷ s.two ∷ ws)) i d = ap (λ u. get_or u i d) s.list in
    ⊎_elim
    (λ (a : i < k). inl (
      i,
      omega arith,
      omega arith,
      at ∙ entry_before us ws s.one s.two i k d l a
          ∙ get_or-take k old i d a,
    ))
    (λ (a : k ≤ i).
    let from : get_or new i d ≡ get_or (s.one ∷ s.two ∷ ws) (i - k) d = at ∙ entry_from us ws s.one s.two i k d l a in
    ⊎_elim
    (λ (b : k + 1 < i).
    let e0 : i - k ≡ suc (suc (i - k - 2)) = omega arith in
    inl (
      i - 1,
      omega (arith, n),
      omega arith,
      from ∙ ap (λ u. get_or (s.one ∷ s.two ∷ ws) u d) e0
          ∙ get_or-drop (k + 1) old (i - k - 2) d ∙ ap (λ u. get_or old u d) (omega arith),
    ))
    (λ (b : i ≤ k + 1).
    ⊎_elim
    (λ (c : i < k + 1). let e0 : i - k ≡ zero = omega arith in
    inr (inl (from ∙ ap (λ u. get_or (s.one ∷ s.two ∷ ws) u d) e0)))
    (λ (c : k + 1 ≤ i). let e0 : i - k ≡ suc zero = omega arith in
    inr (inr (from ∙ ap (λ u. get_or (s.one ∷ s.two ∷ ws) u d) e0)))
    (cases_lt i (k + 1)))
    (cases_lt (k + 1) i))
    (cases_lt i k)

pub split_at : (old new : List Segment) (k m : ℕ) (d : Segment) → k < length old → (s : IsSplit old new k m) →
    (length new ≡ length old + 1) × (get_or new k d ≡ s.one) × (get_or new (k + 1) d ≡ s.two)
split_at old new k m d lt s =
    let us : List Segment = take k old in
    let ws : List Segment = drop (k + 1) old in
    let l : length us ≡ k = length-take-le k old (omega arith) in
    let e0 : k - k ≡ zero = omega arith in
    let e1 : k + 1 - k ≡ suc zero = omega arith in
    let at : (i : ℕ) → get_or new i d ≡ get_or (us ++ (s.one ∷ s.two ∷ ws)) i d =
    λ i. ap (λ u. get_or u i d) s.list in (
      ap length s.list ∙ omega (arith, length-append us (s.one ∷ s.two ∷ ws), l, length-drop (k + 1) old, lt),
      at k ∙ entry_from us ws s.one s.two k k d l (omega arith) ∙ ap (λ u. get_or (s.one ∷ s.two ∷ ws) u d) e0,
      at (k + 1) ∙ entry_from us ws s.one s.two (k + 1) k d l (omega arith)
          ∙ ap (λ u. get_or (s.one ∷ s.two ∷ ws) u d) e1,
    )

-- the entries before the segment that is split, and below those after it
pub split_entry_before : (old new : List Segment) (k m i : ℕ) (d : Segment) → k < length old → IsSplit old new k m → i <
    k →
    get_or new i d ≡ get_or old i d
split_entry_before old new k m i d lt s a =
    let us : List Segment = take k old in
    let ws : List Segment = drop (k + 1) old in
    let l : length us ≡ k = length-take-le k old (omega arith) in
    ap (λ u. get_or u i d) s.list ∙ entry_before us ws s.one s.two i k d l a ∙ get_or-take k old i d a

pub split_entry_beyond : (old new : List Segment) (k m i : ℕ) (d : Segment) → k < length old → IsSplit old new k m → k <
    i →
    get_or new (i + 1) d ≡ get_or old i d
split_entry_beyond old new k m i d lt s a =
    let us : List Segment = take k old in
    let ws : List Segment = drop (k + 1) old in
    let l : length us ≡ k = length-take-le k old (omega arith) in
    let e0 : i + 1 - k ≡ suc (suc (i - (k + 1))) = omega (arith, a) in
    ap (λ u. get_or u (i + 1) d) s.list ∙ entry_from us ws s.one s.two (i + 1) k d l (omega (arith, a))
    ∙ ap (λ u. get_or (s.one ∷ s.two ∷ ws) u d) e0
    ∙ get_or-drop (k + 1) old (i - (k + 1)) d ∙ ap (λ u. get_or old u d) (omega (arith, a))

-- after a split, each segment still has the id of the one that begins where it ends
pub split_next : (n : ℕ) (old new : List Segment) (k m : ℕ) → k < length old → IsSplit old new k m →
    ((j : ℕ) (d : Segment) → j < length old → (get_or old j d).high < n →
    Names old (get_or old j d).next (get_or old j d).high) →
    (i : ℕ) (d : Segment) → i < length new → (get_or new i d).high < n →
    Names new (get_or new i d).next (get_or new i d).high
split_next n old new k m lt s next i d li hi =
    let P : Segment → Type 0 = λ r. r.high < n → Names new r.next r.high in
    let of_old : (j : ℕ) → j < length old → P (get_or old j d) =
    λ j lj h. Names-split old new k m _ _ lt s (next j d lj h) in
    let segment_is : s.segment ≡ get_or old k d = s.segment_is ∙ get_or_default old k s.segment d lt in
    let of_segment : P s.segment = subst P (sym segment_is) (of_old k lt) in
    let fields : (r x : Segment) → x.next ≡ r.next → x.high ≡ r.high → P r → P x = λ r x e f h lx.
    let Q : ℕ → Type 0 = λ v. Names new v x.high in
    let R : ℕ → Type 0 = λ v. Names new r.next v in
    subst Q (sym e) (subst R (sym f) (h (omega (arith, f)))) in
    let there : (x high : Segment) (j : ℕ) → j < length new → ((e : Segment) → get_or new j e ≡ high) → x.next ≡ high.id
    →
    x.high ≡ high.low → P x = λ x high j lj e f g _.
    (j, lj, (λ e'. (ap (λ (r : Segment). r.id) (e e') ∙ sym f, ap (λ (r : Segment). r.low) (e e') ∙ sym g))) in
    let size = (split_at old new k m d lt s).0 in
    let both : P s.one × P s.two =
    ⊎_elim
    (λ (e : s.segment.back ≡ true).
    let p = s.parts.behind e in (
      fields s.segment s.one p.high_is.4 p.high_is.1 of_segment,
      there s.two s.one k (omega (arith, size, lt)) (λ e'. (split_at old new k m e' lt s).1) (p.low_is.4
          ∙ sym p.high_is.3) (p.low_is.1 ∙ sym p.high_is.0),
    ))
    (λ (e : s.segment.back ≡ false).
    let p = s.parts.ahead e in (
      there s.one s.two (k + 1) (omega (arith, size, lt)) (λ e'. (split_at old new k m e' lt s).2) (p.low_is.4
          ∙ sym p.high_is.3) (p.low_is.1 ∙ sym p.high_is.0),
      fields s.segment s.two p.high_is.4 p.high_is.1 of_segment,
    ))
    (cases_bool s.segment.back) in
    let all : P (get_or new i d) =
    ⊎_elim
    (λ (z : (j : ℕ) × (j < length old) × (j ≢ k) × (get_or new i d ≡ get_or old j d)). subst P (sym z.3)
    (of_old z.0 z.1))
    (λ (z : (get_or new i d ≡ s.one) ⊎ (get_or new i d ≡ s.two)).
    ⊎_elim (λ (e : get_or new i d ≡ s.one). subst P (sym e) both.0)
    (λ (e : get_or new i d ≡ s.two). subst P (sym e) both.1) z)
    (split_entry old new k m i d lt s li) in
    all hi
