-- The two parts of a segment, in either order: how segments are found after a split, and after a join.
use Rattle.std.proofs.Common.{◌≡◌, ◌≢◌, ℕ, true, false, ◌+◌, ◌-◌, ◌*◌, ◌<◌, ◌≤◌, ◌⊎◌, inl, inr, ⊎_elim, List, length}
use Rattle.std.proofs.Common.{refl, sym, ap, ◌∙◌, subst, arith, get_or}
use Rattle.std.proofs.lemmas.Bool.{cases_lt, cases_eq, true≢false}
use Rattle.std.proofs.lemmas.List.{get_or_default}
use Rattle.std.specs.List.{All}
use Rattle.tk_segments.specs.Segments.{IsSplit, IsWithin, IsIn, ArePartsAt, AreApart, HaveNames, Names, Holds}
use Rattle.tk_segments.specs.Segments.{CanBeFound}
use Rattle.tk_segments.specs.Segments.{IsNoted}
use Rattle.tk_segments.specs.declared.segment.Segment.{Segment}
use Rattle.tk_segments.proofs.SeenTours.Splitting.{cases_bool}
use Rattle.tk_segments.proofs.SeenTours.Naming.{split_at, split_entry_before, split_entry_beyond, split_next}

-- the segment at j is the one at i after the one at k is split
abbrev pub IsShifted : ℕ → ℕ → ℕ → Type 0
IsShifted k j i = ((j < k) × (i ≡ j)) ⊎ ((k < j) × (i ≡ j + 1))

-- the parts of the k-th segment after a split, with their indices, and the indices of the other segments
pub record Parted (old new : List Segment) (k : ℕ) (segment : Segment) : Type 0 where
  pub lower : ℕ
  pub higher : ℕ
  pub low : Segment
  pub high : Segment
  pub middle : ℕ
  pub parts : ArePartsAt middle (length old) segment low high
  pub k_in : k < length old
  pub size : length new ≡ length old + 1
  pub inside : (lower < length new) × (higher < length new)
  pub segment_at : (d : Segment) → get_or old k d ≡ segment
  pub low_at : (d : Segment) → get_or new lower d ≡ low
  pub high_at : (d : Segment) → get_or new higher d ≡ high
  pub came : (i : ℕ) → i < length new → i ≢ lower → i ≢ higher →
      (j : ℕ) × (j < length old) × ((d : Segment) → get_or old j d ≡ get_or new i d) × IsShifted k j i
  pub went : (j : ℕ) → j < length old → j ≢ k → (i : ℕ) × (i < length new) × (i ≢ lower) × (i ≢ higher)
      × ((d : Segment) → get_or new i d ≡ get_or old j d) × IsShifted k j i
  pub first : (d : Segment) → (get_or new k d).back ≡ segment.back
  pub behind : segment.back ≡ true → (lower ≡ k + 1) × (higher ≡ k)
  pub ahead : segment.back ≡ false → (lower ≡ k) × (higher ≡ k + 1)

came_from : (old new : List Segment) (k m i : ℕ) → k < length old → IsSplit old new k m → i < length new →
    i ≢ k → i ≢ k + 1 →
    (j : ℕ) × (j < length old) × ((d : Segment) → get_or old j d ≡ get_or new i d) × IsShifted k j i
came_from old new k m i lt s li nk nl =
    ⊎_elim
    (λ (a : i < k). (i, omega (arith, a, lt), (λ d. sym (split_entry_before old new k m i d lt s a)), inl (a, refl)))
    (λ (a : k ≤ i). (
      i - 1,
      omega (arith, li, a, nk, (split_at old new k m s.segment lt s).0),
      (λ d.
          let e : i - 1 + 1 ≡ i = omega (arith, a, nk) in
          sym (split_entry_beyond old new k m (i - 1) d lt s (omega (arith, a, nk, nl))) ∙ ap (λ u. get_or new u d) e),
      inr (omega (arith, a, nk, nl), omega (arith, a, nk)),
    ))
    (cases_lt i k)

went_to : (old new : List Segment) (k m j : ℕ) → k < length old → IsSplit old new k m → j < length old → j ≢ k →
    (i : ℕ) × (i < length new) × (i ≢ k) × (i ≢ k + 1) × ((d : Segment) → get_or new i d ≡ get_or old j d) × IsShifted k
    j i
went_to old new k m j lt s lj nk =
    let size = (split_at old new k m s.segment lt s).0 in
    ⊎_elim
    (λ (a : j < k). (
      j,
      omega (arith, size, lj),
      nk,
      omega (arith, a),
      (λ d. split_entry_before old new k m j d lt s a),
      inl (a, refl),
    ))
    (λ (a : k ≤ j). (
      j + 1,
      omega (arith, size, lj),
      omega (arith, a),
      omega (arith, nk),
      (λ d. split_entry_beyond old new k m j d lt s (omega (arith, a, nk))),
      inr (omega (arith, a, nk), refl),
    ))
    (cases_lt j k)

pub parted : (old new : List Segment) (k m : ℕ) → k < length old → (s : IsSplit old new k m) → Parted old new k
    s.segment
parted old new k m lt s =
    let size = (split_at old new k m s.segment lt s).0 in
    let one_at : (d : Segment) → get_or new k d ≡ s.one = λ d. (split_at old new k m d lt s).1 in
    let two_at : (d : Segment) → get_or new (k + 1) d ≡ s.two = λ d. (split_at old new k m d lt s).2 in
    let segment_at : (d : Segment) → get_or old k d ≡ s.segment = λ d. sym
    (s.segment_is ∙ get_or_default old k s.segment d lt) in
    ⊎_elim
    (λ (e : s.segment.back ≡ true).
    let p = s.parts.behind e in
    record {
      lower = k + 1;
      higher = k;
      low = s.two;
      high = s.one;
      middle = s.segment.high - m;
      parts = p;
      k_in = lt;
      size = size;
      inside = (omega (arith, size, lt), omega (arith, size, lt));
      segment_at = segment_at;
      low_at = two_at;
      high_at = one_at;
      came = λ i li nl nh. came_from old new k m i lt s li nh nl;
      went = λ j lj nk. let w = went_to old new k m j lt s lj nk in (w.0, w.1, w.3, w.2, w.4, w.5);
      first = λ d. ap (λ (r : Segment). r.back) (one_at d) ∙ p.high_is.2;
      behind = λ f. (omega arith, omega arith);
      ahead = λ f. absurd (true≢false (sym e ∙ f));
    })
    (λ (e : s.segment.back ≡ false).
    let p = s.parts.ahead e in
    record {
      lower = k;
      higher = k + 1;
      low = s.one;
      high = s.two;
      middle = s.segment.low + m;
      parts = p;
      k_in = lt;
      size = size;
      inside = (omega (arith, size, lt), omega (arith, size, lt));
      segment_at = segment_at;
      low_at = one_at;
      high_at = two_at;
      came = λ i li nl nh. came_from old new k m i lt s li nl nh;
      went = λ j lj nk. went_to old new k m j lt s lj nk;
      first = λ d. ap (λ (r : Segment). r.back) (one_at d) ∙ p.low_is.2;
      behind = λ f. absurd (true≢false (sym f ∙ e));
      ahead = λ f. (omega arith, omega arith);
    })
    (cases_bool s.segment.back)

shifted_alike : (k i j a b : ℕ) → IsShifted k a i → IsShifted k b j → (a ≡ b → i ≡ j) × (i ≡ j → a ≡ b)
shifted_alike k i j a b x y =
    ⊎_elim
    (λ (u : (a < k) × (i ≡ a)).
    ⊎_elim (λ (v : (b < k) × (j ≡ b)). ((λ e. omega (arith, u, v, e)), (λ e. omega (arith, u, v, e))))
    (λ (v : (k < b) × (j ≡ b + 1)). ((λ e. omega (arith, u, v, e)), (λ e. omega (arith, u, v, e)))) y)
    (λ (u : (k < a) × (i ≡ a + 1)).
    ⊎_elim (λ (v : (b < k) × (j ≡ b)). ((λ e. omega (arith, u, v, e)), (λ e. omega (arith, u, v, e))))
    (λ (v : (k < b) × (j ≡ b + 1)). ((λ e. omega (arith, u, v, e)), (λ e. omega (arith, u, v, e)))) y)
    x

shifted_other : (k i j : ℕ) → IsShifted k j i → j ≢ k
shifted_other k i j x =
    ⊎_elim (λ (u : (j < k) × (i ≡ j)). omega (arith, u)) (λ (u : (k < j) × (i ≡ j + 1)). omega (arith, u)) x

-- no array position is in two segments after a split
split_apart : (old new : List Segment) (k : ℕ) (segment : Segment) → Parted old new k segment → AreApart old → AreApart
    new
split_apart old new k segment p apart = λ i j place d li lj u v.
    let P : Segment → Type 0 = λ r. IsIn r place in
    let in_low : (i : ℕ) → i ≡ p.lower → IsIn (get_or new i d) place →
    IsIn p.low place = λ i e u. subst P (ap (λ w. get_or new w d) e ∙ p.low_at d) u in
    let in_high : (i : ℕ) → i ≡ p.higher → IsIn (get_or new i d) place →
    IsIn p.high place = λ i e u. subst P (ap (λ w. get_or new w d) e ∙ p.high_at d) u in
    let apart_from : (i : ℕ) → i < length new → IsIn (get_or new i d) place → i ≢ p.lower → i ≢ p.higher →
    IsIn segment place → ⊥ = λ i li u il ih v.
    let c = p.came i li il ih in
    shifted_other k i c.0 c.3
    (apart c.0 k place d c.1 p.k_in (subst P (sym (c.2 d)) u) (subst P (sym (p.segment_at d)) v)) in
    let of_low : IsIn p.low place → IsIn segment place = λ w. omega (arith, w, p.parts.low_is, p.parts.inside) in
    let of_high : IsIn p.high place → IsIn segment place = λ w. omega (arith, w, p.parts.high_is, p.parts.inside) in
    let never : IsIn p.low place → IsIn p.high place →
    ⊥ = λ w x. omega (arith, w, x, p.parts.low_is, p.parts.high_is) in
    ⊎_elim
    (λ (e : i ≡ p.lower). ⊎_elim
    (λ (f : j ≡ p.lower). e ∙ sym f)
    (λ (jl : j ≢ p.lower). ⊎_elim
    (λ (f : j ≡ p.higher). absurd (never (in_low i e u) (in_high j f v)))
    (λ (jh : j ≢ p.higher). absurd (apart_from j lj v jl jh (of_low (in_low i e u))))
    (cases_eq j p.higher))
    (cases_eq j p.lower))
    (λ (il : i ≢ p.lower). ⊎_elim
    (λ (e : i ≡ p.higher). ⊎_elim
    (λ (f : j ≡ p.higher). e ∙ sym f)
    (λ (jh : j ≢ p.higher). ⊎_elim
    (λ (f : j ≡ p.lower). absurd (never (in_low j f v) (in_high i e u)))
    (λ (jl : j ≢ p.lower). absurd (apart_from j lj v jl jh (of_high (in_high i e u))))
    (cases_eq j p.lower))
    (cases_eq j p.higher))
    (λ (ih : i ≢ p.higher). ⊎_elim
    (λ (f : j ≡ p.lower). absurd (apart_from i li u il ih (of_low (in_low j f v))))
    (λ (jl : j ≢ p.lower). ⊎_elim
    (λ (f : j ≡ p.higher). absurd (apart_from i li u il ih (of_high (in_high j f v))))
    (λ (jh : j ≢ p.higher).
    let a = p.came i li il ih in
    let b = p.came j lj jl jh in
    (shifted_alike k i j a.0 b.0 a.3 b.3).0
    (apart a.0 b.0 place d a.1 b.1 (subst P (sym (a.2 d)) u) (subst P (sym (b.2 d)) v)))
    (cases_eq j p.higher))
    (cases_eq j p.lower))
    (cases_eq i p.higher))
    (cases_eq i p.lower)

-- no array position is in two segments after a join
join_apart : (old new : List Segment) (k : ℕ) (segment : Segment) → Parted old new k segment → AreApart new → AreApart
    old
join_apart old new k segment p apart = λ i j place d li lj u v.
    let P : Segment → Type 0 = λ r. IsIn r place in
    let apart_from : (i j : ℕ) → i < length old → i ≢ k → IsIn (get_or old i d) place → j ≡ k →
    IsIn (get_or old j d) place → ⊥ = λ i j li ik u e v.
    let w = p.went i li ik in
    let x = subst P (ap (λ y. get_or old y d) e ∙ p.segment_at d) v in
    let at : IsIn (get_or new w.0 d) place = subst P (sym (w.4 d)) u in
    ⊎_elim
    (λ (a : place < p.middle). w.2
    (apart w.0 p.lower place d w.1 p.inside.0 at
    (subst P (sym (p.low_at d)) (omega (arith, x, p.parts.low_is), omega (arith, a, p.parts.low_is)))))
    (λ (a : p.middle ≤ place). w.3
    (apart w.0 p.higher place d w.1 p.inside.1 at
    (subst P (sym (p.high_at d)) (omega (arith, a, p.parts.high_is), omega (arith, x, p.parts.high_is)))))
    (cases_lt place p.middle) in
    ⊎_elim
    (λ (e : i ≡ k). ⊎_elim
    (λ (f : j ≡ k). e ∙ sym f)
    (λ (jk : j ≢ k). absurd (apart_from j i lj jk v e u))
    (cases_eq j k))
    (λ (ik : i ≢ k). ⊎_elim
    (λ (f : j ≡ k). absurd (apart_from i j li ik u f v))
    (λ (jk : j ≢ k).
    let w = p.went i li ik in
    let x = p.went j lj jk in
    (shifted_alike k w.0 x.0 i j w.5 x.5).1
    (apart w.0 x.0 place d w.1 x.1 (subst P (sym (w.4 d)) u) (subst P (sym (x.4 d)) v)))
    (cases_eq j k))
    (cases_eq i k)

-- after a split, the segment with this id still contains an array position that is not in the new part
holds_split : (old new : List Segment) (k id place : ℕ) (segment : Segment) → (p : Parted old new k segment) →
    (place < p.high.low)
    ⊎ (p.high.high ≤ place) → Holds old id place → Holds new id place
holds_split old new k id place segment p out h =
    ⊎_elim
    (λ (e : h.0 ≡ k).
    let at : (d : Segment) → (segment.id ≡ id) × (segment.low ≤ place) × (place < segment.high) = λ d.
    let f : get_or old h.0 d ≡ segment = ap (λ u. get_or old u d) e ∙ p.segment_at d in
    let P : Segment → Type 0 = λ r. (r.id ≡ id) × (r.low ≤ place) × (place < r.high) in
    subst P f (h.2 d) in (
      p.lower,
      p.inside.0,
      (λ d.
          let a = at d in
          let P : Segment → Type 0 = λ r. (r.id ≡ id) × (r.low ≤ place) × (place < r.high) in
          subst P (sym (p.low_at d)) (
            p.parts.low_is.3 ∙ a.0,
            omega (arith, a, p.parts.low_is),
            ⊎_elim (λ (b : place < p.high.low). omega (arith, b, p.parts.low_is, p.parts.high_is))
                (λ (b : p.high.high ≤ place). absurd (omega (arith, b, p.parts.high_is, a))) out,
          )),
    ))
    (λ (ne : h.0 ≢ k).
    let w = p.went h.0 h.1 ne in
    let P : (d : Segment) → Segment → Type 0 = λ d r. (r.id ≡ id) × (r.low ≤ place) × (place < r.high) in
    (w.0, w.1, λ d. subst (P d) (sym (w.4 d)) (h.2 d)))
    (cases_eq h.0 k)

-- segments can be found after a split, if the id of the new part is noted in the table
pub split_found : (n bucket : ℕ) (old new : List Segment) (table table' : List ℕ) (k m : ℕ) (part : Segment) → k <
    length old →
    (s : IsSplit old new k m) →
    ((d : Segment) → (get_or new k d).back ≡ true → part ≡ get_or new k d) →
    ((d : Segment) → (get_or new k d).back ≡ false → part ≡ get_or new (k + 1) d) →
    IsNoted bucket part table table' → CanBeFound n bucket old table → CanBeFound n bucket new table'
split_found n bucket old new table table' k m part lt s behind ahead noted h =
    let p = parted old new k m lt s in
    let is : part ≡ p.high =
    ⊎_elim
    (λ (e : s.segment.back ≡ true). behind part (p.first part ∙ e) ∙ ap (λ u. get_or new u part) (sym (p.behind e).1)
    ∙ p.high_at part)
    (λ (e : s.segment.back ≡ false). ahead part (p.first part ∙ e) ∙ ap (λ u. get_or new u part) (sym (p.ahead e).1)
    ∙ p.high_at part)
    (cases_bool s.segment.back) in
    let id_is : part.id ≡ p.high.id = ap (λ (r : Segment). r.id) is in
    let low_is : part.low ≡ p.high.low = ap (λ (r : Segment). r.low) is in
    let high_is : part.high ≡ p.high.high = ap (λ (r : Segment). r.high) is in
    record {
      apart = split_apart old new k s.segment p h.apart;
      next = split_next n old new k m lt s h.next;
      early = λ b lb lt'.
          let lo : b < length table = omega (arith, lb, noted.size) in
          let place : ℕ = b * bucket in
          let P : ℕ → Type 0 = λ u. Holds new u place in
          let out : (place < p.high.low) ⊎ (p.high.high ≤ place) → Holds new (get_or table' b 0) place = λ o.
          let o' : (place < part.low) ⊎ (part.high ≤ place) =
          ⊎_elim (λ (a : place < p.high.low). inl (omega (arith, a, low_is)))
          (λ (a : p.high.high ≤ place). inr (omega (arith, a, high_is))) o in
          subst P (sym (noted.others b o')) (holds_split old new k _ place s.segment p o (h.early b lo lt')) in
          ⊎_elim
          (λ (a : place < p.high.low). out (inl a))
          (λ (a : p.high.low ≤ place). ⊎_elim
          (λ (c : place < p.high.high).
          subst P (sym (noted.inside b lo (omega (arith, a, low_is)) (omega (arith, c, high_is)) ∙ id_is)) (
            p.higher,
            p.inside.1,
            λ d. (
              ap (λ (r : Segment). r.id) (p.high_at d),
              omega (arith, a, ap (λ (r : Segment). r.low) (p.high_at d)),
              omega (arith, c, ap (λ (r : Segment). r.high) (p.high_at d)),
            ),
          ))
          (λ (c : p.high.high ≤ place). out (inr c))
          (cases_lt place p.high.high))
          (cases_lt place p.high.low);
    }

-- a join keeps all ids except that of the part with the higher positions
names_join : (old new : List Segment) (k id lo : ℕ) (segment : Segment) → (p : Parted old new k segment) → id ≢ length
    old →
    Names new id lo → Names old id lo
names_join old new k id lo segment p other h =
    ⊎_elim
    (λ (e : h.0 ≡ p.higher).
    absurd (other (sym (h.2 segment).0 ∙ ap (λ u. (get_or new u segment).id) e ∙ ap (λ (r : Segment). r.id)
    (p.high_at segment)
    ∙ p.parts.high_is.3)))
    (λ (nh : h.0 ≢ p.higher). ⊎_elim
    (λ (e : h.0 ≡ p.lower). (
      k,
      p.k_in,
      (λ d.
          let f : get_or new h.0 d ≡ p.low = ap (λ u. get_or new u d) e ∙ p.low_at d in (
            ap (λ (r : Segment). r.id) (p.segment_at d) ∙ sym p.parts.low_is.3 ∙ sym (ap (λ (r : Segment). r.id) f) ∙
                (h.2 d).0,
            ap (λ (r : Segment). r.low) (p.segment_at d) ∙ sym p.parts.low_is.0 ∙ sym (ap (λ (r : Segment). r.low) f) ∙
                (h.2 d).1,
          )),
    ))
    (λ (nl : h.0 ≢ p.lower).
    let c = p.came h.0 h.1 nl nh in
    (c.0, c.1, λ d. (ap (λ (r : Segment). r.id) (c.2 d) ∙ (h.2 d).0, ap (λ (r : Segment). r.low) (c.2 d) ∙ (h.2 d).1)))
    (cases_eq h.0 p.lower))
    (cases_eq h.0 p.higher)

-- after a join, the segment with this id still contains an array position that is not in the joined segment
holds_join : (old new : List Segment) (k id place : ℕ) (segment : Segment) → (p : Parted old new k segment) →
    (place < segment.low)
    ⊎ (segment.high ≤ place) → Holds new id place → Holds old id place
holds_join old new k id place segment p out h =
    let within : (r : Segment) → ((d : Segment) → get_or new h.0 d ≡ r) → segment.low ≤ r.low → r.high ≤ segment.high →
    ⊥ = λ r at a b.
    let k1 = ap (λ (u : Segment). u.low) (at segment) in
    let k2 = ap (λ (u : Segment). u.high) (at segment) in
    ⊎_elim
    (λ (c : place < segment.low). omega (arith, c, k1, a, (h.2 segment).1))
    (λ (c : segment.high ≤ place). omega (arith, c, k2, b, (h.2 segment).2))
    out in
    ⊎_elim
    (λ (e : h.0 ≡ p.higher). absurd
    (within p.high (λ d. ap (λ u. get_or new u d) e ∙ p.high_at d) (omega (arith, p.parts.high_is, p.parts.inside))
    (omega (arith, p.parts.high_is))))
    (λ (nh : h.0 ≢ p.higher). ⊎_elim
    (λ (e : h.0 ≡ p.lower). absurd
    (within p.low (λ d. ap (λ u. get_or new u d) e ∙ p.low_at d) (omega (arith, p.parts.low_is))
    (omega (arith, p.parts.low_is, p.parts.inside))))
    (λ (nl : h.0 ≢ p.lower).
    let c = p.came h.0 h.1 nl nh in
    let P : Segment → Type 0 = λ r. (r.id ≡ id) × (r.low ≤ place) × (place < r.high) in
    (c.0, c.1, λ d. subst P (sym (c.2 d)) (h.2 d)))
    (cases_eq h.0 p.lower))
    (cases_eq h.0 p.higher)

-- no segment other than the lower part has the id of the higher part as `next`
next_of_one : (n bucket : ℕ) (old new : List Segment) (table : List ℕ) (k : ℕ) (segment : Segment) →
    (p : Parted old new k segment) →
    All (IsWithin n) new → HaveNames new → CanBeFound n bucket new table →
    (j : ℕ) (d : Segment) → j < length new → j ≢ p.lower → (get_or new j d).high < n → (get_or new j d).next ≢ length
    old
next_of_one n bucket old new table k segment p within names h j d lj nl lt e =
    let f = h.next j d lj lt in
    let id_is : (get_or new f.0 d).id ≡ length old = (f.2 d).0 ∙ e in
    let high_id : (get_or new p.higher d).id ≡ length old = ap (λ (r : Segment). r.id) (p.high_at d) ∙ p.parts.high_is.3
    in
    let is : f.0 ≡ p.higher =
    ⊎_elim
    (λ (a : f.0 < p.higher). absurd (names.apart f.0 p.higher d a p.inside.1 (id_is ∙ sym high_id)))
    (λ (a : p.higher ≤ f.0). ⊎_elim
    (λ (b : p.higher < f.0). absurd (names.apart p.higher f.0 d b f.1 (high_id ∙ sym id_is)))
    (λ (b : f.0 ≤ p.higher). omega (arith, a, b))
    (cases_lt p.higher f.0))
    (cases_lt f.0 p.higher) in
    let high_is : (get_or new j d).high ≡ p.middle = sym (f.2 d).1 ∙ ap (λ u. (get_or new u d).low) is
    ∙ ap (λ (r : Segment). r.low) (p.high_at d) ∙ p.parts.high_is.0 in
    let lower = p.low_at d in
    let last : ℕ = p.middle - 1 in
    nl (h.apart j p.lower last d lj p.inside.0
    (omega (arith, high_is, (within j d lj).0), omega (arith, high_is, p.parts.inside)) (
      omega (arith, ap (λ (r : Segment). r.low) lower, p.parts.low_is, p.parts.inside),
      omega (arith, ap (λ (r : Segment). r.high) lower, p.parts.low_is, p.parts.inside),
    ))

-- segments can be found after a join, if the id of the joined segment is noted in the table
pub join_found : (n bucket : ℕ) (old new : List Segment) (table table' : List ℕ) (k : ℕ) (segment : Segment) →
    (p : Parted old new k segment) → All (IsWithin n) new → HaveNames new →
    IsNoted bucket segment table table' → CanBeFound n bucket new table → CanBeFound n bucket old table'
join_found n bucket old new table table' k segment p within names noted h =
    record {
      apart = join_apart old new k segment p h.apart;
      next = λ j d lj lt.
          let P : Segment → Type 0 = λ r. r.high < n → Names old r.next r.high in
          let of : (i : ℕ) → i < length new → i ≢ p.lower →
          P (get_or new i d) =
          λ i li ne lt'. names_join old new k _ _ segment p
          (next_of_one n bucket old new table k segment p within names h i d li ne lt') (h.next i d li lt') in
          let at : P (get_or old j d) =
          ⊎_elim
          (λ (e : j ≡ k).
          let apart : p.higher ≢ p.lower = λ g.
          let same : p.high ≡ p.low = sym (p.high_at segment) ∙ ap (λ u. get_or new u segment) g ∙ p.low_at segment in
          omega (arith, ap (λ (r : Segment). r.low) same, p.parts.low_is, p.parts.high_is, p.parts.inside) in
          let f : get_or old j d ≡ segment = ap (λ u. get_or old u d) e ∙ p.segment_at d in
          let g : P p.high = subst P (p.high_at d) (of p.higher p.inside.1 apart) in
          let whole : P segment = λ lt'.
          let Q : ℕ → Type 0 = λ u. Names old u segment.high in
          let R : ℕ → Type 0 = λ u. Names old p.high.next u in
          subst Q p.parts.high_is.4 (subst R p.parts.high_is.1 (g (omega (arith, lt', p.parts.high_is)))) in
          subst P (sym f) whole)
          (λ (ne : j ≢ k). let w = p.went j lj ne in subst P (w.4 d) (of w.0 w.1 w.2))
          (cases_eq j k) in
          at lt;
      early = λ b lb lt'.
          let lo : b < length table = omega (arith, lb, noted.size) in
          let place : ℕ = b * bucket in
          let P : ℕ → Type 0 = λ u. Holds old u place in
          let out : (place < segment.low) ⊎ (segment.high ≤ place) → Holds old (get_or table' b 0) place = λ o.
          subst P (sym (noted.others b o)) (holds_join old new k _ place segment p o (h.early b lo lt')) in
          ⊎_elim
          (λ (a : place < segment.low). out (inl a))
          (λ (a : segment.low ≤ place). ⊎_elim
          (λ (c : place < segment.high).
          subst P (sym (noted.inside b lo a c)) (
            k,
            p.k_in,
            λ d. (
              ap (λ (r : Segment). r.id) (p.segment_at d),
              omega (arith, a, ap (λ (r : Segment). r.low) (p.segment_at d)),
              omega (arith, c, ap (λ (r : Segment). r.high) (p.segment_at d)),
            ),
          ))
          (λ (c : segment.high ≤ place). out (inr c))
          (cases_lt place segment.high))
          (cases_lt place segment.low);
    }
