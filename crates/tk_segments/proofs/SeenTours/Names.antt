-- The ids of segments: after a split, and in another order.
use Rattle.std.proofs.Common.{◌≡◌, ◌≢◌, ℕ, true, false, ◌+◌, ◌-◌, ◌<◌, ◌≤◌, ⊎_elim, List, length, set, sym, ap, ◌∙◌}
use Rattle.std.proofs.Common.{◌++◌, take, subst, arith, get_or}
use Rattle.std.proofs.lemmas.Bool.{cases_lt}
use Rattle.std.proofs.lemmas.List.{get_or_default, get_or-set_same, get_or-set_other}
use Rattle.tk_segments.specs.Segments.{IsSplit, HaveNames, AreNamed, AreNamedTo, SameBefore, Names, Holds}
use Rattle.tk_segments.specs.Segments.{AreLaidOut, CanBeFound, StandsAs, HoldsAs, AreFound, StayFound}
use Rattle.tk_segments.specs.declared.segment.Segment.{Segment}
use Rattle.tk_segments.proofs.WrittenFronts.{at_front}
use Rattle.tk_segments.proofs.NoSegment.{no_segment}
use Rattle.tk_segments.proofs.SeenTours.Splitting.{cases_bool}
use Rattle.tk_segments.proofs.SeenTours.Naming.{split_at, split_entry_before, split_entry_beyond}

pub named_names : (segments : List Segment) (home : List ℕ) → AreNamed segments home → HaveNames segments
named_names segments home named = record {
  less = λ k d lt. (named k d lt).0;
  apart = λ j k d lt lk e.
      absurd (omega (arith, (named j d (omega (arith, lt, lk))).1, ap (λ u. get_or home u 0) e, (named k d lk).1, lt));
}

pub SameBefore-sym : (k : ℕ) (old new : List Segment) → k ≤ length new → SameBefore k old new → SameBefore k new old
SameBefore-sym k old new le h = (le, λ j d lt. sym (h.1 j d lt))

pub SameBefore-trans : (i j : ℕ) (old mid new : List Segment) → SameBefore i old mid → SameBefore j mid new → i ≤ j →
    SameBefore i old new
SameBefore-trans i j old mid new h k le = (h.0, λ l d lt. k.1 l d (omega (arith, lt, le)) ∙ h.1 l d lt)

-- the ids after one segment is inserted at f, with a new id
pub record IdsAfter (f : ℕ) (old new : List Segment) : Type 0 where
  pub size : length new ≡ length old + 1
  pub inside : f ≤ length old
  pub before : (i : ℕ) (d : Segment) → i < f → (get_or new i d).id ≡ (get_or old i d).id
  pub beyond : (i : ℕ) (d : Segment) → f ≤ i → i < length old → (get_or new (i + 1) d).id ≡ (get_or old i d).id
  pub fresh : (d : Segment) → (get_or new f d).id ≡ length old

pub names_after : (f : ℕ) (old new : List Segment) → IdsAfter f old new → HaveNames old → HaveNames new
names_after f old new h names =
    let back : (i : ℕ) (d : Segment) → f < i → i < length new →
    (get_or new i d).id ≡ (get_or old (i - 1) d).id = λ i d lt li.
    let e : i - 1 + 1 ≡ i = omega (arith, lt) in
    ap (λ u. (get_or new u d).id) (sym e) ∙ h.beyond (i - 1) d (omega (arith, lt)) (omega (arith, lt, li, h.size)) in
    record {
      less = λ k d lk.
          ⊎_elim
          (λ (a : k < f). omega (arith, h.before k d a, names.less k d (omega (arith, a, h.inside)), h.size))
          (λ (a : f ≤ k). ⊎_elim
          (λ (b : f < k). omega (arith, back k d b lk, names.less (k - 1) d (omega (arith, b, lk, h.size)), h.size))
          (λ (b : k ≤ f). let e : k ≡ f = omega (arith, a, b) in
          omega (arith, ap (λ u. (get_or new u d).id) e, h.fresh d, h.size))
          (cases_lt f k))
          (cases_lt k f);
      apart = λ j k d lt lk e.
          ⊎_elim
          (λ (a : k < f).
          names.apart j k d lt (omega (arith, a, h.inside)) (sym (h.before j d (omega (arith, lt, a))) ∙ e
          ∙ h.before k d a))
          (λ (a : f ≤ k). ⊎_elim
          (λ (b : f < k).
          let ek = back k d b lk in
          ⊎_elim
          (λ (c : j < f).
          names.apart j (k - 1) d (omega (arith, c, b)) (omega (arith, b, lk, h.size)) (sym (h.before j d c) ∙ e ∙ ek))
          (λ (c : f ≤ j). ⊎_elim
          (λ (g : f < j).
          let ej = back j d g (omega (arith, lt, lk)) in
          names.apart (j - 1) (k - 1) d (omega (arith, g, lt)) (omega (arith, b, lk, h.size)) (sym ej ∙ e ∙ ek))
          (λ (g : j ≤ f).
          let s : j ≡ f = omega (arith, c, g) in
          omega (
            arith,
            names.less (k - 1) d (omega (arith, b, lk, h.size)),
            ek,
            e,
            ap (λ u. (get_or new u d).id) s,
            h.fresh d,
          ))
          (cases_lt f j))
          (cases_lt j f))
          (λ (b : k ≤ f).
          let s : k ≡ f = omega (arith, a, b) in
          omega (
            arith,
            names.less j d (omega (arith, lt, b, h.inside)),
            h.before j d (omega (arith, lt, b)),
            e,
            ap (λ u. (get_or new u d).id) s,
            h.fresh d,
          ))
          (cases_lt f k))
          (cases_lt k f);
    }

-- if the ids after it are distinct, so were those before it
pub names_before : (f : ℕ) (old new : List Segment) → IdsAfter f old new → HaveNames new → HaveNames old
names_before f old new h names =
    let fresh : (i : ℕ) (d : Segment) → i < length new → i ≢ f → (get_or new i d).id < length old = λ i d li ne.
    let apart : (get_or new i d).id ≢ length old = λ e.
    ⊎_elim
    (λ (a : i < f). names.apart i f d a (omega (arith, h.inside, h.size)) (e ∙ sym (h.fresh d)))
    (λ (a : f ≤ i). names.apart f i d (omega (arith, a, ne)) li (h.fresh d ∙ sym e))
    (cases_lt i f) in
    omega (arith, names.less i d li, h.size, apart) in
    record {
      less = λ k d lk.
          ⊎_elim
          (λ (a : k < f). omega (arith, fresh k d (omega (arith, lk, h.size)) (omega (arith, a)), h.before k d a))
          (λ (a : f ≤ k). omega (
            arith,
            fresh (k + 1) d (omega (arith, lk, h.size)) (omega (arith, a)),
            h.beyond k d a lk,
          ))
          (cases_lt k f);
      apart = λ j k d lt lk e.
          ⊎_elim
          (λ (a : k < f). names.apart j k d lt (omega (arith, lk, h.size)) (h.before j d (omega (arith, lt, a)) ∙ e
          ∙ sym (h.before k d a)))
          (λ (a : f ≤ k). ⊎_elim
          (λ (b : j < f). names.apart j (k + 1) d (omega (arith, lt)) (omega (arith, lk, h.size)) (h.before j d b ∙ e
          ∙ sym (h.beyond k d a lk)))
          (λ (b : f ≤ j).
          names.apart (j + 1) (k + 1) d (omega (arith, lt)) (omega (arith, lk, h.size))
          (h.beyond j d b (omega (arith, lt, lk)) ∙ e ∙ sym (h.beyond k d a lk)))
          (cases_lt j f))
          (cases_lt k f);
    }

pub same_after : (k f : ℕ) (old new : List Segment) → IdsAfter f old new → k ≤ f → SameBefore k old new
same_after k f old new h le = (omega (arith, le, h.inside), λ j d lt. h.before j d (omega (arith, lt, le)))

-- the index of the part with the new id
pub split_ids : (old new : List Segment) (k m : ℕ) → k < length old → (s : IsSplit old new k m) →
    (s.segment.back ≡ true → IdsAfter k old new) × (s.segment.back ≡ false → IdsAfter (k + 1) old new)
split_ids old new k m lt s =
    let size = (split_at old new k m s.segment lt s).0 in
    let one_at : (d : Segment) → get_or new k d ≡ s.one = λ d. (split_at old new k m d lt s).1 in
    let two_at : (d : Segment) → get_or new (k + 1) d ≡ s.two = λ d. (split_at old new k m d lt s).2 in
    let segment_is : (d : Segment) → s.segment ≡ get_or old k d = λ d. s.segment_is ∙ get_or_default old k s.segment d
    lt in (
      (λ e.
          let p = s.parts.behind e in
          record {
            size = size;
            inside = omega (arith, lt);
            before = λ i d li. ap (λ (r : Segment). r.id) (split_entry_before old new k m i d lt s li);
            beyond = λ i d le li.
                ⊎_elim
                (λ (a : k < i). ap (λ (r : Segment). r.id) (split_entry_beyond old new k m i d lt s a))
                (λ (a : i ≤ k).
                let z : i ≡ k = omega (arith, a, le) in
                ap (λ u. (get_or new (u + 1) d).id) z ∙ ap (λ (r : Segment). r.id) (two_at d) ∙ p.low_is.3
                ∙ ap (λ (r : Segment). r.id) (segment_is d) ∙ ap (λ u. (get_or old u d).id) (sym z))
                (cases_lt k i);
            fresh = λ d. ap (λ (r : Segment). r.id) (one_at d) ∙ p.high_is.3;
          }),
      (λ e.
          let p = s.parts.ahead e in
          record {
            size = size;
            inside = omega (arith, lt);
            before = λ i d li.
                ⊎_elim
                (λ (a : i < k). ap (λ (r : Segment). r.id) (split_entry_before old new k m i d lt s a))
                (λ (a : k ≤ i).
                let z : i ≡ k = omega (arith, a, li) in
                ap (λ u. (get_or new u d).id) z ∙ ap (λ (r : Segment). r.id) (one_at d) ∙ p.low_is.3
                ∙ ap (λ (r : Segment). r.id) (segment_is d) ∙ ap (λ u. (get_or old u d).id) (sym z))
                (cases_lt i k);
            beyond = λ i d le li. ap (λ (r : Segment). r.id) (split_entry_beyond old new k m i d lt s
                (omega (arith, le)));
            fresh = λ d. ap (λ (r : Segment). r.id) (two_at d) ∙ p.high_is.3;
          }),
    )

pub split_names : (old new : List Segment) (k m : ℕ) → k < length old → IsSplit old new k m → HaveNames old → HaveNames
    new
split_names old new k m lt s h =
    ⊎_elim
    (λ (e : s.segment.back ≡ true). names_after k old new ((split_ids old new k m lt s).0 e) h)
    (λ (e : s.segment.back ≡ false). names_after (k + 1) old new ((split_ids old new k m lt s).1 e) h)
    (cases_bool s.segment.back)

pub split_names_before : (old new : List Segment) (k m : ℕ) → k < length old → IsSplit old new k m → HaveNames new →
    HaveNames old
split_names_before old new k m lt s h =
    ⊎_elim
    (λ (e : s.segment.back ≡ true). names_before k old new ((split_ids old new k m lt s).0 e) h)
    (λ (e : s.segment.back ≡ false). names_before (k + 1) old new ((split_ids old new k m lt s).1 e) h)
    (cases_bool s.segment.back)

pub split_same : (old new : List Segment) (k m : ℕ) → k < length old → IsSplit old new k m → SameBefore k old new
split_same old new k m lt s =
    ⊎_elim
    (λ (e : s.segment.back ≡ true). same_after k k old new ((split_ids old new k m lt s).0 e) (omega arith))
    (λ (e : s.segment.back ≡ false). same_after k (k + 1) old new ((split_ids old new k m lt s).1 e) (omega arith))
    (cases_bool s.segment.back)

-- segments with the same id, the same positions and the same successor
pub record AreAlike (r s : Segment) : Type 0 where
  pub id : r.id ≡ s.id
  pub low : r.low ≡ s.low
  pub high : r.high ≡ s.high
  pub next : r.next ≡ s.next

-- the k-th of the new segments is like the p-th of the old ones if R relates k to p
pub record AreReordered (R : ℕ → ℕ → Type 0) (old new : List Segment) : Type 0 where
  pub size : length new ≡ length old
  pub from : (k : ℕ) → k < length old → (p : ℕ) × (p < length old) × R k p
  pub to : (p : ℕ) → p < length old → (k : ℕ) × (k < length old) × R k p
  pub alike : (k p : ℕ) (d : Segment) → k < length old → p < length old → R k p → AreAlike (get_or new k d)
      (get_or old p d)
  pub one : (j k p : ℕ) → R j p → R k p → j ≡ k

pub reordered_names : (R : ℕ → ℕ → Type 0) (old new : List Segment) → AreReordered R old new → HaveNames old → HaveNames
    new
reordered_names R old new h names = record {
  less = λ k d lk.
      let f = h.from k (omega (arith, lk, h.size)) in
      omega (arith, (h.alike k f.0 d (omega (arith, lk, h.size)) f.1 f.2).id, names.less f.0 d f.1, h.size);
  apart = λ j k d lt lk e.
      let f = h.from j (omega (arith, lt, lk, h.size)) in
      let g = h.from k (omega (arith, lk, h.size)) in
      let same : (get_or old f.0 d).id ≡ (get_or old g.0 d).id =
      sym (h.alike j f.0 d (omega (arith, lt, lk, h.size)) f.1 f.2).id ∙ e
      ∙ (h.alike k g.0 d (omega (arith, lk, h.size)) g.1 g.2).id in
      ⊎_elim
      (λ (a : f.0 < g.0). names.apart f.0 g.0 d a g.1 same)
      (λ (a : g.0 ≤ f.0). ⊎_elim
      (λ (b : g.0 < f.0). names.apart g.0 f.0 d b f.1 (sym same))
      (λ (b : f.0 ≤ g.0).
      let z : g.0 ≡ f.0 = omega (arith, a, b) in
      let P : ℕ → Type 0 = λ u. R k u in
      absurd (omega (arith, lt, h.one j k f.0 f.2 (subst P z g.2))))
      (cases_lt g.0 f.0))
      (cases_lt f.0 g.0);
}

pub reordered_found : (R : ℕ → ℕ → Type 0) (n bucket : ℕ) (old new : List Segment) (table : List ℕ) →
    AreReordered R old new →
    CanBeFound n bucket old table → CanBeFound n bucket new table
reordered_found R n bucket old new table h found =
    let names : (id low : ℕ) → Names old id low → Names new id low = λ id low k.
    let t = h.to k.0 k.1 in (
      t.0,
      omega (arith, t.1, h.size),
      (λ d. let a = h.alike t.0 k.0 d t.1 k.1 t.2 in (a.id ∙ (k.2 d).0, a.low ∙ (k.2 d).1)),
    ) in
    let holds : (id place : ℕ) → Holds old id place → Holds new id place = λ id place k.
    let t = h.to k.0 k.1 in (
      t.0,
      omega (arith, t.1, h.size),
      (λ d. let a = h.alike t.0 k.0 d t.1 k.1 t.2 in
          (a.id ∙ (k.2 d).0, omega (arith, a.low, (k.2 d).1), omega (arith, a.high, (k.2 d).2))),
    ) in
    record {
      apart = λ j k place d lj lk u v.
          let f = h.from j (omega (arith, lj, h.size)) in
          let g = h.from k (omega (arith, lk, h.size)) in
          let a = h.alike j f.0 d (omega (arith, lj, h.size)) f.1 f.2 in
          let b = h.alike k g.0 d (omega (arith, lk, h.size)) g.1 g.2 in
          let e : f.0 ≡ g.0 = found.apart f.0 g.0 place d f.1 g.1 (omega (arith, u, a.low), omega (arith, u, a.high))
          (omega (arith, v, b.low), omega (arith, v, b.high)) in
          let P : ℕ → Type 0 = λ w. R k w in
          h.one j k f.0 f.2 (subst P (sym e) g.2);
      next = λ k d lk lt.
          let lk' : k < length old = omega (arith, lk, h.size) in
          let f = h.from k lk' in
          let a = h.alike k f.0 d lk' f.1 f.2 in
          let P : ℕ → Type 0 = λ u. Names new u (get_or new k d).high in
          let Q : ℕ → Type 0 = λ u. Names new (get_or old f.0 d).next u in
          subst P (sym a.next) (subst Q (sym a.high) (names _ _ (found.next f.0 d f.1 (omega (arith, a.high, lt)))));
      early = λ b lb lt. holds _ _ (found.early b lb lt);
    }

-- segments are found by their ids if they are found through `home`
pub found_by_names : (n bucket : ℕ) (segments : List Segment) (home table : List ℕ) → AreFound n bucket segments home
    table →
    CanBeFound n bucket segments table
found_by_names n bucket segments home table h = record {
  apart = h.apart;
  next = λ k d lk lt. let f = h.next k d lk lt in (get_or home (get_or segments k d).next 0, f.0, f.1);
  early = λ b lb lt. let f = h.early b lb lt in (get_or home (get_or table b 0) 0, f.0, f.1);
}

stands_as : (segments : List Segment) (home : List ℕ) (id low : ℕ) → AreNamed segments home → Names segments id low →
    StandsAs segments home id low
stands_as segments home id low named h =
    let e : get_or home id 0 ≡ h.0 = ap (λ u. get_or home u 0) (sym (h.2 no_segment).0) ∙ (named h.0 no_segment h.1).1
    in
    let P : ℕ → Type 0 =
    λ u. (u < length segments) × ((d : Segment) → ((get_or segments u d).id ≡ id) × ((get_or segments u d).low ≡ low))
    in
    subst P (sym e) (h.1, h.2)

holds_as : (segments : List Segment) (home : List ℕ) (id place : ℕ) → AreNamed segments home → Holds segments id place →
    HoldsAs segments home id place
holds_as segments home id place named h =
    let e : get_or home id 0 ≡ h.0 = ap (λ u. get_or home u 0) (sym (h.2 no_segment).0) ∙ (named h.0 no_segment h.1).1
    in
    let P : ℕ → Type 0 =
    λ u. (u < length segments)
    × ((d : Segment) → ((get_or segments u d).id ≡ id) × ((get_or segments u d).low ≤ place)
    × (place < (get_or segments u d).high)) in
    subst P (sym e) (h.1, h.2)

pub found_by_home : (n bucket : ℕ) (segments : List Segment) (home table : List ℕ) → AreNamed segments home →
    CanBeFound n bucket segments table → AreFound n bucket segments home table
found_by_home n bucket segments home table named h = record {
  apart = h.apart;
  next = λ k d lk lt. stands_as segments home _ _ named (h.next k d lk lt);
  early = λ b lb lt. holds_as segments home _ _ named (h.early b lb lt);
}

-- segments that change twice
pub StayFound-trans : (n bucket : ℕ) (xs ys zs : List Segment) (r s t : List ℕ) → StayFound n bucket xs ys r s →
    StayFound n bucket ys zs s t → StayFound n bucket xs zs r t
StayFound-trans n bucket xs ys zs r s t h k = record {
  laid = k.laid;
  names = λ names. k.names (h.names names);
  found = λ found. k.found (h.found found);
  table_size = k.table_size ∙ h.table_size;
}

-- segments reversed after a split, and written to the front of their vector
pub StayFound-front : (n bucket size : ℕ) (old cut reported new rest : List Segment) (before table : List ℕ) → reported
    ≡ cut →
    length new ≡ size → StayFound n bucket old cut before table → AreLaidOut n new →
    (HaveNames reported → HaveNames new) →
    ((t : List ℕ) → CanBeFound n bucket reported t → CanBeFound n bucket new t) →
    StayFound n bucket old (take size (new ++ rest)) before table
StayFound-front n bucket size old cut reported new rest before table e l h laid names found =
    let P : List Segment → Type 0 = λ u. StayFound n bucket old u before table in
    let Q : List Segment → Type 0 = λ u. CanBeFound n bucket u table in
    at_front P size new rest l
    (record {
      laid = laid;
      names = λ k. names (subst HaveNames (sym e) (h.names k));
      found = λ k. found table (subst Q (sym e) (h.found k));
      table_size = h.table_size;
    })

-- `home` is updated for one more segment
pub named_more : (segments : List Segment) (home : List ℕ) (k : ℕ) (none : Segment) → HaveNames segments → k < length
    segments →
    length segments ≤ length home →
    AreNamedTo k segments home → AreNamedTo (k + 1) segments (set home (get_or segments k none).id k)
named_more segments home k none names lt le h = λ j d lj lr.
    let id : ℕ = (get_or segments k none).id in
    let same : (get_or segments k d).id ≡ id = ap (λ (r : Segment). r.id) (get_or_default segments k d none lt) in
    ⊎_elim
    (λ (a : j < k).
    let apart : (get_or segments j d).id ≢ id = λ e. names.apart j k d a lt (e ∙ sym same) in
    get_or-set_other home id (get_or segments j d).id k 0 apart ∙ h j d a lr)
    (λ (a : k ≤ j).
    let e : j ≡ k = omega (arith, a, lj) in
    ap (λ u. get_or (set home id k) (get_or segments u d).id 0) e ∙ ap (λ u. get_or (set home id k) u 0) same
    ∙ get_or-set_same home id k 0 (omega (arith, names.less k none lt, le)) ∙ sym e)
    (cases_lt j k)
