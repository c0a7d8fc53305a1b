-- The sums along a ring, some positions of which were reversed: beside these, they are as before.
use Rattle.std.proofs.Common.{◌≡◌, ℕ, ◌+◌, ◌-◌, ◌<◌, ◌≤◌, ◌⊎◌, ⊎_elim, inl, inr, List, [], ◌∷◌, ◌++◌}
use Rattle.std.proofs.Common.{length, take, drop}
use Rattle.std.proofs.Common.{get_or, refl, sym, ◌∙◌, ap, arith, subst}
use Rattle.std.specs.Prelude.{reverse}
use Rattle.std.specs.List.{sum_by}
use Rattle.std.proofs.lemmas.List.{length-reverse, length-take-le}
use Rattle.std.proofs.lemmas.List.{length-drop}
use Rattle.std.proofs.lemmas.List.{take-append-drop, take-append-le, get_or_append_left, get_or-append_right}
use Rattle.std.proofs.lemmas.List.Sorted.{IsPermutation-reverse, sum_by-IsPermutation}
use Rattle.std.proofs.lemmas.List.Sums.{sum_by-append}
use Rattle.std.proofs.Math.Seq.{take-append-add}
use Rattle.tk_tour.specs.Journal.{undone}
use Rattle.tk_tour.specs.JournalTours.{cities_of, settled_order}
use Rattle.tk_tour.specs.Reversal.{reversed_places}
use Rattle.tk_tour.specs.declared.store.Flip.{Flip}
use Rattle.tk_tour.specs.declared.store.TourStore.{Ghosts}
use Rattle.tk_tour.specs.declared.stores.journal.JournalTour.{JournalTour}
use Rattle.tk_tour.specs.declared.undo.UndoStore as undo
use Rattle.tk_tour.proofs.StoredTours.Places.{length-reversed_places}
use Rattle.tk_tour.proofs.StoredTours.TurnedWithin.{turned_within, turned_within-is}
use Rattle.tk_rings.specs.Capacities.{demand_in, is_copy}
use Rattle.tk_rings.specs.Sums.{AreSumsAlong, AreSumsBeside, AreSumsOf, IsSummed, copies_up_to, load_up_to}
use Rattle.tk_rings.specs.declared.sums.Sums.{Sums}
use Rattle.tk_rings.proofs.SumsAlong.{few_copies}

take_behind : (xs ys : List ℕ) (n k : ℕ) → length xs ≡ n → n ≤ k → take k (xs ++ ys) ≡ xs ++ take (k - n) ys
take_behind xs ys n k e le =
    let at : k ≡ length xs + (k - n) = omega (arith, e, le) in
    ap (λ m. take m (xs ++ ys)) at ∙ take-append-add xs ys (k - n)

module _ (first count : ℕ) (old : List ℕ) (le : first + count ≤ length old) where
  abbrev front : List ℕ
  front = take first old

  abbrev midst : List ℕ
  midst = take count (drop first old)

  abbrev rest : List ℕ
  rest = drop count (drop first old)

  old_is : old ≡ front ++ (midst ++ rest)
  old_is = sym (ap (λ z. front ++ z) (take-append-drop count (drop first old)) ∙ take-append-drop first old)

  size_front : length front ≡ first
  size_front = length-take-le first old (omega (arith, le))

  size_midst : length midst ≡ count
  size_midst = length-take-le count (drop first old) (omega (arith, le, length-drop first old))

  -- with the positions in the midst, whatever their order
  module _ (turned : List ℕ) (size : length turned ≡ count) (f : ℕ → ℕ) (same : sum_by f turned ≡ sum_by f midst) where
    sum_behind : (k : ℕ) → first + count ≤ k →
        sum_by f (take k (front ++ (turned ++ rest)))
        ≡ sum_by f front + (sum_by f midst + sum_by f (take (k - first - count) rest))
    sum_behind k far =
        ap (sum_by f) (take_behind front (turned ++ rest) first k size_front (omega (arith, far))
        ∙ ap (λ z. front ++ z) (take_behind turned rest count (k - first) size (omega (arith, far))))
        ∙ sum_by-append f front (turned ++ take (k - first - count) rest)
        ∙ ap (λ z. sum_by f front + z) (sum_by-append f turned (take (k - first - count) rest)
        ∙ ap (λ z. z + sum_by f (take (k - first - count) rest)) same)

  abbrev now : List ℕ
  now = turned_within first count old

  turned_size : length (reverse midst) ≡ count
  turned_size = length-reverse midst ∙ size_midst

  sums_behind : (f : ℕ → ℕ) (k : ℕ) → first + count ≤ k → sum_by f (take k now) ≡ sum_by f (take k old)
  sums_behind f k far =
      sum_behind (reverse midst) turned_size f (sum_by-IsPermutation f midst (reverse midst) (IsPermutation-reverse
      midst)) k
      far
      ∙ sym (ap (λ z. sum_by f (take k z)) old_is ∙ sum_behind midst size_midst f refl k far)

  sums_ahead : (f : ℕ → ℕ) (k : ℕ) → k ≤ first → sum_by f (take k now) ≡ sum_by f (take k old)
  sums_ahead f k near =
      ap (sum_by f) (take-append-le k front (reverse midst ++ rest) (omega (arith, near, size_front))
      ∙ sym (ap (take k) old_is ∙ take-append-le k front (midst ++ rest) (omega (arith, near, size_front))))

  pub sums_beside : (f : ℕ → ℕ) (k : ℕ) → (k ≤ first) ⊎ (first + count ≤ k) →
      sum_by f (take k (reversed_places first count old)) ≡ sum_by f (take k old)
  sums_beside f k at =
      ap (λ z. sum_by f (take k z)) (sym (turned_within-is first count old le))
      ∙ ⊎_elim (λ (near : k ≤ first). sums_ahead f k near) (λ (far : first + count ≤ k). sums_behind f k far) at

  entry_ahead : (k : ℕ) → k < first → get_or now k 0 ≡ get_or old k 0
  entry_ahead k near =
      get_or_append_left front (reverse midst ++ rest) 0 k (omega (arith, near, size_front))
      ∙ sym (ap (λ z. get_or z k 0) old_is
      ∙ get_or_append_left front (midst ++ rest) 0 k (omega (arith, near, size_front)))

  entry_of : (turned : List ℕ) (k : ℕ) → length turned ≡ count → first + count ≤ k →
      get_or (front ++ (turned ++ rest)) k 0 ≡ get_or rest (k - first - count) 0
  entry_of turned k size far =
      get_or-append_right front (turned ++ rest) first k 0 size_front (omega (arith, far))
      ∙ get_or-append_right turned rest count (k - first) 0 size (omega (arith, far))

  pub entry_beside : (k : ℕ) → (k < first) ⊎ (first + count ≤ k) →
      get_or (reversed_places first count old) k 0 ≡ get_or old k 0
  entry_beside k at =
      ap (λ z. get_or z k 0) (sym (turned_within-is first count old le))
      ∙ ⊎_elim (λ (near : k < first). entry_ahead k near)
      (λ (far : first + count ≤ k).
      entry_of (reverse midst) k turned_size far
      ∙ sym (ap (λ z. get_or z k 0) old_is ∙ entry_of midst k size_midst far)) at

-- the sums of the ring before the reversal are those of the ring after it, beside the positions
module _ (demands old new : List ℕ) (sums : Sums) (h : AreSumsAlong demands old sums) where
  sizes_same : length new ≡ length old → AreSumsOf (length new) sums
  sizes_same e = subst (λ n. AreSumsOf n sums) (sym e) h.sizes

  summed_same : (k : ℕ) → load_up_to demands new k ≡ load_up_to demands old k →
      copies_up_to demands new k ≡ copies_up_to demands old k → IsSummed demands old sums k → IsSummed demands new
      sums k
  summed_same k loads copies s = record {
    load = s.load ∙ sym loads;
    count = s.count ∙ sym copies;
    light = omega (arith, s.light, loads);
  }

  pub beside_reversed : (first count : ℕ) → new ≡ reversed_places first count old → first + count ≤ length old →
      AreSumsBeside first (first + count) demands new sums
  beside_reversed first count is le =
      let size : length new ≡ length old = ap length is ∙ length-reversed_places first count old in
      let sums_at : (f : ℕ → ℕ) (k : ℕ) → (k ≤ first) ⊎ (first + count ≤ k) →
      sum_by f (take k new) ≡ sum_by f (take k old) = λ f k at.
      ap (λ z. sum_by f (take k z)) is ∙ sums_beside first count old le f k at in
      record {
        sizes = sizes_same size;
        summed = λ k at within.
            let beside : (k ≤ first) ⊎ (first + count ≤ k) =
            ⊎_elim (λ (near : k ≤ first). inl near) (λ (far : first + count < k). inr (omega (arith, far))) at in
            summed_same k (sums_at (demand_in demands) k beside) (sums_at _ k beside)
            (h.summed k (omega (arith, within, size)));
        listed = λ k at within here.
            let entry : get_or new k 0 ≡ get_or old k 0 =
            ap (λ z. get_or z k 0) is ∙ entry_beside first count old le k at in
            let beside : (k ≤ first) ⊎ (first + count ≤ k) =
            ⊎_elim (λ (near : k < first). inl (omega (arith, near))) (λ (far : first + count ≤ k). inr far) at in
            ap (λ j. get_or sums.copies.items j 0) (sums_at _ k beside)
            ∙ h.listed k (omega (arith, within, size)) (ap (is_copy demands) (sym entry) ∙ here);
      }

-- the sums at the first position are 0
pub first_sums : (demands ring : List ℕ) (sums : Sums) → AreSumsAlong demands ring sums →
    (get_or sums.loads.items 0 0 ≡ 0) × (get_or sums.counts.items 0 0 ≡ 0)
first_sums demands ring sums h =
    let s = h.summed 0 (omega arith) in
    (omega (arith, s.load, s.light), omega (arith, s.count, few_copies demands ring 0))

-- before the first position, all sums are 0
pub beside_all : (demands ring : List ℕ) (n : ℕ) (sums : Sums) → AreSumsOf n sums → length ring ≡ n →
    get_or sums.loads.items 0 0 ≡ 0 → get_or sums.counts.items 0 0 ≡ 0 →
    AreSumsBeside 0 n demands ring sums
beside_all demands ring n sums sizes e load count = record {
  sizes = subst (λ m. AreSumsOf m sums) (sym e) sizes;
  summed = λ k at within.
      ⊎_elim
      (λ (near : k ≤ 0).
      subst (IsSummed demands ring sums) (let z : 0 ≡ k = omega (arith, near) in z)
      (record { load = load; count = count; light = omega arith }))
      (λ (far : n < k). absurd (omega (arith, far, within, e))) at;
  listed = λ k at within.
      ⊎_elim (λ (near : k < 0). absurd (omega (arith, near))) (λ (far : n ≤ k). absurd (omega (
        arith,
        far,
        within,
        e,
      ))) at;
}

-- the sums along a ring, as those of another ring of the same size before its first position
pub beside_any : (demands old new : List ℕ) (n : ℕ) (sums : Sums) → AreSumsAlong demands old sums → n ≡ length old →
    length new ≡ length old → AreSumsBeside 0 n demands new sums
beside_any demands old new n sums h e size =
    let zero = first_sums demands old sums h in
    beside_all demands new n sums (subst (λ m. AreSumsOf m sums) (sym e) h.sizes) (size ∙ sym e) zero.0 zero.1

-- undone flips leave the size as it is
length-undone : (flips : List Flip) (ring : List ℕ) → length (undone flips ring) ≡ length ring
length-undone [] ring = refl
length-undone (f ∷ flips) ring =
    length-reversed_places (f.first - 1) f.count (undone flips ring) ∙ length-undone flips ring

pub length-settled : {S : Type 0} {u : undo.Ghosts S} {s : Ghosts S} (journal : JournalTour S u s) →
    length (settled_order journal) ≡ length (cities_of journal)
length-settled journal = length-undone journal.journal.items (cities_of journal)
