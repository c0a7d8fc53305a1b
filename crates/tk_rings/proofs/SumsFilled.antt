-- Sums along a ring, computed one position after another, and after positions of the ring were reversed.
use Rattle.std.proofs.Common.{◌≡◌, ◌≢◌, ℕ, ◌+◌, ◌-◌, ◌*◌, ◌^◌, ◌<◌, ◌≤◌, ◌⊎◌, ⊎_elim, inl, inr, true, false, List}
use Rattle.std.proofs.Common.{length, get_or, set, sym, ◌∙◌, ap, arith, subst}
use Rattle.std.proofs.lemmas.Bool.{cases_lt, cases_eq, both_ways}
use Rattle.std.proofs.lemmas.List.{get_or-set_same, get_or-set_other, length-set}
use Rattle.tk_rings.specs.Capacities.{is_copy}
use Rattle.tk_rings.specs.Sums.{AreSumsAlong, AreSumsBeside, AreSumsOf, IsListed, IsSummed, copies_up_to, load_up_to}
use Rattle.tk_rings.specs.declared.sums.Sums.{Sums}
use Rattle.tk_rings.proofs.SumsAlong.{copies-at, copies-rise, few_copies}

-- the position k is added to those before it
module _ (demands ring : List ℕ) (k to : ℕ) (lt : k < to) (room : to ≤ length ring) (old new : Sums)
    (h : AreSumsBeside k to demands ring old) where
  module _ (load count : ℕ) (loads : new.loads.items ≡ set old.loads.items (k + 1) load)
      (counts : new.counts.items ≡ set old.counts.items (k + 1) count) (load_is : load ≡ load_up_to demands ring (k +
      1))
      (count_is : count ≡ copies_up_to demands ring (k + 1)) (light : load ≤ 2 ^ 32 * (k + 1)) where
    summed_here : IsSummed demands ring new (k + 1)
    summed_here = record {
      load = ap (λ xs. get_or xs (k + 1) 0) loads
          ∙ get_or-set_same old.loads.items (k + 1) load 0 (omega (arith, h.sizes.loads)) ∙ load_is;
      count = ap (λ xs. get_or xs (k + 1) 0) counts
          ∙ get_or-set_same old.counts.items (k + 1) count 0 (omega (arith, h.sizes.counts)) ∙ count_is;
      light = omega (arith, light, load_is);
    }

    summed_as_before : (i : ℕ) → i ≢ k + 1 → IsSummed demands ring old i → IsSummed demands ring new i
    summed_as_before i ne s = record {
      load = ap (λ xs. get_or xs i 0) loads ∙ get_or-set_other old.loads.items (k + 1) i load 0 ne ∙ s.load;
      count = ap (λ xs. get_or xs i 0) counts ∙ get_or-set_other old.counts.items (k + 1) i count 0 ne ∙ s.count;
      light = s.light;
    }

    summed_more : (i : ℕ) → (i ≤ k + 1) ⊎ (to < i) → i ≤ length ring → IsSummed demands ring new i
    summed_more i at within =
        ⊎_elim (λ (e : i ≡ k + 1). subst (IsSummed demands ring new) (sym e) summed_here)
        (λ (ne : i ≢ k + 1). summed_as_before i ne (h.summed i
        (⊎_elim (λ (le : i ≤ k + 1). inl (omega (arith, le, ne))) (λ (over : to < i). inr over) at) within))
        (cases_eq i (k + 1))

  -- a copy is listed in the next entry
  module _ (copy : is_copy demands (get_or ring k 0) ≡ true)
      (copies : new.copies.items ≡ set old.copies.items (copies_up_to demands ring k) k) where
    apart : (i : ℕ) → i ≢ k → i < length ring → is_copy demands (get_or ring i 0) ≡ true →
        copies_up_to demands ring i ≢ copies_up_to demands ring k
    apart i ne within here e =
        ⊎_elim
        (λ (less : i < k).
        absurd (omega (
          arith,
          e,
          copies-at demands ring i within here,
          copies-rise demands ring (i + 1) k (omega
              arith),
        )))
        (λ (more : k ≤ i).
        absurd (omega (
          arith,
          e,
          copies-at demands ring k (omega (arith, lt, room)) copy,
          copies-rise demands ring (k + 1) i (omega (arith, more, ne)),
        )))
        (cases_lt i k)

    listed_more : (i : ℕ) → (i < k + 1) ⊎ (to ≤ i) → i < length ring → IsListed demands ring new i
    listed_more i at within here =
        ⊎_elim
        (λ (e : i ≡ k).
        ap (λ xs. get_or xs (copies_up_to demands ring i) 0) copies
        ∙ ap (λ j. get_or (set old.copies.items (copies_up_to demands ring k) k) (copies_up_to demands ring j) 0) e
        ∙ get_or-set_same old.copies.items (copies_up_to demands ring k) k 0
        (omega (arith, h.sizes.copies, few_copies demands ring k, lt, room)) ∙ sym e)
        (λ (ne : i ≢ k).
        ap (λ xs. get_or xs (copies_up_to demands ring i) 0) copies
        ∙ get_or-set_other old.copies.items (copies_up_to demands ring k) (copies_up_to demands ring i) k 0
        (apart i ne within here)
        ∙ h.listed i (⊎_elim (λ (le : i < k + 1). inl (omega (arith, le, ne))) (λ (over : to ≤ i). inr over) at) within
        here)
        (cases_eq i k)

  -- a customer is not listed
  listed_same : is_copy demands (get_or ring k 0) ≡ false → new.copies.items ≡ old.copies.items → (i : ℕ) →
      (i < k + 1) ⊎ (to ≤ i) → i < length ring → IsListed demands ring new i
  listed_same plain copies i at within here =
      ap (λ xs. get_or xs (copies_up_to demands ring i) 0) copies
      ∙ h.listed i
      (⊎_elim (λ (le : i < k + 1). inl (omega (
        arith,
        le,
        λ (e : i ≡ k).
            both_ways (is_copy demands (get_or ring i 0)) (ap (λ j. is_copy demands (get_or ring j 0)) e ∙ plain) here,
      )))
      (λ (over : to ≤ i). inr over) at) within here

  module _ (load count : ℕ) (loads : new.loads.items ≡ set old.loads.items (k + 1) load)
      (counts : new.counts.items ≡ set old.counts.items (k + 1) count) (load_is : load ≡ load_up_to demands ring (k +
      1))
      (count_is : count ≡ copies_up_to demands ring (k + 1)) (light : load ≤ 2 ^ 32 * (k + 1)) where
    sizes_more : length new.copies.items ≡ length old.copies.items → AreSumsOf (length ring) new
    sizes_more copies = record {
      loads = ap length loads ∙ length-set old.loads.items (k + 1) load ∙ h.sizes.loads;
      counts = ap length counts ∙ length-set old.counts.items (k + 1) count ∙ h.sizes.counts;
      copies = copies ∙ h.sizes.copies;
    }

    pub beside_copy : is_copy demands (get_or ring k 0) ≡ true →
        new.copies.items ≡ set old.copies.items (copies_up_to demands ring k) k →
        AreSumsBeside (k + 1) to demands ring new
    beside_copy copy copies = record {
      sizes = sizes_more (ap length copies ∙ length-set old.copies.items (copies_up_to demands ring k) k);
      summed = summed_more load count loads counts load_is count_is light;
      listed = listed_more copy copies;
    }

    pub beside_customer : is_copy demands (get_or ring k 0) ≡ false → new.copies.items ≡ old.copies.items →
        AreSumsBeside (k + 1) to demands ring new
    beside_customer plain copies = record {
      sizes = sizes_more (ap length copies);
      summed = summed_more load count loads counts load_is count_is light;
      listed = listed_same plain copies;
    }

pub all_summed : (demands ring : List ℕ) (sums : Sums) (to : ℕ) → AreSumsBeside to to demands ring sums →
    AreSumsAlong demands ring sums
all_summed demands ring sums to h = record {
  sizes = h.sizes;
  summed = λ k. h.summed k (cases_le k to);
  listed = λ k. h.listed k (cases_lt k to);
}
  where
    cases_le : (m n : ℕ) → (m ≤ n) ⊎ (n < m)
    cases_le m n = ⊎_elim (λ (lt : n < m). inr lt) (λ (le : m ≤ n). inl le) (cases_lt n m)
