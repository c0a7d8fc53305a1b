-- The loads of some positions of a ring, by the sums along it.
use Rattle.std.proofs.Common.{◌≡◌, ℕ, ◌+◌, ◌-◌, ◌<◌, ◌≤◌, true, false, List, length, get_or, slice_index, refl, sym}
use Rattle.std.proofs.Common.{◌∙◌, ap, arith}
use Rattle.std.proofs.lemmas.List.{get_or_default}
use Rattle.tk_rings.specs.Capacities.{is_copy}
use Rattle.tk_rings.specs.Sums.{AreSumsAlong, IsSpan, IsSpanBack, IsSummed, copies_up_to}
use Rattle.tk_rings.specs.declared.sums.Sums.{Sums}
use Rattle.tk_rings.proofs.SumsAlong.{FirstCopy, LastCopy, copies-at, few_copies, first_copy, last_copy}
use Rattle.tk_rings.proofs.SumsAlong.{load-rises}
use Rattle.tk_rings.proofs.SumsAlong.{none_between}

-- an entry that was read
pub entry : (xs : List ℕ) (i x : ℕ) → x ≡ get_or xs i x → i < length xs → x ≡ slice_index xs i
entry xs i x e lt = e ∙ get_or_default xs i x 0 lt

module _ (demands C : List ℕ) (sums : Sums) (h : AreSumsAlong demands C sums) (p q : ℕ) (le : p ≤ q)
    (lt : q < length C) where
  at_start : IsSummed demands C sums p
  at_start = h.summed p (omega (arith, le, lt))

  at_end : IsSummed demands C sums (q + 1)
  at_end = h.summed (q + 1) (omega (arith, lt))

  abbrev IsMore : Type 0
  IsMore = slice_index sums.counts.items p < slice_index sums.counts.items (q + 1)

  width : p + (q + 1 - p) ≡ q + 1
  width = omega (arith, le)

  -- there is a copy
  module _ (more : IsMore) where
    between : copies_up_to demands C p < copies_up_to demands C (p + (q + 1 - p))
    between = omega (arith, more, at_start.count, at_end.count, ap (copies_up_to demands C) width)

    pub first : FirstCopy demands C p (q + 1 - p)
    first = first_copy demands C p (q + 1 - p) (omega (arith, le, lt)) between

    pub last : LastCopy demands C p (q + 1 - p)
    last = last_copy demands C p (q + 1 - p) (omega (arith, le, lt)) between

    pub few : (slice_index sums.counts.items p < length sums.copies.items)
        × (slice_index sums.counts.items (q + 1) ≤ length sums.copies.items) × (1 ≤ slice_index sums.counts.items (q +
        1))
    few = omega (arith, more, at_end.count, few_copies demands C (q + 1), h.sizes.copies, lt)

    -- the first copy is listed behind those before p
    first_listed : slice_index sums.copies.items (slice_index sums.counts.items p) ≡ first.at
    first_listed =
        ap (slice_index sums.copies.items) (at_start.count ∙ sym first.count)
        ∙ h.listed first.at (omega (arith, first.range, le, lt)) first.copy

    -- the last copy is listed as the last of those up to q
    last_listed : slice_index sums.copies.items (slice_index sums.counts.items (q + 1) - 1) ≡ last.at
    last_listed =
        let before : slice_index sums.counts.items (q + 1) - 1 ≡ copies_up_to demands C last.at =
        omega (
          arith,
          at_end.count,
          ap (copies_up_to demands C) width,
          last.count,
          copies-at demands C last.at (omega (arith, last.range, le, lt)) last.copy,
        ) in
        ap (slice_index sums.copies.items) before ∙ h.listed last.at (omega (arith, last.range, le, lt)) last.copy

    pub first_entry : (before copy : ℕ) → before ≡ slice_index sums.counts.items p →
        copy ≡ get_or sums.copies.items before copy → copy ≡ first.at
    first_entry before copy b e =
        entry sums.copies.items before copy e (omega (arith, b, few)) ∙ ap (slice_index sums.copies.items) b ∙
        first_listed

    pub last_entry : (upto copy : ℕ) → upto ≡ slice_index sums.counts.items (q + 1) →
        copy ≡ get_or sums.copies.items (upto - 1) copy → copy ≡ last.at
    last_entry upto copy u e =
        entry sums.copies.items (upto - 1) copy e (omega (arith, u, few))
        ∙ ap (λ v. slice_index sums.copies.items (v - 1)) u ∙ last_listed

    pub first_within : (p ≤ first.at) × (first.at ≤ q) × (slice_index sums.loads.items p ≤ slice_index
        sums.loads.items first.at)
    first_within =
        let here = h.summed first.at (omega (arith, first.range, le, lt)) in
        omega (arith, first.range, le, at_start.load, here.load, load-rises demands C p first.at first.range.0)

    pub last_within : (p ≤ last.at) × (last.at ≤ q)
        × (slice_index sums.loads.items (last.at + 1) ≤ slice_index sums.loads.items (q + 1))
    last_within =
        let here = h.summed (last.at + 1) (omega (arith, last.range, le, lt)) in
        omega (
          arith,
          last.range,
          le,
          at_end.load,
          here.load,
          load-rises demands C (last.at + 1) (q + 1) (omega (arith, last.range, le)),
        )

    pub span_copy : (load : ℕ) → load ≡ slice_index sums.loads.items first.at - slice_index sums.loads.items p →
        IsSpan demands C p q load true
    span_copy load is =
        let here = h.summed first.at (omega (arith, first.range, le, lt)) in
        record {
          at = first.at;
          range = omega (arith, first.range, le);
          plain = λ k a b.
              none_between demands C p first.at k (omega (arith, first.count)) a b (omega (arith, first.range, le, lt));
          load = omega (arith, is, first_within, at_start.load, here.load);
          copy = λ e. (omega (arith, first.range, le), first.copy);
          whole = λ e. cc;
        }

    pub span_back_copy : (load : ℕ) →
        load ≡ slice_index sums.loads.items (q + 1) - slice_index sums.loads.items (last.at + 1) →
        IsSpanBack demands C p q load true
    span_back_copy load is =
        let here = h.summed (last.at + 1) (omega (arith, last.range, le, lt)) in
        record {
          at = last.at + 1;
          range = omega (arith, last.range, le);
          plain = λ k a b.
              none_between demands C (last.at + 1) (q + 1) k
              (omega (arith, last.count, ap (copies_up_to demands C) width)) a (omega (arith, b)) (omega (arith, lt));
          load = omega (arith, is, last_within, at_end.load, here.load);
          copy = λ e. (last.at, omega arith, last.range.0, last.copy);
          whole = λ e. cc;
        }

  -- there is none
  module _ (none : slice_index sums.counts.items (q + 1) ≤ slice_index sums.counts.items p) where
    pub rises : slice_index sums.loads.items p ≤ slice_index sums.loads.items (q + 1)
    rises = omega (arith, at_start.load, at_end.load, load-rises demands C p (q + 1) (omega (arith, le)))

    none_there : (k : ℕ) → p ≤ k → k < q + 1 → is_copy demands (slice_index C k) ≡ false
    none_there k a b =
        none_between demands C p (q + 1) k (omega (arith, none, at_start.count, at_end.count)) a b (omega (arith, lt))

    pub span_whole : (load : ℕ) → load ≡ slice_index sums.loads.items (q + 1) - slice_index sums.loads.items p →
        IsSpan demands C p q load false
    span_whole load is = record {
      at = q + 1;
      range = omega (arith, le);
      plain = none_there;
      load = omega (arith, is, rises, at_start.load, at_end.load);
      copy = λ e. cc;
      whole = λ e. refl;
    }

    pub span_back_whole : (load : ℕ) → load ≡ slice_index sums.loads.items (q + 1) - slice_index sums.loads.items p →
        IsSpanBack demands C p q load false
    span_back_whole load is = record {
      at = p;
      range = omega (arith, le);
      plain = λ k a b. none_there k a (omega (arith, b));
      load = omega (arith, is, rises, at_start.load, at_end.load);
      copy = λ e. cc;
      whole = λ e. refl;
    }
