-- A segment split in two: the sequence stays, and the segments are still laid out.
use Rattle.std.proofs.Common.{◌≡◌, ℕ, Bool, true, false, ◌+◌, ◌-◌, ◌<◌, ◌⊎◌, inl, inr, ⊎_elim, zero, List, [], ◌∷◌}
use Rattle.std.proofs.Common.{◌++◌, length, take, drop, refl, sym, ap, ◌∙◌, subst, arith, get_or}
use Rattle.std.specs.Prelude.{sum_by}
use Rattle.std.proofs.lemmas.List.{take-append-drop, drop_at}
use Rattle.std.proofs.lemmas.List.{length-take-le, drop_more}
use Rattle.std.proofs.lemmas.List.Sums.{sum_by-cons, sum_by-append}
use Rattle.tk_segments.specs.Segments.{shown_by, shown, segment_size, placed, IsWithin, AreLaidOut, ArePartsAt}
use Rattle.tk_segments.specs.Segments.{AreSeenParts}
use Rattle.tk_segments.specs.Segments.{IsSplit}
use Rattle.tk_segments.specs.declared.segment.Segment.{Segment}
use Rattle.tk_segments.proofs.SeenTours.Showing.{ArePartsOf, shown_by-ahead, shown_by-behind, shown-parted}
use Rattle.tk_segments.proofs.SeenTours.SeenPlaces.{AreWithin}
use Rattle.tk_segments.proofs.SeenTours.Placing.{placed-append}
use Rattle.tk_segments.proofs.SeenTours.Turning.{within_of, all_within, within-append, within_left, within_right}
use Rattle.tk_segments.proofs.SeenTours.Turning.{take-placed, drop-placed}

pub cases_bool : (b : Bool) → (b ≡ true) ⊎ (b ≡ false)
cases_bool true = inl refl
cases_bool false = inr refl

of_parts : (q id : ℕ) (segment low high : Segment) → ArePartsAt q id segment low high → ArePartsOf segment low high q
of_parts q id segment low high h = record {
  low_is = (h.low_is.0, h.low_is.1, h.low_is.2);
  high_is = (h.high_is.0, h.high_is.1, h.high_is.2);
  inside = (omega (arith, h.inside), omega (arith, h.inside));
}

pub shown_by-parts : (order : List ℕ) (d id : ℕ) (segment one two : Segment) → AreSeenParts d id segment one two →
    shown_by order segment ≡ shown_by order one ++ shown_by order two
shown_by-parts order d id segment one two h =
    ⊎_elim
    (λ (e : segment.back ≡ true). shown_by-behind order segment two one (segment.high - d)
    (of_parts (segment.high - d) id segment two one (h.behind e)) e)
    (λ (e : segment.back ≡ false). shown_by-ahead order segment one two (segment.low + d)
    (of_parts (segment.low + d) id segment one two (h.ahead e)) e)
    (cases_bool segment.back)

-- the sizes of the two parts, which are ranges of the array
pub record PartFacts (n d : ℕ) (segment one two : Segment) : Type 0 where
  pub within_one : IsWithin n one
  pub within_two : IsWithin n two
  pub sizes : (segment_size one ≡ d) × (segment_size one + segment_size two ≡ segment_size segment)

pub part_facts : (n d id : ℕ) (segment one two : Segment) → AreSeenParts d id segment one two → IsWithin n segment → d <
    segment_size segment →
    PartFacts n d segment one two
part_facts n d id segment one two h w ld =
    ⊎_elim
    (λ (e : segment.back ≡ true).
    let p = h.behind e in
    record {
      within_one = (omega (arith, p.low_is, p.high_is, p.inside, w), omega (arith, p.low_is, p.high_is, p.inside, w));
      within_two = (omega (arith, p.low_is, p.high_is, p.inside, w), omega (arith, p.low_is, p.high_is, p.inside, w));
      sizes = (omega (arith, p.low_is, p.high_is, p.inside, w), omega (arith, p.low_is, p.high_is, p.inside, w));
    })
    (λ (e : segment.back ≡ false).
    let p = h.ahead e in
    record {
      within_one = (omega (arith, p.low_is, p.high_is, p.inside, w), omega (arith, p.low_is, p.high_is, p.inside, w));
      within_two = (omega (arith, p.low_is, p.high_is, p.inside, w), omega (arith, p.low_is, p.high_is, p.inside, w));
      sizes = (omega (arith, p.low_is, p.high_is, p.inside, w), omega (arith, p.low_is, p.high_is, p.inside, w));
    })
    (cases_bool segment.back)

-- the parts have as many positions as the segment
pub parted_size : (us ws : List Segment) (segment one two : Segment) → segment_size one + segment_size two ≡
    segment_size segment →
    sum_by segment_size (us ++ (one ∷ two ∷ ws)) ≡ sum_by segment_size (us ++ segment ∷ ws)
parted_size us ws segment one two e =
    omega (
      arith,
      e,
      sum_by-append segment_size us (segment ∷ ws),
      sum_by-append segment_size us (one ∷ two ∷ ws),
      sum_by-cons segment_size segment ws,
      sum_by-cons segment_size one (two ∷ ws),
      sum_by-cons segment_size two ws,
    )

pub old_is : (old : List Segment) (k : ℕ) (segment : Segment) → k < length old → segment ≡ get_or old k segment →
    old ≡ take k old ++ segment ∷ drop (k + 1) old
old_is old k segment lt e = sym (take-append-drop k old)
    ∙ ap (λ u. take k old ++ u) (drop_more old k segment lt ∙ ap (λ u. u ∷ drop (k + 1) old) (sym e))

-- a split does not change the sequence
pub split_shows : (order : List ℕ) (old new : List Segment) (k d : ℕ) → k < length old → IsSplit old new k d →
    shown order new ≡ shown order old
split_shows order old new k d lt h =
    ap (shown order) h.list
    ∙ shown-parted order (take k old) (drop (k + 1) old) h.segment h.one h.two
    (shown_by-parts order d (length old) h.segment h.one h.two h.parts)
    ∙ ap (shown order) (sym (old_is old k h.segment lt h.segment_is))

pub head_of : {X : Type 0} (x y : X) (xs ys : List X) → x ∷ xs ≡ y ∷ ys → (x ≡ y) × (xs ≡ ys)
head_of x y xs ys e = (cc, cc)

pub split_laid : (n : ℕ) (old new : List Segment) (k d : ℕ) → k < length old → AreLaidOut n old →
    (s : IsSplit old new k d) → d < segment_size s.segment → AreLaidOut n new
split_laid n old new k d lt h s ld =
    let us : List Segment = take k old in
    let ws : List Segment = drop (k + 1) old in
    let segment : Segment = s.segment in
    let e : old ≡ us ++ segment ∷ ws = old_is old k segment lt s.segment_is in
    let P : List Segment → Type 0 = λ v. AreWithin n v in
    let all : AreWithin n (us ++ segment ∷ ws) = subst P e (within_of n old h.within) in
    let w : IsWithin n segment = all_within n (segment ∷ ws) (within_right n us (segment ∷ ws) all) zero segment
    (omega arith) in
    let p = part_facts n d (length old) segment s.one s.two s.parts w ld in
    let wws : AreWithin n ws = within_right n (segment ∷ []) ws (within_right n us (segment ∷ ws) all) in
    let v : ℕ = sum_by segment_size us in
    let tail : segment ∷ ws ≡ placed v (segment ∷ ws) =
    sym (drop_at us (segment ∷ ws) k (length-take-le k old (omega arith))) ∙ ap (drop k) (sym e) ∙ ap (drop k) h.starts
    ∙ drop-placed 0 k old (omega arith) ∙ ap (λ u. placed u (drop k old)) (omega arith)
    ∙ ap (λ u. placed v (drop k u)) e ∙ ap (placed v) (drop_at us (segment ∷ ws) k (length-take-le k old (omega arith)))
    in
    let both = head_of segment (record segment { start = v }) ws (placed (v + segment_size segment) ws) tail in
    let start : segment.start ≡ v = ap (λ (r : Segment). r.start) both.0 in
    let one_is : s.one ≡ record s.one { start = v } = ap (λ u. record s.one { start = u }) (s.parts.starts.0 ∙ start) in
    let two_is : s.two ≡ record s.two { start = v + segment_size s.one } =
    ap (λ u. record s.two { start = u }) (omega (arith, s.parts.starts.1, start, p.sizes)) in
    let rest_is : ws ≡ placed (v + segment_size s.one + segment_size s.two) ws = both.1
    ∙ ap (λ u. placed u ws) (omega (arith, p.sizes)) in
    let new_tail : s.one ∷ s.two ∷ ws ≡ placed v (s.one ∷ s.two ∷ ws) =
    ap (λ u. u ∷ s.two ∷ ws) one_is ∙ ap (λ u. record s.one { start = v } ∷ u ∷ ws) two_is
    ∙ ap (λ u. record s.one { start = v } ∷ record s.two { start = v + segment_size s.one } ∷ u) rest_is in
    let Q : List Segment → Type 0 = λ u. AreLaidOut n u in
    subst Q (sym s.list)
    (record {
      within =
          all_within n (us ++ (s.one ∷ s.two ∷ ws))
          (within-append n us (s.one ∷ s.two ∷ ws) (within_left n us (segment ∷ ws) all)
          (AreWithin.more p.within_one (AreWithin.more p.within_two wws)));
      starts =
          sym (placed-append 0 us (s.one ∷ s.two ∷ ws)
          ∙ ap (λ u. u ++ placed (0 + v) (s.one ∷ s.two ∷ ws))
          (sym (ap (take k) h.starts ∙ take-placed 0 k old (omega arith)))
          ∙ ap (λ u. us ++ placed u (s.one ∷ s.two ∷ ws)) (omega arith) ∙ ap (λ u. us ++ u) (sym new_tail));
      whole = parted_size us ws segment s.one s.two p.sizes.1 ∙ sym (ap (sum_by segment_size) e) ∙ h.whole;
    })
