-- Joined segments: their two parts are those of a split of the joined one.
use Rattle.std.proofs.Common.{◌≡◌, ℕ, true, false, ◌+◌, ◌<◌, ⊎_elim, List, [], ◌∷◌, ◌++◌, length, take, drop, set}
use Rattle.std.proofs.Common.{refl, sym, ap, ◌∙◌, subst, arith, get_or}
use Rattle.std.specs.Prelude.{sum_by}
use Rattle.std.proofs.lemmas.List.{append_assoc, length-append, length-drop, set_at, get_or_at, get_or_default, take_at}
use Rattle.std.proofs.lemmas.List.{drop_at, length-take-le, drop_more}
use Rattle.tk_segments.specs.Segments.{segment_size, placed, IsWithin, AreLaidOut, AreSeenParts, IsSplit}
use Rattle.tk_segments.specs.declared.segment.Segment.{Segment}
use Rattle.tk_segments.proofs.SeenTours.SeenPlaces.{AreWithin}
use Rattle.tk_segments.proofs.SeenTours.Placing.{placed-append, length-placed}
use Rattle.tk_segments.proofs.SeenTours.Searching.{start_is, sum_more}
use Rattle.tk_segments.proofs.SeenTours.Splitting.{cases_bool, part_facts, parted_size, old_is, head_of}
use Rattle.tk_segments.proofs.SeenTours.Turning.{within_of, all_within, within-append, within_left, within_right}

-- there is a segment if there is a position
pub some_segments : (n : ℕ) (xs : List Segment) → AreLaidOut n xs → 0 < n → 0 < length xs
some_segments n [] h lt = omega (arith, h.whole, lt)
some_segments n (x ∷ xs) h lt = omega arith

-- the segment with these two parts
join_within : (n d id : ℕ) (segment one two : Segment) → AreSeenParts d id segment one two → IsWithin n one → IsWithin n
    two →
    (segment.low < segment.high) × IsWithin n segment × (d < segment_size segment)
join_within n d id segment one two h w x =
    ⊎_elim
    (λ (e : segment.back ≡ true). let p = h.behind e in (
      omega (arith, p.inside),
      (omega (arith, p.inside), omega (arith, p.high_is, w)),
      omega (arith, p.inside, p.low_is, p.high_is),
    ))
    (λ (e : segment.back ≡ false). let p = h.ahead e in (
      omega (arith, p.inside),
      (omega (arith, p.inside), omega (arith, p.high_is, x)),
      omega (arith, p.inside, p.low_is, p.high_is),
    ))
    (cases_bool segment.back)

-- the second of two segments begins where the first one ends
pub begins_after : (n k : ℕ) (xs : List Segment) (one two : Segment) → AreLaidOut n xs → k + 1 < length xs →
    one ≡ get_or xs k one → two ≡ get_or xs (k + 1) two → two.start ≡ one.start + segment_size one
begins_after n k xs one two laid lt e f =
    let e' : one ≡ get_or xs k two = e ∙ get_or_default xs k one two (omega (arith, lt)) in
    omega (
      arith,
      ap (λ (r : Segment). r.start) e',
      ap segment_size e',
      ap (λ (r : Segment). r.start) f,
      start_is n k xs two laid (omega (arith, lt)),
      start_is n (k + 1) xs two laid lt,
      sum_more k xs two (omega (arith, lt)),
    )

two_of : (xs : List Segment) (k : ℕ) (one two : Segment) → k + 1 < length xs → one ≡ get_or xs k one →
    two ≡ get_or xs (k + 1) two → xs ≡ take k xs ++ (one ∷ two ∷ drop (k + 2) xs)
two_of xs k one two lt e f =
    let g : k + 1 + 1 ≡ k + 2 = omega arith in
    old_is xs k one (omega (arith, lt)) e
    ∙ ap (λ u. take k xs ++ one ∷ u) (drop_more xs (k + 1) two lt ∙ ap (λ u. u ∷ drop (k + 1 + 1) xs) (sym f)
    ∙ ap (λ u. two ∷ drop u xs) g)

-- the list after one segment has replaced two
pub put_list : (old : List Segment) (k : ℕ) (segment : Segment) → k + 1 < length old →
    take (k + 1) (set old k segment) ++ drop (k + 1 + 1) (set old k segment) ≡ take k old ++ segment ∷ drop (k + 2) old
put_list old k segment lt =
    let A : List Segment = take k old in
    let one : Segment = get_or old k segment in
    let two : Segment = get_or old (k + 1) segment in
    let C : List Segment = drop (k + 2) old in
    let la : length A ≡ k = length-take-le k old (omega (arith, lt)) in
    let l1 : length (A ++ segment ∷ []) ≡ k + 1 = omega (arith, length-append A (segment ∷ []), la) in
    let l2 : length (A ++ segment ∷ two ∷ []) ≡ k + 1 + 1 = omega (arith, length-append A (segment ∷ two ∷ []), la) in
    let e : one ≡ get_or old k one = get_or_default old k segment one (omega (arith, lt)) in
    let f : two ≡ get_or old (k + 1) two = get_or_default old (k + 1) segment two lt in
    let put : set old k segment ≡ A ++ (segment ∷ two ∷ C) = ap (λ u. set u k segment) (two_of old k one two lt e f)
    ∙ set_at A one (two ∷ C) segment k la in
    ap (λ u. take (k + 1) u ++ drop (k + 1 + 1) u) put
    ∙ ap (λ u. u ++ drop (k + 1 + 1) (A ++ (segment ∷ two ∷ C)))
    (ap (take (k + 1)) (sym (append_assoc A (segment ∷ []) (two ∷ C))) ∙ take_at (A ++ segment ∷ []) (two ∷ C) (k + 1)
    l1)
    ∙ ap (λ u. (A ++ segment ∷ []) ++ u) (ap (drop (k + 1 + 1)) (sym (append_assoc A (segment ∷ two ∷ []) C))
    ∙ drop_at (A ++ segment ∷ two ∷ []) C (k + 1 + 1) l2)
    ∙ append_assoc A (segment ∷ []) C

-- the segments before the join are a split of those after it
pub join_split : (old new : List Segment) (k id : ℕ) (segment one two : Segment) → k + 1 < length old → one ≡ get_or old
    k one →
    two ≡ get_or old (k + 1) two → id + 1 ≡ length old →
    AreSeenParts (segment_size one) id segment one two → new ≡ take k old ++ segment ∷ drop (k + 2) old →
    (s : IsSplit new old k (segment_size one)) × (s.segment ≡ segment) × (k < length new)
join_split old new k id segment one two lt e f ids parts joined =
    let A : List Segment = take k old in
    let C : List Segment = drop (k + 2) old in
    let la : length A ≡ k = length-take-le k old (omega (arith, lt)) in
    let l1 : length (A ++ segment ∷ []) ≡ k + 1 = omega (arith, length-append A (segment ∷ []), la) in
    let before : take k new ≡ A = ap (take k) joined ∙ take_at A (segment ∷ C) k la in
    let beyond : drop (k + 1) new ≡ C = ap (drop (k + 1)) (joined ∙ sym (append_assoc A (segment ∷ []) C))
    ∙ drop_at (A ++ segment ∷ []) C (k + 1) l1 in
    let size : id ≡ length new =
    omega (arith, ap length joined, length-append A (segment ∷ C), la, length-drop (k + 2) old, ids, lt) in
    let P : ℕ → Type 0 = λ u. AreSeenParts (segment_size one) u segment one two in (
      record {
        segment = segment;
        one = one;
        two = two;
        segment_is = sym (ap (λ u. get_or u k segment) joined ∙ get_or_at A segment C segment k la);
        parts = subst P size parts;
        list = two_of old k one two lt e f ∙ ap (λ u. u ++ (one ∷ two ∷ C)) (sym before)
            ∙ ap (λ u. take k new ++ (one ∷ two ∷ u)) (sym beyond);
      },
      refl,
      omega (arith, size, ids, lt),
    )

-- if segments are laid out, those of a front part and those of the rest start one after another
laid_parts : (n : ℕ) (us ts xs : List Segment) → AreLaidOut n xs → xs ≡ us ++ ts →
    (us ≡ placed 0 us) × (ts ≡ placed (sum_by segment_size us) ts)
laid_parts n us ts xs h e =
    let rest : List Segment = placed (0 + sum_by segment_size us) ts in
    let all : us ++ ts ≡ placed 0 us ++ rest = sym e ∙ h.starts ∙ ap (placed 0) e ∙ placed-append 0 us ts in
    let z : 0 + sum_by segment_size us ≡ sum_by segment_size us = omega arith in (
      sym (take_at us ts (length us) refl) ∙ ap (take (length us)) all
          ∙ take_at (placed 0 us) rest (length us) (length-placed 0 us),
      sym (drop_at us ts (length us) refl) ∙ ap (drop (length us)) all
          ∙ drop_at (placed 0 us) rest (length us) (length-placed 0 us) ∙ ap (λ u. placed u ts) z,
    )

pub join_laid : (n : ℕ) (old new : List Segment) (k d : ℕ) → k < length old → AreLaidOut n new → IsSplit old new k d →
    AreLaidOut n old
join_laid n old new k d lt h s =
    let us : List Segment = take k old in
    let ws : List Segment = drop (k + 1) old in
    let segment : Segment = s.segment in
    let v : ℕ = sum_by segment_size us in
    let e : old ≡ us ++ segment ∷ ws = old_is old k segment lt s.segment_is in
    let P : List Segment → Type 0 = λ u. AreWithin n u in
    let all : AreWithin n (us ++ (s.one ∷ s.two ∷ ws)) = subst P s.list (within_of n new h.within) in
    let tail : AreWithin n (s.one ∷ s.two ∷ ws) = within_right n us (s.one ∷ s.two ∷ ws) all in
    let w1 : IsWithin n s.one = all_within n (s.one ∷ s.two ∷ ws) tail 0 segment (omega arith) in
    let w2 : IsWithin n s.two = all_within n (s.one ∷ s.two ∷ ws) tail 1 segment (omega arith) in
    let w = join_within n d (length old) segment s.one s.two s.parts w1 w2 in
    let p = part_facts n d (length old) segment s.one s.two s.parts w.1 w.2 in
    let both = laid_parts n us (s.one ∷ s.two ∷ ws) new h s.list in
    let first =
    head_of s.one (record s.one { start = v }) (s.two ∷ ws) (placed (v + segment_size s.one) (s.two ∷ ws)) both.1 in
    let second =
    head_of s.two (record s.two { start = v + segment_size s.one }) ws
    (placed (v + segment_size s.one + segment_size s.two) ws) first.1 in
    let start : segment.start ≡ v = sym s.parts.starts.0 ∙ ap (λ (r : Segment). r.start) first.0 in
    let segment_is : segment ≡ record segment { start = v } = ap (λ u. record segment { start = u }) start in
    let rest_is : ws ≡ placed (v + segment_size segment) ws = second.1 ∙ ap (λ u. placed u ws) (omega (arith, p.sizes))
    in
    let new_tail : segment ∷ ws ≡ placed v (segment ∷ ws) = ap (λ u. u ∷ ws) segment_is
    ∙ ap (λ u. record segment { start = v } ∷ u) rest_is in
    let z : 0 + v ≡ v = omega arith in
    let Q : List Segment → Type 0 = λ u. AreLaidOut n u in
    subst Q (sym e)
    (record {
      within =
          all_within n (us ++ segment ∷ ws)
          (within-append n us (segment ∷ ws) (within_left n us (s.one ∷ s.two ∷ ws) all)
          (AreWithin.more w.1 (within_right n (s.one ∷ s.two ∷ []) ws tail)));
      starts = sym (placed-append 0 us (segment ∷ ws) ∙ ap (λ u. u ++ placed (0 + v) (segment ∷ ws)) (sym both.0)
          ∙ ap (λ u. us ++ placed u (segment ∷ ws)) z ∙ ap (λ u. us ++ u) (sym new_tail));
      whole = sym (parted_size us ws segment s.one s.two p.sizes.1) ∙ sym (ap (sum_by segment_size) s.list) ∙ h.whole;
    })
