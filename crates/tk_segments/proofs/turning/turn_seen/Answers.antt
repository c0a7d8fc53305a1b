use Rattle.std.proofs.Common.{◌≡◌, ◌<◌, ◌≤◌, ◌-◌, ◌∙◌, sym, subst, ℕ, List, ◌++◌, length, take, drop, arith, ⊎_elim}
use Rattle.std.specs.Prelude.{sum_by}
use Rattle.std.proofs.lemmas.Bool.{cases_lt}
use Rattle.std.proofs.lemmas.List.{take_at}
use Rattle.tk_segments.specs.Segments.{segment_size, SameBefore}
use Rattle.tk_segments.specs.declared.segment.Segment.{Segment}
use Rattle.tk_segments.proofs.WrittenFronts.{at_front}
use Rattle.tk_segments.proofs.SeenTours.Names.{SameBefore-trans, StayFound-front, StayFound-trans}
use Rattle.tk_segments.proofs.SeenTours.Searching.{sum_mono}
use Rattle.tk_segments.proofs.turning.turn_seen.Goals as goal

in_order : (xs : List Segment) (i j a b : ℕ) → sum_by segment_size (take i xs) ≡ a → sum_by segment_size (take j xs) ≡ b
    →
    a < b → i ≤ j
in_order xs i j a b e f lt = ⊎_elim (λ (z : j < i). absurd (omega (arith, sum_mono j i xs (omega arith), e, f)))
    (λ (z : i ≤ j). z) (cases_lt j i)

pub turn_segments-requires-clause-range : goal.turn_segments-requires-clause-range
turn_segments-requires-clause-range c =
    let i = c.cut_segments-i in
    let j = c.cut_segments-j in
    let e : sum_by segment_size (take i.result j.new.segments.items) ≡ c.args.first =
    j.ensures.before i.result i.ensures.index (omega (arith, i.ensures.begins, c.requires.range))
    ∙ i.ensures.begins in (
      in_order j.new.segments.items i.result j.result c.args.first c.args.last e j.ensures.begins c.requires.range.0,
      omega (arith, j.ensures.index, c.deref_mut.ensures.len),
    )

pub turn_segments-requires-clause-first : goal.turn_segments-requires-clause-first
turn_segments-requires-clause-first c =
    let i = c.cut_segments-i in
    let j = c.cut_segments-j in
    rw c.deref_mut.ensures.value
    (sym (j.ensures.before i.result i.ensures.index (omega (arith, i.ensures.begins, c.requires.range))
    ∙ i.ensures.begins))

pub returns-clause-shown : goal.returns-clause-shown
returns-clause-shown c = λ order le.
    let cut = c.cut_segments-j.new in
    let new = c.turn_segments.new.segments in
    let size : length new ≡ cut.segments.len =
    omega (arith, cut.segments.ok.0, c.deref_mut.ensures.len, c.turn_segments.ensures.same_length) in
    rw (
      take_at new (drop (length new) cut.segments.items) cut.segments.len size,
      c.turn_segments.ensures.shown order le,
      c.deref_mut.ensures.value,
      c.cut_segments-j.ensures.begins,
      c.cut_segments-j.ensures.shown order,
      c.cut_segments-i.ensures.shown order,
    )

pub returns-clause-kept : goal.returns-clause-kept
returns-clause-kept c =
    let turned = c.turn_segments.ensures in
    StayFound-front c.args.size 32 _ _ _ c.deref_mut.result.now c.turn_segments.new.segments _ _ _
    c.deref_mut.ensures.value
    (omega (arith, c.cut_segments-j.new.segments.ok.0, c.deref_mut.ensures.len, turned.same_length))
    (StayFound-trans c.args.size 32 _ _ _ _ _ _ c.cut_segments-i.ensures.kept c.cut_segments-j.ensures.kept)
    turned.laid turned.names turned.found

pub returns-clause-same : goal.returns-clause-same
returns-clause-same c =
    let i = c.cut_segments-i in
    let j = c.cut_segments-j in
    let old = c.args.segments.now.items in
    let e : sum_by segment_size (take i.result j.new.segments.items) ≡ c.args.first =
    j.ensures.before i.result i.ensures.index (omega (arith, i.ensures.begins, c.requires.range)) ∙ i.ensures.begins in
    let le : i.result ≤ j.result =
    in_order j.new.segments.items i.result j.result c.args.first c.args.last e j.ensures.begins c.requires.range.0 in
    let first = SameBefore-trans (i.result - 1) (j.result - 1) old i.new.segments.items j.new.segments.items
    i.ensures.same
    j.ensures.same (omega (arith, le)) in
    let new = c.turn_segments.new.segments in
    let P : List Segment → Type 0 = λ u. SameBefore i.result u new in
    let Q : List Segment → Type 0 = λ u. SameBefore (i.result - 1) old u in
    let e' : i.result - 1 ≡ c.saturating_sub.result = omega (arith, c.saturating_sub.ensures) in
    let R : ℕ → Type 0 = λ u. SameBefore u old (take j.new.segments.len (new ++ drop (length new) j.new.segments.items))
    in
    subst R e'
    (at_front Q _ _ _
    (omega (arith, j.new.segments.ok.0, c.deref_mut.ensures.len, c.turn_segments.ensures.same_length))
    (SameBefore-trans (i.result - 1) i.result old j.new.segments.items new first
    (subst P c.deref_mut.ensures.value c.turn_segments.ensures.same) (omega arith)))
