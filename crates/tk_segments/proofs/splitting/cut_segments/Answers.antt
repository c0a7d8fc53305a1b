use Rattle.std.proofs.lemmas.Grind.{common_steps}
use Rattle.std.proofs.Common.{◌≡◌, true, false, ◌<◌, ◌≤◌, ◌+◌, ◌-◌, ◌∙◌, ap, sym, subst, ℕ, List, length, take, arith}
use Rattle.std.proofs.Common.{refl, get_or}
use Rattle.std.specs.Prelude.{sum_by}
use Rattle.std.proofs.lemmas.List.{get_or_default}
use Rattle.tk_segments.specs.Segments.{segment_size, AreLaidOut, IsSplit, SameBefore}
use Rattle.tk_segments.specs.declared.segment.Segment.{Segment}
use Rattle.tk_segments.proofs.SeenTours.Searching.{start_is, sum_more, split_before, split_begins}
use Rattle.tk_segments.proofs.SeenTours.Splitting.{split_shows, split_laid}
use Rattle.tk_segments.proofs.SeenTours.Joining.{split_found}
use Rattle.tk_segments.proofs.SeenTours.Naming.{split_at}
use Rattle.tk_segments.proofs.SeenTours.Names.{split_names, split_same}
use Rattle.tk_segments.proofs.splitting.cut_segments.Goals as goal
use Rattle.tk_segments.proofs.splitting.cut_segments.Goals.{After-index}

-- the k-th segment contains position v of the sequence
record ShowsAt (k v : ℕ) (segments : List Segment) (segment : Segment) : Type 0 where
  index_in : k < length segments
  segment_is : segment ≡ get_or segments k segment
  starts : segment.start ≡ sum_by segment_size (take k segments)
  from : segment.start ≤ v
  to : v < sum_by segment_size (take (k + 1) segments)

-- the segment that is found
shows_at : (c : After-index) → ShowsAt c.index_at-k.result c.args.v c.args.segments.now.items c.index.result.now
shows_at c =
    let xs = c.args.segments.now.items in
    let k = c.index_at-k.result in
    let P : List Segment → Type 0 = λ u. (k < length u) × (sum_by segment_size (take k u) ≤ c.args.v)
    × (c.args.v < sum_by segment_size (take (k + 1) u)) in
    let h = subst P c.deref.ensures.value
    (c.index_at-k.ensures.index_in, c.index_at-k.ensures.from, c.index_at-k.ensures.to) in
    let s : c.index.result.now.start ≡ sum_by segment_size (take k xs) = ap (λ (u : Segment). u.start) c.index.ensures
    ∙ start_is c.args.size k xs c.index.result.now c.requires.laid h.0 in
    record {
      index_in = h.0;
      segment_is = c.index.ensures;
      starts = s;
      from = omega (arith, s, h.1);
      to = h.2;
    }

-- a segment read at the same index is the same one, and extends past position v
goes_on : (k v : ℕ) (xs : List Segment) (r segment : Segment) → ShowsAt k v xs r → segment ≡ get_or xs k segment →
    (segment ≡ r) × (v - r.start < segment_size segment)
goes_on k v xs r segment h e =
    let same : segment ≡ r = e ∙ get_or_default xs k segment r h.index_in ∙ sym h.segment_is in
    let P : Segment → Type 0 = λ u. v - r.start < segment_size u in (
      same,
      subst P (sym same) (omega (
        arith,
        h.from,
        h.to,
        h.starts,
        sum_more k xs r h.index_in,
        ap segment_size
            h.segment_is,
      )),
    )

laid : (n k v : ℕ) (xs ys : List Segment) (r : Segment) → AreLaidOut n xs → ShowsAt k v xs r → IsSplit xs ys k
    (v - r.start) →
    AreLaidOut n ys
laid n k v xs ys r before h s =
    split_laid n xs ys k (v - r.start) h.index_in before s (goes_on k v xs r s.segment h s.segment_is).1

pub returns-then-start-v-clause-begins : goal.returns-then-start-v-clause-begins
returns-then-start-v-clause-begins c =
    omega (arith, (shows_at (goal.at.returns-then-start-v-clause-begins c).After-index).starts, c.if-start-v.true)

pub overflow_sub-v : goal.overflow_sub-v
overflow_sub-v c = omega (arith, (shows_at (goal.at.overflow_sub-v c).After-index).from)

pub split_segment-requires-clause-inside : goal.split_segment-requires-clause-inside
split_segment-requires-clause-inside c = λ segment e.
    let h = shows_at (goal.at.split_segment-requires-clause-inside c).After-index in
    let k = goes_on _ _ _ _ segment h e in (
      omega (arith, h.from, c.if-start-v.false),
      k.1,
      omega (arith, ap (λ (u : Segment). u.start) k.0, h.from, c.requires.v_in, c.requires.size),
    )

pub returns-clause-shown : goal.returns-clause-shown
returns-clause-shown c = λ order.
    let h = shows_at (goal.at.returns-clause-shown c).After-index in
    split_shows order _ _ _ _ h.index_in c.split_segment.ensures.split

pub returns-clause-begins : goal.returns-clause-begins
returns-clause-begins c =
    let h = shows_at (goal.at.returns-clause-begins c).After-index in
    let s = c.split_segment.ensures.split in
    split_begins c.args.size c.args.v _ _ _ _ h.index_in c.requires.laid s (goes_on _ _ _ _ s.segment h s.segment_is).1
    (omega (arith, h.starts, h.from))

pub returns-clause-before : goal.returns-clause-before
returns-clause-before c = λ i li le.
    let h = shows_at (goal.at.returns-clause-before c).After-index in
    split_before _ _ _ _ i c.args.v c.index.result.now h.index_in c.split_segment.ensures.split h.to (omega (arith, li))
    le

pub new_part-requires-clause-laid : goal.new_part-requires-clause-laid
new_part-requires-clause-laid c =
    let h = shows_at (goal.at.new_part-requires-clause-laid c).After-index in
    let P : List Segment → Type 0 = λ u. AreLaidOut c.args.size u in
    subst P (sym c.deref-2.ensures.value)
    (laid c.args.size _ c.args.v _ _ _ c.requires.laid h c.split_segment.ensures.split)

pub new_part-requires-clause-index : goal.new_part-requires-clause-index
new_part-requires-clause-index c =
    let h = shows_at (goal.at.new_part-requires-clause-index c).After-index in
    let s = c.split_segment.ensures.split in
    omega (arith, (split_at _ _ _ _ s.segment h.index_in s).0, h.index_in)

pub returns-clause-same : goal.returns-clause-same
returns-clause-same c =
    let h = shows_at (goal.at.returns-clause-same c).After-index in
    let e : c.index_at-k.result ≡ c.index_at-k.result + 1 - 1 = omega arith in
    let P : ℕ → Type 0 = λ u. SameBefore u c.args.segments.now.items c.split_segment.new.segments.items in
    subst P e (split_same _ _ _ _ h.index_in c.split_segment.ensures.split)

pub returns-then-v-size-clause-kept : goal.returns-then-v-size-clause-kept
returns-then-v-size-clause-kept c =
    record { laid = c.requires.laid; names = λ names. names; found = λ found. found; table_size = refl }

pub returns-then-start-v-clause-kept : goal.returns-then-start-v-clause-kept
returns-then-start-v-clause-kept c =
    record { laid = c.requires.laid; names = λ names. names; found = λ found. found; table_size = refl }

pub returns-clause-kept : goal.returns-clause-kept
returns-clause-kept c =
    let h = shows_at (goal.at.returns-clause-kept c).After-index in
    let k = c.index_at-k.result in
    let s = c.split_segment.ensures.split in
    let P : List Segment → Type 0 =
    λ u. ((d : Segment) → (get_or u k d).back ≡ true → c.new_part.result ≡ get_or u k d)
    × ((d : Segment) → (get_or u k d).back ≡ false → c.new_part.result ≡ get_or u (k + 1) d) in
    let is = subst P c.deref-2.ensures.value (c.new_part.ensures.behind, c.new_part.ensures.ahead) in
    record {
      laid = laid c.args.size _ c.args.v _ _ _ c.requires.laid h s;
      names = split_names _ _ _ _ h.index_in s;
      found = split_found c.args.size 32 _ _ c.args.table.now c.note_segment.new.table _ _ c.new_part.result h.index_in
          s
          is.0 is.1 c.note_segment.ensures;
      table_size = c.note_segment.ensures.size;
    }

pub returns-then-v-size-clause-begins : goal.returns-then-v-size-clause-begins
returns-then-v-size-clause-begins c = grind (arith, common_steps)

pub returns-clause-index : goal.returns-clause-index
returns-clause-index c = grind (arith, common_steps)

pub returns-clause-more : goal.returns-clause-more
returns-clause-more c = grind (arith, common_steps)
