use Rattle.std.proofs.Common.{◌≡◌, ◌+◌, ◌<◌, length, sym, subst, arith}
use Rattle.tk_segments.specs.Segments.{segment_size, AreLaidOut, IsNoted, IsSplit, IsWithin}
use Rattle.tk_segments.specs.declared.segment.Segment.{Segment}
use Rattle.tk_segments.proofs.SeenTours.Splitting.{split_shows}
use Rattle.tk_segments.proofs.SeenTours.Names.{SameBefore-sym, split_names_before, split_same}
use Rattle.tk_segments.proofs.SeenTours.Joined.{begins_after, join_laid, join_split}
use Rattle.tk_segments.proofs.SeenTours.Joining.{join_found, parted}
use Rattle.tk_segments.proofs.joining.join_parts.Goals as goal
use Rattle.tk_segments.proofs.joining.join_parts.Goals.{After-put_joined}

-- the segments before the join are those after it, with the joined one split in two
split : (c : After-put_joined) →
    (s : IsSplit c.put_joined.new.segments.items c.args.segments.now.items c.args.k (segment_size c.index.result.now))
    × (s.segment ≡ c.in-Some.segment) × (c.args.k < length c.put_joined.new.segments.items)
split c =
    let xs = c.args.segments.now.items in
    let one = c.index.result.now in
    let two = c.index-2.result.now in
    let lt : c.args.k + 1 < length xs = omega (arith, c.requires.index, c.args.segments.now.ok.0) in
    let parts =
    c.in-Some.ensures (begins_after c.args.size c.args.k xs one two c.requires.laid lt c.index.ensures
    c.index-2.ensures) in
    join_split xs c.put_joined.new.segments.items c.args.k _ c.in-Some.segment one two lt c.index.ensures
    c.index-2.ensures
    (omega (arith, c.len.ensures, c.args.segments.now.ok.0, lt)) parts c.put_joined.ensures.items

laid : (c : After-put_joined) → AreLaidOut c.args.size c.put_joined.new.segments.items
laid c =
    let s = split c in
    join_laid c.args.size c.put_joined.new.segments.items c.args.segments.now.items c.args.k
    (segment_size c.index.result.now) s.2
    c.requires.laid s.0

-- the joined segment is a range of the array
within : (c : After-put_joined) → IsWithin c.args.size c.in-Some.segment
within c =
    let s = split c in
    let P : Segment → Type 0 = λ r. IsWithin c.args.size r in
    subst P s.1 (subst P (sym s.0.segment_is) ((laid c).within c.args.k s.0.segment s.2))

pub note_segment-requires-clause-order : goal.note_segment-requires-clause-order
note_segment-requires-clause-order c =
    omega (arith, within (goal.at.note_segment-requires-clause-order c).After-put_joined)

pub note_segment-requires-clause-fits : goal.note_segment-requires-clause-fits
note_segment-requires-clause-fits c =
    omega (arith, within (goal.at.note_segment-requires-clause-fits c).After-put_joined, c.requires.buckets)

pub note_segment-requires-clause-small : goal.note_segment-requires-clause-small
note_segment-requires-clause-small c =
    omega (arith, within (goal.at.note_segment-requires-clause-small c).After-put_joined, c.requires.size)

pub returns-clause-shown : goal.returns-clause-shown
returns-clause-shown c = λ order.
    let s = split (goal.at.returns-clause-shown c).After-put_joined in
    sym (split_shows order _ _ _ _ s.2 s.0)

pub returns-clause-laid : goal.returns-clause-laid
returns-clause-laid c = laid (goal.at.returns-clause-laid c).After-put_joined

pub returns-clause-names : goal.returns-clause-names
returns-clause-names c = λ names.
    let s = split (goal.at.returns-clause-names c).After-put_joined in
    split_names_before _ _ _ _ s.2 s.0 names

pub returns-clause-same : goal.returns-clause-same
returns-clause-same c =
    let s = split (goal.at.returns-clause-same c).After-put_joined in
    SameBefore-sym c.args.k _ _ (omega (arith, c.requires.index, c.args.segments.now.ok.0)) (split_same _ _ _ _ s.2 s.0)

pub returns-clause-found : goal.returns-clause-found
returns-clause-found c = λ names found.
    let s = split (goal.at.returns-clause-found c).After-put_joined in
    let P : Segment → Type 0 = λ r. IsNoted 32 r c.args.table.now c.note_segment.new.table in
    join_found c.args.size 32 _ _ c.args.table.now c.note_segment.new.table c.args.k s.0.segment
    (parted _ _ _ _ s.2 s.0)
    c.requires.laid.within names (subst P (sym s.1) c.note_segment.ensures) found
