use Rattle.std.proofs.Common.{◌++◌, ◌∙◌, ap, List, length, take, drop, sym, subst, arith}
use Rattle.std.specs.List.{All}
use Rattle.std.proofs.lemmas.List.{append-nil}
use Rattle.tk_segments.specs.Segments.{shown, CanBeFound, IsWithin}
use Rattle.tk_segments.specs.declared.segment.Segment.{Segment}
use Rattle.tk_segments.proofs.SeenTours.Joined.{some_segments}
use Rattle.tk_segments.proofs.SeenTours.Names.{named_names, found_by_names}
use Rattle.tk_segments.proofs.SeenTours.Renaming.{AreRenamed, renamed}
use Rattle.tk_segments.proofs.segments.Segments.join.Goals as goal
use Rattle.tk_segments.proofs.segments.Segments.join.Goals.{After-name_segments}

-- `home` is updated for the segments that are joined
joined : (c : After-name_segments) →
    AreRenamed c.args.self.now c.join_segments-first.new.segments.items
    (take c.args.self.now.home.len (c.name_segments.new.home
    ++ drop (length c.name_segments.new.home) c.args.self.now.home.items))
    (take c.args.self.now.table.len (c.join_segments-first.new.table
    ++ drop (length c.join_segments-first.new.table) c.args.self.now.table.items))
joined c =
    let s = c.args.self.now in
    let k = c.join_segments-first in
    let found : CanBeFound s.size 32 s.segments.items c.deref_mut.result.now =
    rw c.deref_mut.ensures.value (found_by_names s.size 32 s.segments.items s.home.items s.table.items s.found) in
    renamed s k.new.segments.items c.deref-3.result.now c.name_segments.new.home k.new.table _ _ c.deref-3.ensures.value
    (c.name_segments.ensures.same_length ∙ ap length c.deref_mut-2.ensures.value)
    (k.ensures.table ∙ ap length c.deref_mut.ensures.value) c.name_segments.ensures.named
    (k.ensures.found (named_names s.segments.items s.home.items s.named) found)

pub parted_at-requires-clause-some : goal.parted_at-requires-clause-some
parted_at-requires-clause-some c =
    let s = c.args.self.now in
    omega (arith, some_segments s.size s.segments.items s.laid s.limits.0, ap length c.deref.ensures.value)

pub parted_at-requires-clause-within : goal.parted_at-requires-clause-within
parted_at-requires-clause-within c =
    let s = c.args.self.now in
    let P : List Segment → Type 0 = λ u. All (IsWithin s.size) u in
    subst P (sym c.deref.ensures.value) s.laid.within

pub returns-in_default-clause-shown : goal.returns-in_default-clause-shown
returns-in_default-clause-shown c = λ order le. sym (append-nil (shown order c.args.self.now.segments.items))

pub name_segments-requires-clause-names : goal.name_segments-requires-clause-names
name_segments-requires-clause-names c =
    let s = c.args.self.now in
    rw c.deref-3.ensures.value (c.join_segments-first.ensures.names (named_names s.segments.items s.home.items s.named))

pub invariant_of-self-2-clause-named : goal.invariant_of-self-2-clause-named
invariant_of-self-2-clause-named c = (joined (goal.at.invariant_of-self-2-clause-named c).After-name_segments).named

pub invariant_of-self-2-clause-found : goal.invariant_of-self-2-clause-found
invariant_of-self-2-clause-found c = (joined (goal.at.invariant_of-self-2-clause-found c).After-name_segments).found

pub invariant_of-self-2-clause-homes : goal.invariant_of-self-2-clause-homes
invariant_of-self-2-clause-homes c = (joined (goal.at.invariant_of-self-2-clause-homes c).After-name_segments).homes

pub invariant_of-self-2-clause-buckets : goal.invariant_of-self-2-clause-buckets
invariant_of-self-2-clause-buckets c = (joined (goal.at.invariant_of-self-2-clause-buckets
    c).After-name_segments).buckets
