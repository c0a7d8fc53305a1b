use Rattle.std.proofs.Common.{◌++◌, ◌∙◌, ap, length, take, drop}
use Rattle.tk_segments.specs.Segments.{CanBeFound}
use Rattle.tk_segments.proofs.SeenTours.Names.{named_names, found_by_names}
use Rattle.tk_segments.proofs.SeenTours.Renaming.{AreRenamed, renamed}
use Rattle.tk_segments.proofs.segments.Segments.turn.Goals as goal
use Rattle.tk_segments.proofs.segments.Segments.turn.Goals.{After-name_segments}

-- `home` is updated for the segments that are reversed
turned : (c : After-name_segments) →
    AreRenamed c.args.self.now c.turn_seen-k.new.segments.items
    (take c.args.self.now.home.len (c.name_segments.new.home
    ++ drop (length c.name_segments.new.home) c.args.self.now.home.items))
    (take c.args.self.now.table.len (c.turn_seen-k.new.table
    ++ drop (length c.turn_seen-k.new.table) c.args.self.now.table.items))
turned c =
    let s = c.args.self.now in
    let kept = c.turn_seen-k.ensures.kept in
    let found : CanBeFound s.size 32 s.segments.items c.deref_mut.result.now =
    rw c.deref_mut.ensures.value (found_by_names s.size 32 s.segments.items s.home.items s.table.items s.found) in
    renamed s c.turn_seen-k.new.segments.items c.deref.result.now c.name_segments.new.home c.turn_seen-k.new.table _ _
    c.deref.ensures.value (c.name_segments.ensures.same_length ∙ ap length c.deref_mut-2.ensures.value)
    (kept.table_size ∙ ap length c.deref_mut.ensures.value) c.name_segments.ensures.named (kept.found found)

pub name_segments-requires-clause-names : goal.name_segments-requires-clause-names
name_segments-requires-clause-names c =
    let s = c.args.self.now in
    rw c.deref.ensures.value (c.turn_seen-k.ensures.kept.names (named_names s.segments.items s.home.items s.named))

pub invariant_of-self-clause-named : goal.invariant_of-self-clause-named
invariant_of-self-clause-named c = (turned (goal.at.invariant_of-self-clause-named c).After-name_segments).named

pub invariant_of-self-clause-found : goal.invariant_of-self-clause-found
invariant_of-self-clause-found c = (turned (goal.at.invariant_of-self-clause-found c).After-name_segments).found

pub invariant_of-self-clause-homes : goal.invariant_of-self-clause-homes
invariant_of-self-clause-homes c = (turned (goal.at.invariant_of-self-clause-homes c).After-name_segments).homes

pub invariant_of-self-clause-buckets : goal.invariant_of-self-clause-buckets
invariant_of-self-clause-buckets c = (turned (goal.at.invariant_of-self-clause-buckets c).After-name_segments).buckets
