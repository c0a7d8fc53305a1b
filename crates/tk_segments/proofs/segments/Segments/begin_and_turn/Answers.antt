use Rattle.std.proofs.Common.{◌≡◌, ◌++◌, ◌∙◌, ap, ℕ, List, length, take, drop, refl, sym, subst, arith}
use Rattle.tk_segments.specs.Segments.{CanBeFound}
use Rattle.tk_segments.proofs.WrittenFronts.{at_front}
use Rattle.tk_segments.proofs.SeenTours.Names.{named_names, found_by_names}
use Rattle.tk_segments.proofs.SeenTours.Renaming.{AreRenamed, renamed}
use Rattle.tk_segments.proofs.segments.Segments.begin_and_turn.Goals as goal
use Rattle.tk_segments.proofs.segments.Segments.begin_and_turn.Goals.{After-name_segments}

-- the table between the two steps
begun_table : (c : After-name_segments) → c.deref_mut-2.result.now ≡ c.begin_seen.new.table
begun_table c =
    let s = c.args.self.now in
    let table = c.begin_seen.new.table in
    let P : List ℕ → Type 0 = λ u. u ≡ table in
    c.deref_mut-2.ensures.value
    ∙ at_front P _ _ _ (omega (arith, c.begin_seen.ensures.kept.table_size, c.deref_mut.ensures.len, s.table.ok.0)) refl

-- `home` is updated for the segments that are rotated and reversed
begun : (c : After-name_segments) →
    AreRenamed c.args.self.now c.turn_rest.new.segments.items
    (take c.args.self.now.home.len (c.name_segments.new.home
    ++ drop (length c.name_segments.new.home) c.args.self.now.home.items))
    (take c.args.self.now.table.len (c.turn_rest.new.table
    ++ drop (length c.turn_rest.new.table)
    (take c.args.self.now.table.len (c.begin_seen.new.table
    ++ drop (length c.begin_seen.new.table) c.args.self.now.table.items))))
begun c =
    let s = c.args.self.now in
    let first = c.begin_seen.ensures.kept in
    let then = c.turn_rest.ensures.kept in
    let found : CanBeFound s.size 32 s.segments.items c.deref_mut.result.now =
    rw c.deref_mut.ensures.value (found_by_names s.size 32 s.segments.items s.home.items s.table.items s.found) in
    let P : List ℕ → Type 0 = λ u. CanBeFound s.size 32 c.begin_seen.new.segments.items u in
    renamed s c.turn_rest.new.segments.items c.deref.result.now c.name_segments.new.home c.turn_rest.new.table _ _
    c.deref.ensures.value (c.name_segments.ensures.same_length ∙ ap length c.deref_mut-3.ensures.value)
    (then.table_size ∙ ap length (begun_table c) ∙ first.table_size ∙ ap length c.deref_mut.ensures.value)
    c.name_segments.ensures.named (then.found (subst P (sym (begun_table c)) (first.found found)))

pub name_segments-requires-clause-names : goal.name_segments-requires-clause-names
name_segments-requires-clause-names c =
    let s = c.args.self.now in
    let names = named_names s.segments.items s.home.items s.named in
    rw c.deref.ensures.value (c.turn_rest.ensures.kept.names (c.begin_seen.ensures.kept.names names))

pub invariant_of-self-clause-named : goal.invariant_of-self-clause-named
invariant_of-self-clause-named c = (begun (goal.at.invariant_of-self-clause-named c).After-name_segments).named

pub invariant_of-self-clause-found : goal.invariant_of-self-clause-found
invariant_of-self-clause-found c = (begun (goal.at.invariant_of-self-clause-found c).After-name_segments).found

pub invariant_of-self-clause-homes : goal.invariant_of-self-clause-homes
invariant_of-self-clause-homes c = (begun (goal.at.invariant_of-self-clause-homes c).After-name_segments).homes

pub invariant_of-self-clause-buckets : goal.invariant_of-self-clause-buckets
invariant_of-self-clause-buckets c = (begun (goal.at.invariant_of-self-clause-buckets c).After-name_segments).buckets
