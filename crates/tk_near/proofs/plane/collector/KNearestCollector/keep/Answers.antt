use Rattle.std.proofs.Common.{◌∙◌, ap, drop, length}
use Rattle.std.proofs.lemmas.List.{take_at}
use Rattle.tk_near.proofs.InPlane.TreeCandidates.{with_candidate-length, with_candidate_climbing}
use Rattle.tk_near.proofs.plane.collector.KNearestCollector.keep.Goals as goal

pub invariant_of-self-clause-order : goal.invariant_of-self-clause-order
invariant_of-self-clause-order c =
    let new = c.before.keep_among.new.kept in
    let old = c.args.self.now.kept in
    let size = ap length c.before.keep_among.ensures.kept ∙ with_candidate-length c.args.x c.deref_mut.result.now
    ∙ c.deref_mut.ensures.len in
    let same = take_at new (drop (length new) old.items) old.len size in
    rw (same, c.before.keep_among.ensures.kept, c.deref_mut.ensures.value)
    (with_candidate_climbing c.args.x old.items c.args.self.now.order)

pub invariant_of-self-clause-vacant : goal.invariant_of-self-clause-vacant
invariant_of-self-clause-vacant c =
    let new = c.before.keep_among.new.kept in
    let old = c.args.self.now.kept in
    let size = ap length c.before.keep_among.ensures.kept ∙ with_candidate-length c.args.x c.deref_mut.result.now
    ∙ c.deref_mut.ensures.len in
    let same = take_at new (drop (length new) old.items) old.len size in
    rw same c.before.keep_among.ensures.vacant
