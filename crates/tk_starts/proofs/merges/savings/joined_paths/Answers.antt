use Rattle.std.proofs.Common.{◌<◌, [], length, subst, refl, sym, arith}
use Rattle.tk_starts.specs.PathEnds.{IsPairWithin}
use Rattle.tk_starts.specs.declared.merges.pairs.Pair.{Pair}
use Rattle.tk_starts.proofs.Merging.Pairs.PairsMerged.{AreEnds-single, IsTaken-from, taken_step, left_step, going_ends}
use Rattle.tk_starts.proofs.merges.savings.joined_paths.Goals as goal
use Rattle.tk_starts.proofs.merges.savings.joined_paths.Goals.{After-at-pair, then-may_join, else-may_join}

-- the pair at k is one of two cities
pair_within : (c : After-at-pair) → IsPairWithin (length c.args.loads.now) c.at-pair.result
pair_within c =
    subst (λ (p : Pair). IsPairWithin (length c.args.loads.now) p) (sym c.at-pair.ensures)
    (c.requires.within c.loop-k.k c.at-pair.result (omega (arith, c.loop-k-test.true, c.len-k-end.ensures)))

pub loop-k-init : goal.loop-k-init
loop-k-init c =
    record {
      sizes = c.in_ok-paths.ensures.sizes;
      joined = record { made = []; rest = refl; ends = AreEnds-single _ _ _ _ _ _ c.in_ok-paths.ensures.single };
    }

pub may_join-requires-clause-within : goal.may_join-requires-clause-within
may_join-requires-clause-within c =
    let w = pair_within (goal.at.may_join-requires-clause-within c).After-at-pair in
    let z = c.loop-k.invariant.sizes.0 in
    ((w.0.0, omega (arith, z, w.0.1)), (w.1.0, omega (arith, z, w.1.1)), w.2)

pub join-requires-clause-cities : goal.join-requires-clause-cities
join-requires-clause-cities c =
    let w = pair_within (goal.at.join-requires-clause-cities c).After-at-pair in
    let z = c.loop-k.invariant.sizes.0 in
    (omega (arith, z, w.0.1), omega (arith, z, w.1.1), w.2)

pub join-requires-clause-load : goal.join-requires-clause-load
join-requires-clause-load c =
    let w = pair_within (goal.at.join-requires-clause-load c).After-at-pair in
    let t = IsTaken-from c.loop-k.invariant.joined.ends c.at-pair.result w.0 w.1 w.2 c.args.capacity
    (sym c.if-may_join.ensures) in
    omega (arith, t.fits, c.ranges.capacity)

pub join-requires-clause-ends : goal.join-requires-clause-ends
join-requires-clause-ends c =
    let w = pair_within (goal.at.join-requires-clause-ends c).After-at-pair in
    let t = IsTaken-from c.loop-k.invariant.joined.ends c.at-pair.result w.0 w.1 w.2 c.args.capacity
    (sym c.if-may_join.ensures) in
    let z = c.loop-k.invariant.sizes.0 in
    (omega (arith, z, t.far.0.1), omega (arith, z, t.far.1.1), t.far.2)

pub loop-k-preserved : goal.loop-k-preserved
loop-k-preserved c =
    let w = pair_within (goal.at.loop-k-preserved c).After-at-pair in
    let z = c.loop-k.invariant.sizes in
    let within : c.loop-k.k < length c.args.pairs.now = omega (arith, c.loop-k-test.true, c.len-k-end.ensures) in
    elim c.if-may_join.branch [
      | then-may_join b ↦
          rw b.paths-is (record {
            sizes = omega (arith, b.join.ensures.sizes, z);
            joined = taken_step within c.at-pair.ensures w b.if-may_join.ensures b.join.ensures.linked
                b.join.ensures.far b.join.ensures.heavy c.loop-k.invariant.joined;
          })
      | else-may_join b ↦
          rw b.paths-is (record {
            sizes = z;
            joined = left_step within c.at-pair.ensures w b.if-may_join.ensures c.loop-k.invariant.joined;
          })
    ]

pub returns-clause-joined : goal.returns-clause-joined
returns-clause-joined c =
    going_ends (omega (arith, c.loop-k-test.false, c.len-k-end.ensures)) c.loop-k.invariant.joined
