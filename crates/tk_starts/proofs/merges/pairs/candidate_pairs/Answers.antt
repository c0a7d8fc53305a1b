use Rattle.std.proofs.Common.{◌≡◌, ℕ, true, List, get_or, subst, sym, arith}
use Rattle.tk_distance.specs.Holding.{holds}
use Rattle.tk_near.specs.Near.{near_of}
use Rattle.tk_starts.proofs.Merging.Pairs.PairsFound.{sound_more, kept, here_more, here_same, here_found, earlier_more}
use Rattle.tk_starts.proofs.Merging.Pairs.PairsFound.{all_found, holds-at}
use Rattle.tk_starts.proofs.merges.pairs.candidate_pairs.Goals as goal
use Rattle.tk_starts.proofs.merges.pairs.candidate_pairs.Goals.{in-Some+in_ok-push, in_default}

pub loop-d-preserved : goal.loop-d-preserved
loop-d-preserved g c =
    elim c.match-pair_of.branch [
      | in-Some+in_ok-push w ↦
          let e = w.in_ok-push.ensures in
          let m = subst (λ (x : List ℕ). holds x (get_or c.of-d-items.result.now c.loop-d.d-index 0) ≡ true)
          c.of-d-items.ensures.value (holds-at c.of-d-items.result.now c.loop-d.d-index c.loop-d-test.true) in
          rw w.pairs-is (record {
            sound = sound_more _ (near_of c.args.near.now) _ _ c.loop-c.c _ c.loop-d.pairs _ w.in-Some.pair e
                c.loop-d.invariant.sound w.in-Some.ensures.some m;
            earlier =
                λ p h a b o l k. kept c.loop-d.pairs _ w.in-Some.pair p e (c.loop-d.invariant.earlier p h a b o l k);
            here = here_more _ _ _ c.loop-c.c c.of-d-items.result.now c.loop-d.d-index c.loop-d.pairs _ w.in-Some.pair e
                c.loop-d.invariant.here w.in-Some.ensures.all;
          })
      | in_default w ↦ rw w.pairs-is (record {
        sound = c.loop-d.invariant.sound;
        earlier = c.loop-d.invariant.earlier;
        here = here_same _ _ _ c.loop-c.c c.of-d-items.result.now c.loop-d.d-index c.loop-d.pairs
            c.loop-d.invariant.here (λ p h o. let e = w.in_default.ensures.all p h o in cc);
      })
    ]

pub loop-d-preserved-then-is_near : goal.loop-d-preserved-then-is_near
loop-d-preserved-then-is_near g c = record {
  sound = c.loop-d.invariant.sound;
  earlier = c.loop-d.invariant.earlier;
  here = here_found _ (near_of c.args.near.now) _ _ c.loop-c.c c.of-d-items.result.now c.loop-d.d-index c.loop-d.pairs
      c.loop-d.invariant.earlier c.loop-d.invariant.here c.if-d-c.true (sym c.if-is_near.ensures);
}

pub loop-c-preserved : goal.loop-c-preserved
loop-c-preserved g c = record {
  sound = c.loop-d.invariant.sound;
  earlier = earlier_more _ (near_of c.args.near.now) _ _ c.loop-c.c c.of-d-items.result.now c.loop-d.d-index
      c.loop-d.pairs c.of-d-items.ensures.value c.loop-d-test.false c.loop-d.invariant.earlier c.loop-d.invariant.here;
}

pub push-requires : goal.push-requires
push-requires g c =
    let p = c.in-Some.ensures.some.0 in
    let limit = g.met.M.Metric.size_limit c.args.metric.now in
    record { cities = (omega (arith, limit, p.first.0.1), omega (arith, limit, p.second.0.1)) }

pub returns : goal.returns
returns g c =
    record {
      order = c.put_in_order.ensures.order;
      all = λ p. (
        λ k. c.loop-c.invariant.sound p ((c.put_in_order.ensures.all p).0 k),
        λ h. (c.put_in_order.ensures.all p).1
            (all_found _ (near_of c.args.near.now) _ _ c.loop-c.c c.loop-c.pairs p
            (omega (arith, c.loop-c-test.false, c.size-c-end.ensures)) c.loop-c.invariant.earlier h),
      );
    }
