use Rattle.tk_tour.proofs.DoubleBridgeFlips.{after1, after2, after3, after4, can1, can2, can3, can4}
use Rattle.tk_search.proofs.DoubleBridge.KickSwaps.{first_side, second_side, third_side, fourth_side, four_turns}
use Rattle.tk_ring_search.proofs.KickParts.{bridged_of, cut_of}
use Rattle.tk_ring_search.proofs.kicks.kick.Kick.make.Goals as goal

pub flip-requires : goal.flip-requires
flip-requires g c =
    can1 _ _ _ _ _ _ _ _ _ (cut_of _ _ _ c.requires c.ends.ensures.value).cut
    (g.met.S.TourStore.is_tour c.args.ring.now)

pub flip-requires-2 : goal.flip-requires-2
flip-requires-2 g c =
    let k = (cut_of _ _ _ c.requires c.ends.ensures.value).cut in
    can2 _ _ _ _ _ _ _ _ _ _ k (g.met.S.TourStore.is_tour c.flip.new.self)
    (after1 _ _ _ _ _ _ _ _ _ _ k c.flip.ensures.steps)

pub flip-requires-3 : goal.flip-requires-3
flip-requires-3 g c =
    let k = (cut_of _ _ _ c.requires c.ends.ensures.value).cut in
    let h1 = after1 _ _ _ _ _ _ _ _ _ _ k c.flip.ensures.steps in
    can3 _ _ _ _ _ _ _ _ _ _ k (g.met.S.TourStore.is_tour c.flip-2.new.self)
    (after2 _ _ _ _ _ _ _ _ _ _ _ k h1 c.flip-2.ensures.steps)

pub flip-requires-4 : goal.flip-requires-4
flip-requires-4 g c =
    let k = (cut_of _ _ _ c.requires c.ends.ensures.value).cut in
    let h1 = after1 _ _ _ _ _ _ _ _ _ _ k c.flip.ensures.steps in
    let h2 = after2 _ _ _ _ _ _ _ _ _ _ _ k h1 c.flip-2.ensures.steps in
    can4 _ _ _ _ _ _ _ _ _ _ k (g.met.S.TourStore.is_tour c.flip-3.new.self)
    (after3 _ _ _ _ _ _ _ _ _ _ _ k h2 c.flip-3.ensures.steps)

pub returns-clause-kicked : goal.returns-clause-kicked
returns-clause-kicked g c =
    bridged_of _ _ _ c.requires c.ends.ensures.value _
    (λ k.
    let h1 = after1 _ _ _ _ _ _ _ _ _ _ k c.flip.ensures.steps in
    let h2 = after2 _ _ _ _ _ _ _ _ _ _ _ k h1 c.flip-2.ensures.steps in
    let h3 = after3 _ _ _ _ _ _ _ _ _ _ _ k h2 c.flip-3.ensures.steps in
    after4 _ _ _ _ _ _ _ _ _ _ _ k h3 c.flip-4.ensures.steps)

pub returns-clause-kept : goal.returns-clause-kept
returns-clause-kept g c =
    let s = g.met.S.TourStore in
    let two = s.flips_more _ _ _ c.flip.ensures.kept c.flip-2.ensures.kept in
    let three = s.flips_more _ _ _ two c.flip-3.ensures.kept in
    s.flips_more _ _ _ three c.flip-4.ensures.kept

pub returns-clause-swaps : goal.returns-clause-swaps
returns-clause-swaps g c =
    let s = cut_of _ _ _ c.requires c.ends.ensures.value in
    let k = s.cut in
    let h1 = after1 _ _ _ _ _ _ _ _ _ _ k c.flip.ensures.steps in
    let h2 = after2 _ _ _ _ _ _ _ _ _ _ _ k h1 c.flip-2.ensures.steps in
    let h3 = after3 _ _ _ _ _ _ _ _ _ _ _ k h2 c.flip-3.ensures.steps in
    four_turns _ c.args.self.now.cuts _ _ _ _ _ _ _ _ _ _ _ _ _ c.requires.cuts s.a s.b s.c s.d
    (first_side k _ c.flip.ensures.side)
    (second_side k _ _ h1 c.flip-2.ensures.side)
    (third_side k _ _ h2 c.flip-3.ensures.side)
    (fourth_side k _ _ h3 c.flip-4.ensures.side)
    c.flip.ensures.swaps c.flip-2.ensures.swaps c.flip-3.ensures.swaps c.flip-4.ensures.swaps
