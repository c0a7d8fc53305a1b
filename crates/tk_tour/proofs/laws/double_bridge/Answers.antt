use Rattle.tk_tour.proofs.DoubleBridgeFlips.{after1, after2, after3, after4, can1, can2, can3, can4}
use Rattle.tk_tour.proofs.laws.double_bridge.Goals as goal

pub flip-requires : goal.flip-requires
flip-requires g c = can1 _ _ _ _ _ _ _ _ _ c.requires (g.met.S.TourStore.is_tour c.args.tour.now)

pub flip-requires-2 : goal.flip-requires-2
flip-requires-2 g c =
    let h1 = after1 _ _ _ _ _ _ _ _ _ _ c.requires c.flip.ensures.steps in
    can2 _ _ _ _ _ _ _ _ _ _ c.requires (g.met.S.TourStore.is_tour c.flip.new.self) h1

pub flip-requires-3 : goal.flip-requires-3
flip-requires-3 g c =
    let h1 = after1 _ _ _ _ _ _ _ _ _ _ c.requires c.flip.ensures.steps in
    let h2 = after2 _ _ _ _ _ _ _ _ _ _ _ c.requires h1 c.flip-2.ensures.steps in
    can3 _ _ _ _ _ _ _ _ _ _ c.requires (g.met.S.TourStore.is_tour c.flip-2.new.self) h2

pub flip-requires-4 : goal.flip-requires-4
flip-requires-4 g c =
    let h1 = after1 _ _ _ _ _ _ _ _ _ _ c.requires c.flip.ensures.steps in
    let h2 = after2 _ _ _ _ _ _ _ _ _ _ _ c.requires h1 c.flip-2.ensures.steps in
    let h3 = after3 _ _ _ _ _ _ _ _ _ _ _ c.requires h2 c.flip-3.ensures.steps in
    can4 _ _ _ _ _ _ _ _ _ _ c.requires (g.met.S.TourStore.is_tour c.flip-3.new.self) h3

pub returns-clause-bridged : goal.returns-clause-bridged
returns-clause-bridged g c = λ k.
    let h1 = after1 _ _ _ _ _ _ _ _ _ _ k c.flip.ensures.steps in
    let h2 = after2 _ _ _ _ _ _ _ _ _ _ _ k h1 c.flip-2.ensures.steps in
    let h3 = after3 _ _ _ _ _ _ _ _ _ _ _ k h2 c.flip-3.ensures.steps in
    after4 _ _ _ _ _ _ _ _ _ _ _ k h3 c.flip-4.ensures.steps

pub returns-clause-kept : goal.returns-clause-kept
returns-clause-kept g c =
    let s = g.met.S.TourStore in
    s.flips_more _ _ _ (s.flips_more _ _ _ (s.flips_more _ _ _ c.flip.ensures.kept c.flip-2.ensures.kept)
    c.flip-3.ensures.kept) c.flip-4.ensures.kept
