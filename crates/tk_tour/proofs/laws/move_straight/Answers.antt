use Rattle.tk_tour.proofs.SegmentMove.{third_cut, third_flip, OrMove-straight}
use Rattle.tk_tour.proofs.laws.move_straight.Goals as goal

pub flip-requires : goal.flip-requires
flip-requires g c =
    third_cut c.requires _ (g.met.S.TourStore.is_tour c.move_reversed.new.tour)
    (c.move_reversed.ensures.moved c.requires)

pub returns-clause-moved : goal.returns-clause-moved
returns-clause-moved g c = λ k.
    third_flip k _ _ (c.move_reversed.ensures.moved k) c.flip.ensures.steps

pub returns-clause-kept : goal.returns-clause-kept
returns-clause-kept g c = g.met.S.TourStore.flips_more _ _ _ c.move_reversed.ensures.kept c.flip.ensures.kept

pub returns-clause-made : goal.returns-clause-made
returns-clause-made g c = λ k. OrMove-straight k _ (returns-clause-moved g c k)
