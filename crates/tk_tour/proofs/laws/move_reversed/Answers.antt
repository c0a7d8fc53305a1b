use Rattle.tk_tour.proofs.SegmentMove.{first_cut, first_flip, second_cut, second_flip, OrMove-reversed}
use Rattle.tk_tour.proofs.laws.move_reversed.Goals as goal

pub flip-requires : goal.flip-requires
flip-requires g c = first_cut c.requires (g.met.S.TourStore.is_tour c.args.tour.now)

pub flip-requires-2 : goal.flip-requires-2
flip-requires-2 g c =
    second_cut c.requires _ (g.met.S.TourStore.is_tour c.flip.new.self)
    (first_flip c.requires _ c.flip.ensures.steps)

pub returns-clause-moved : goal.returns-clause-moved
returns-clause-moved g c = λ k.
    second_flip k _ _ (first_flip k _ c.flip.ensures.steps) c.flip-2.ensures.steps

pub returns-clause-made : goal.returns-clause-made
returns-clause-made g c = λ k. OrMove-reversed k _ (returns-clause-moved g c k)

pub returns-clause-kept : goal.returns-clause-kept
returns-clause-kept g c = g.met.S.TourStore.flips_more _ _ _ c.flip.ensures.kept c.flip-2.ensures.kept
