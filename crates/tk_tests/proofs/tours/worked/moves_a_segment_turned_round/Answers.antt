use Rattle.std.proofs.Common.{[], ◌∷◌, inl, refl}
use Rattle.tk_tests.proofs.tours.worked.moves_a_segment_turned_round.Goals as goal

pub move_reversed-requires : goal.move_reversed-requires
move_reversed-requires g c = record {
  segment = 2 ∷ 3 ∷ [];
  ahead = 4 ∷ 5 ∷ [];
  rest = 6 ∷ 7 ∷ 8 ∷ 1 ∷ [];
  is_segment = ((3 ∷ [], refl), (2 ∷ [], refl));
  is_ahead = ((5 ∷ [], refl), (4 ∷ [], refl));
  is_rest = ((7 ∷ 8 ∷ 1 ∷ [], refl), (6 ∷ 7 ∷ 8 ∷ [], refl));
  cycle =
      inl (record
      { front = 1 ∷ []; back = 2 ∷ 3 ∷ 4 ∷ 5 ∷ 6 ∷ 7 ∷ 8 ∷ []; before = c.tour_of-tour.ensures; after = refl });
}
