use Rattle.std.proofs.Common.{[], ◌∷◌, inl, refl}
use Rattle.tk_tests.proofs.tours.worked.bridges_doubly.Goals as goal

pub double_bridge-requires : goal.double_bridge-requires
double_bridge-requires g c = record {
  a = 1 ∷ 2 ∷ [];
  b = 3 ∷ 4 ∷ [];
  c = 5 ∷ 6 ∷ [];
  d = 7 ∷ 8 ∷ [];
  is_a = ((2 ∷ [], refl), (1 ∷ [], refl));
  is_b = ((4 ∷ [], refl), (3 ∷ [], refl));
  is_c = ((6 ∷ [], refl), (5 ∷ [], refl));
  is_d = ((8 ∷ [], refl), (7 ∷ [], refl));
  cycle =
      inl (record
      { front = []; back = 1 ∷ 2 ∷ 3 ∷ 4 ∷ 5 ∷ 6 ∷ 7 ∷ 8 ∷ []; before = c.tour_of-tour.ensures; after = refl });
}
