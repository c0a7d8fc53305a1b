-- The difference that a move makes to the length.
use Rattle.std.proofs.Common.{◌≡◌, ℕ, ◌+◌, List, ◌++◌, reverse, arith, inl, inr, pos, ◌-ℤ◌}
use Rattle.std.proofs.lemmas.Int.{ints}
use Rattle.tk_tour.specs.Tour.{tour_length}
use Rattle.tk_descent.proofs.MovesOnTours.Views.{Made, made_of}
use Rattle.tk_descent.specs.Offers.{Makes, removed, added, gain}
use Rattle.tk_descent.specs.declared.offer.Offer.{Offer}
use Rattle.tk_descent.specs.declared.offer.Offer.TheVariants.{Two, Or}
use Rattle.tk_descent.proofs.MovesOnTours.Length.{length-cycle, length-two, length-three, inner-reverse, Spans-reverse}

module _ (d : ℕ → ℕ → ℕ) (s : (a b : ℕ) → d a b ≡ d b a) (old new : List ℕ) where
  made_gain : (m : ℕ) (o : Offer) → Made m o old new → tour_length d old + added d o ≡ tour_length d new + removed d o
  made_gain m (Two a b c e) (h, k) =
      omega (
        arith,
        length-cycle d s old (h.kept ++ h.turned) h.cycle,
        length-cycle d s new (h.kept ++ reverse h.turned) k,
        length-two d h.kept h.turned e a b c h.is_kept h.is_turned,
        length-two d h.kept (reverse h.turned) e a c b h.is_kept (Spans-reverse h.turned b c h.is_turned),
        inner-reverse d s h.turned,
      )
  made_gain m (Or a x e b y w) (inl (p, k)) =
      omega (
        arith,
        length-cycle d s old (p.segment ++ p.ahead ++ p.rest) p.cycle,
        length-cycle d s new (p.ahead ++ p.segment ++ p.rest) k,
        length-three d p.segment p.ahead p.rest x e b y w a p.is_segment p.is_ahead p.is_rest,
        length-three d p.ahead p.segment p.rest b y x e w a p.is_ahead p.is_segment p.is_rest,
        s x y,
      )
  made_gain m (Or a x e b y w) (inr (p, k)) =
      omega (
        arith,
        length-cycle d s old (p.segment ++ p.ahead ++ p.rest) p.cycle,
        length-cycle d s new (p.ahead ++ reverse p.segment ++ p.rest) k,
        length-three d p.segment p.ahead p.rest x e b w y a p.is_segment p.is_ahead p.is_rest,
        length-three d p.ahead (reverse p.segment) p.rest b w e x y a p.is_ahead
            (Spans-reverse p.segment x e p.is_segment) p.is_rest,
        inner-reverse d s p.segment,
        s e w,
        s y w,
      )

  -- the formula of four or six distances is the difference of the whole lengths
  pub gain_law : (m : ℕ) (o : Offer) → Makes m o old new →
      tour_length d old + added d o ≡ tour_length d new + removed d o
  gain_law m o makes = made_gain m o (made_of m o old new makes)

  pub gain_difference : (m : ℕ) (o : Offer) → Makes m o old new →
      gain d o ≡ pos (tour_length d old) -ℤ pos (tour_length d new)
  gain_difference m o makes = omega (arith, ints, gain_law m o makes)
