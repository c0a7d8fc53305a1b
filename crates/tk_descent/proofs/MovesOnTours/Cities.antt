-- Moves keep the cities of a cycle.
use Rattle.std.proofs.Common.{ℕ, List, ◌++◌, reverse, refl, arith, inl, inr, length-append}
use Rattle.std.proofs.lemmas.List.{length-reverse}
use Rattle.tk_tour.specs.Tour.{SameCycle}
use Rattle.tk_tour.proofs.DistinctCycles.{occurrences-append, occurrences-reverse}
use Rattle.tk_distance.specs.Holding.{IsDistinct}
use Rattle.tk_descent.specs.Offers.{Makes}
use Rattle.tk_descent.specs.declared.offer.Offer.{Offer}
use Rattle.tk_descent.specs.declared.offer.Offer.TheVariants.{Two, Or}
use Rattle.tk_descent.proofs.MovesOnTours.Steps.{HasSameCities, cities-cycle, distinct_same}
use Rattle.tk_descent.proofs.MovesOnTours.Views.{Made, Parts, made_of}

-- a segment, or its reverse, at another position
moved_cities : {m : ℕ} {C : List ℕ} {a x e b c d : ℕ} (p : Parts m C a x e b c d) (D T : List ℕ) →
    HasSameCities p.segment T → SameCycle D (p.ahead ++ T ++ p.rest) → HasSameCities C D
moved_cities {C = C} p D T same k =
    let old = cities-cycle C (p.segment ++ p.ahead ++ p.rest) p.cycle in
    let new = cities-cycle D (p.ahead ++ T ++ p.rest) k in (
      omega (
        arith,
        same.0,
        old.0,
        new.0,
        length-append (p.segment ++ p.ahead) p.rest,
        length-append p.segment p.ahead,
        length-append (p.ahead ++ T) p.rest,
        length-append p.ahead T,
      ),
      λ z. omega (
        arith,
        same.1 z,
        old.1 z,
        new.1 z,
        occurrences-append z (p.segment ++ p.ahead) p.rest,
        occurrences-append z p.segment p.ahead,
        occurrences-append z (p.ahead ++ T) p.rest,
        occurrences-append z p.ahead T,
      ),
    )

cities_kept : (m : ℕ) (o : Offer) (C D : List ℕ) → Made m o C D → HasSameCities C D
cities_kept m (Two a b c d) C D (h, k) =
    let old = cities-cycle C (h.kept ++ h.turned) h.cycle in
    let new = cities-cycle D (h.kept ++ reverse h.turned) k in (
      omega (
        arith,
        old.0,
        new.0,
        length-append h.kept h.turned,
        length-append h.kept (reverse h.turned),
        length-reverse h.turned,
      ),
      λ z. omega (
        arith,
        old.1 z,
        new.1 z,
        occurrences-append z h.kept h.turned,
        occurrences-append z h.kept (reverse h.turned),
        occurrences-reverse z h.turned,
      ),
    )
cities_kept m (Or a x e b y w) C D (inl (p, k)) = moved_cities p D p.segment (refl, λ c. refl) k
cities_kept m (Or a x e b y w) C D (inr (p, k)) =
    moved_cities p D (reverse p.segment) (length-reverse p.segment, λ c. occurrences-reverse c p.segment) k

pub made_cities : (m : ℕ) (o : Offer) (C D : List ℕ) → Makes m o C D → HasSameCities C D
made_cities m o C D makes = cities_kept m o C D (made_of m o C D makes)

pub distinct_made : (m : ℕ) (o : Offer) (C D : List ℕ) → Makes m o C D → IsDistinct C → IsDistinct D
distinct_made m o C D makes dis = distinct_same C D (made_cities m o C D makes) dis
