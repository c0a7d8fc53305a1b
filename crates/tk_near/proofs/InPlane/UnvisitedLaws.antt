-- Cities that are left, once one of them was taken out.
use Rattle.std.proofs.Common.{◌≡◌, ◌≢◌, ℕ, zero, suc, ◌<◌, List, ◌∷◌, length, refl, sym, ap, ◌∙◌, arith, get_or}
use Rattle.std.specs.Prelude.{All, MatchOption, Option, Some, None}
use Rattle.std.proofs.lemmas.List.{get_or_default}
use Rattle.std.proofs.lemmas.List.Elements.{All-tail}
use Rattle.std.proofs.lemmas.List.Sorted.{All-permutation, Contains-permutation, IsPermutation-sym}
use Rattle.tk_problem.specs.declared.point.Point.{Point}
use Rattle.tk_near.specs.declared.plane.city_point.CityPoint.{CityPoint}
use Rattle.tk_near.specs.CityPoint.{IsPlaced, placed_city, nowhere}
use Rattle.tk_near.specs.Unvisited.{ArePlacedApart, IsNotIn, IsTakenOut, Stands}
use Rattle.tk_near.proofs.InPlane.DistinctPlaces.{OneEach, OneEach-moved}

module _ (n : ℕ) (place_of : ℕ → Point) where
  module _ (p : CityPoint) (old new : List CityPoint) (h : ArePlacedApart n place_of old) (t : IsTakenOut p old new)
    where
      all : All (IsPlaced n place_of) (t.taken ∷ new)
      all = All-permutation (IsPlaced n place_of) old (t.taken ∷ new) t.others h.each

      once : OneEach (λ (v : CityPoint). v.city) nowhere (t.taken ∷ new)
      once = OneEach-moved (λ (v : CityPoint). v.city) nowhere old (t.taken ∷ new) h.apart t.others

      -- those that are left are apart still
      pub AreApart-taken : ArePlacedApart n place_of new
      AreApart-taken = record {
        each = All-tail (IsPlaced n place_of) t.taken new all;
        apart = λ i j l m e. let same = once (suc i) (suc j) (omega arith) (omega arith) e in omega arith;
      }

      -- the city is not among them
      pub gone : Stands new p.city → ⊥
      gone s = let same = once 0 (suc s.0) (omega arith) (omega (arith, s.1)) (t.is ∙ sym s.2) in omega arith

      -- and the others are those that were left
      pub Stands-old : (b : ℕ) → Stands new b → Stands old b
      Stands-old b s =
          let w =
          Contains-permutation (t.taken ∷ new) old (get_or new s.0 nowhere)
          (IsPermutation-sym old (t.taken ∷ new) t.others)
          (suc s.0, omega (arith, s.1), get_or_default new s.0 _ _ s.1) in (
            w.0,
            w.1,
            ap (λ (v : CityPoint). v.city) (get_or_default old w.0 nowhere (get_or new s.0 nowhere) w.1 ∙ w.2)
                ∙ s.2,
          )

      pub Stands-new : (b : ℕ) → b ≢ p.city → Stands old b → Stands new b
      Stands-new b ne s =
          let w =
          Contains-permutation old (t.taken ∷ new) (get_or old s.0 nowhere) t.others
          (s.0, s.1, get_or_default old s.0 _ _ s.1) in
          found w.0 w.1
          (ap (λ (v : CityPoint). v.city) (get_or_default (t.taken ∷ new) w.0 nowhere (get_or old s.0 nowhere) w.1 ∙
          w.2)
          ∙ s.2)
        where
          found : (k : ℕ) → k < length (t.taken ∷ new) → placed_city (t.taken ∷ new) k ≡ b → Stands new b
          found zero l e = absurd (ne (sym e ∙ t.is))
          found (suc k) l e = (k, omega arith, e)

  -- a city of the row is found there
  pub not_missed : (p : CityPoint) (row : List CityPoint) → ArePlacedApart n place_of row → IsPlaced n place_of p →
      Stands row p.city → IsNotIn p row → ⊥
  not_missed p row h here s none =
      let there = h.each s.0 nowhere s.1 in
      none s.0 nowhere s.1 (same_placed (get_or row s.0 nowhere) p s.2 (there.1 ∙ ap place_of s.2 ∙ sym here.1))
    where
      same_placed : (q r : CityPoint) → q.city ≡ r.city → q.place ≡ r.place → q ≡ r
      same_placed q r city place = rw (sym city, sym place) refl

  -- so a city that stands there was taken out, and what holds once one was taken out holds
  pub taken_there : {R : Type 0} (p : CityPoint) (old new : List CityPoint) (Before After : Type 0) (o : Option R)
      → MatchOption o ((new ≡ old) × IsNotIn p old) (λ _. IsTakenOut p old new) → MatchOption o Before (λ _. After)
      → ArePlacedApart n place_of old → IsPlaced n place_of p → Stands old p.city → IsTakenOut p old new × After
  taken_there p old new Before After None t s h here there = absurd (not_missed p old h here there t.1)
  taken_there p old new Before After (Some r) t s h here there = (t, s)
