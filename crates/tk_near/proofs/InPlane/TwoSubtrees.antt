-- What two halves of a tree show, whichever comes first.
use Rattle.std.proofs.Common.{◌≡◌, ◌≢◌, ℕ, ◌+◌, ◌*◌, ◌<◌, List, ◌++◌, refl, sym, ap, ◌∙◌, arith}
use Rattle.std.specs.Prelude.{All, MatchOption, Option, Some, None}
use Rattle.tk_near.specs.declared.candidates.Candidate.{Candidate}
use Rattle.tk_near.specs.declared.plane.city_point.CityPoint.{CityPoint}
use Rattle.tk_near.specs.Unvisited.{IsNotIn, IsTakenOut}
use Rattle.tk_near.specs.Tree.{with_cities}
use Rattle.tk_near.proofs.InPlane.TreeCandidates.{IsSmall, all_back, all_front, with_cities-append, with_cities-swap}
use Rattle.tk_near.proofs.InPlane.RemovedCity.{All-swapped, All-taken, taken_swapped}

-- two halves have fewer parts than the part that has them
pub halves_smaller : (whole lower upper first second t : ℕ) → 2 * whole ≡ t → whole ≡ lower + upper + 1 →
    first + second ≡ lower + upper → 2 * (first + second) + 1 < t
halves_smaller whole lower upper first second t is cut both = omega arith

module _ (dist : ℕ → ℕ → ℕ) (c : ℕ) (front back : List CityPoint) (first middle last : List Candidate) where
  pub shown_front_first : middle ≡ with_cities dist c front first → last ≡ with_cities dist c back middle →
      last ≡ with_cities dist c (front ++ back) first
  shown_front_first h k = k ∙ ap (with_cities dist c back) h ∙ sym (with_cities-append dist c front back first)

  pub shown_back_first : All IsSmall front → All IsSmall back → middle ≡ with_cities dist c back first →
      last ≡ with_cities dist c front middle → last ≡ with_cities dist c (front ++ back) first
  shown_back_first small_front small_back h k =
      k ∙ ap (with_cities dist c front) h ∙ with_cities-swap dist c front back first small_front small_back
      ∙ sym (with_cities-append dist c front back first)

shown_swapped : (dist : ℕ → ℕ → ℕ) (c : ℕ) (front back : List CityPoint) (first last : List Candidate) →
    All IsSmall (front ++ back) → last ≡ with_cities dist c (front ++ back) first →
    last ≡ with_cities dist c (back ++ front) first
shown_swapped dist c front back first last small h =
    shown_back_first dist c back front first (with_cities dist c front first) last (all_back IsSmall front back small)
    (all_front IsSmall front back small) refl (h ∙ with_cities-append dist c front back first)

-- where the lower half was looked at first, what is said of both halves holds of the part that has them
pub taken_lower_first : {R : Type 0} (p : CityPoint) (lower upper lower_left upper_left whole : List CityPoint)
    (o : Option R)
    → whole ≡ lower ++ upper
    → MatchOption o ((lower_left ≡ lower) × (upper_left ≡ upper) × IsNotIn p (lower ++ upper))
    (λ _. IsTakenOut p (lower ++ upper) (lower_left ++ upper_left))
    → MatchOption o ((lower_left ++ upper_left ≡ whole) × IsNotIn p whole)
    (λ _. IsTakenOut p whole (lower_left ++ upper_left))
taken_lower_first p lower upper lower_left upper_left whole None cut h = (rw (h.0, h.1) (sym cut), rw cut h.2)
taken_lower_first p lower upper lower_left upper_left whole (Some _) cut h = rw cut h

-- and where the upper half was looked at first
module _ {R : Type 0} (p : CityPoint) (lower upper lower_left upper_left : List CityPoint) where
  abbrev IsLookedFor : Option R → Type 0
  IsLookedFor o = MatchOption o ((upper_left ≡ upper) × (lower_left ≡ lower) × IsNotIn p (upper ++ lower))
      (λ _. IsTakenOut p (upper ++ lower) (upper_left ++ lower_left))

  pub taken_upper_first : (o : Option R) (whole : List CityPoint) → whole ≡ lower ++ upper → IsLookedFor o →
      MatchOption o ((lower_left ++ upper_left ≡ whole) × IsNotIn p whole)
      (λ _. IsTakenOut p whole (lower_left ++ upper_left))
  taken_upper_first None whole cut h =
      (rw (h.0, h.1) (sym cut), rw cut (All-swapped (λ q. q ≢ p) upper lower h.2))
  taken_upper_first (Some _) whole cut h = rw cut (taken_swapped p upper lower upper_left lower_left h)

  pub shown_upper_first : (dist : ℕ → ℕ → ℕ) (c : ℕ) (first last : List Candidate) (o : Option R) →
      All IsSmall (upper ++ lower) → IsLookedFor o →
      MatchOption o (last ≡ first) (λ _. last ≡ with_cities dist c (upper_left ++ lower_left) first) →
      MatchOption o (last ≡ first) (λ _. last ≡ with_cities dist c (lower_left ++ upper_left) first)
  shown_upper_first dist c first last None small taken h = h
  shown_upper_first dist c first last (Some _) small taken h =
      shown_swapped dist c upper_left lower_left first last
      (All-taken IsSmall p (upper ++ lower) (upper_left ++ lower_left) taken small) h
