-- Each city once, in any order.
use Rattle.std.proofs.Common.{◌≡◌, ℕ, ◌+◌, ◌-◌, ◌<◌, ◌≤◌, List, sym, ap, ◌∙◌, arith, get_or}
use Rattle.std.proofs.Common.{◌++◌, take, drop, subst}
use Rattle.std.specs.Prelude.{All}
use Rattle.std.specs.List.Sorted.{IsPermutation}
use Rattle.std.proofs.lemmas.List.{get_or_default, get_or-take, length-take-le, take-append-drop}
use Rattle.std.proofs.lemmas.List.Sorted.{All-permutation, Contains-permutation, IsPermutation-append_left}
use Rattle.std.proofs.lemmas.List.Sorted.{length_permutation}
use Rattle.tk_near.proofs.InPlane.DistinctPlaces.{OneEach-moved}
use Rattle.tk_near.specs.declared.plane.city_point.CityPoint.{CityPoint}
use Rattle.tk_problem.specs.declared.point.Point.{Point}
use Rattle.tk_near.specs.CityPoint.{nowhere, placed_city, IsNumberedRow, IsPlaced, IsRow}

-- in the order of their numbers
pub IsRow-by_number : (n : ℕ) (place_of : ℕ → Point) (row : List CityPoint) → IsNumberedRow n place_of row →
    IsRow n place_of row
IsRow-by_number n place_of row o =
    let city : (j : ℕ) → j < n → placed_city row j ≡ j + 1 = λ j l. ap (λ (v : CityPoint). v.city) (o.each j nowhere l)
    in
    record {
      count = o.count;
      each = λ j d l.
          let e = o.each j d (omega (arith, o.count)) in
          let c : (get_or row j d).city ≡ j + 1 = ap (λ (v : CityPoint). v.city) e in
          ((omega (arith, o.count), omega (arith, o.count)), ap (λ (v : CityPoint). v.place) e ∙ ap place_of (sym c));
      apart = λ i j l m e.
          let ei = city i (omega (arith, o.count)) in
          let ej = city j (omega (arith, o.count)) in
          omega arith;
      whole =
          λ b is. (
            b - 1,
            omega (arith, is.0, is.1, o.count),
            city (b - 1) (omega (arith, is.0, is.1)) ∙ omega (arith, is.0),
          );
    }

-- the first m of them
pub IsNumberedRow-front : (m n : ℕ) (place_of : ℕ → Point) (row : List CityPoint) → m ≤ n →
    IsNumberedRow n place_of row → IsNumberedRow m place_of (take m row)
IsNumberedRow-front m n place_of row part o =
    record {
      count = length-take-le m row (omega (arith, o.count));
      each = λ j d l. get_or-take m row j d l ∙ o.each j d (omega arith);
    }

-- in another order
pub IsRow-moved : (n : ℕ) (place_of : ℕ → Point) (first row : List CityPoint) → IsRow n place_of first →
    IsPermutation first row → IsRow n place_of row
IsRow-moved n place_of first row o moved =
    let once = OneEach-moved (λ (v : CityPoint). v.city) nowhere first row o.apart moved in
    record {
      count = length_permutation first row moved ∙ o.count;
      each = All-permutation (IsPlaced n place_of) first row moved o.each;
      apart = λ i j l m e. let same = once i j (omega arith) m e in omega arith;
      whole = λ b city.
          let at = o.whole b city in
          let w =
          Contains-permutation first row (get_or first at.0 nowhere) moved
          (at.0, at.1, get_or_default first at.0 _ _ at.1) in (
            w.0,
            w.1,
            ap (λ (v : CityPoint). v.city) (get_or_default row w.0 nowhere (get_or first at.0 nowhere) w.1 ∙ w.2)
                ∙ at.2,
          );
    }

-- the first of them in another order
pub IsRow-front_moved : (n m : ℕ) (place_of : ℕ → Point) (first front : List CityPoint) → IsRow n place_of first →
    IsPermutation (take m first) front → IsRow n place_of (front ++ drop m first)
IsRow-front_moved n m place_of first front o moved =
    IsRow-moved n place_of first (front ++ drop m first) o
    (subst (λ v. IsPermutation v (front ++ drop m first)) (take-append-drop m first)
    (IsPermutation-append_left (drop m first) (take m first) front moved))

-- cities of a part are cities of the whole
pub IsRow-placed : (m n : ℕ) (place_of : ℕ → Point) (row : List CityPoint) → IsRow m place_of row → m ≤ n →
    All (IsPlaced n place_of) row
IsRow-placed m n place_of row o part =
    λ j d l. let p = o.each j d l in ((p.0.0, omega (arith, p.0.1, part)), p.1)
