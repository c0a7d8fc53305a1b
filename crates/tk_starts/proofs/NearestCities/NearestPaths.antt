-- The nearest-neighbour tour, one city after another, with a row of those that are left.
use Rattle.std.proofs.Common.{◌≡◌, ℕ, ◌+◌, ◌-◌, ◌<◌, ◌≤◌, ⊎_elim, List, [], ◌∷◌, ◌++◌, length, refl, sym, ap, ◌∙◌}
use Rattle.std.proofs.Common.{arith, subst}
use Rattle.std.specs.Prelude.{slice_index, Option, Some, None, MatchOption}
use Rattle.std.proofs.lemmas.Bool.{cases_lt}
use Rattle.std.proofs.lemmas.List.{get_or_append_left, get_or-append_right, length-append}
use Rattle.tk_distance.specs.Cities.{IsCity}
use Rattle.tk_near.specs.Near.{IsFirst, IsNew}
use Rattle.tk_near.specs.CityPoint.{nowhere}
use Rattle.tk_tour.specs.Tour.{occurrences}
use Rattle.tk_tour.proofs.Tours.{HoldsOnce-from_distinct, length-distinct, length-whole, occurrences-index}
use Rattle.tk_starts.specs.NearestTour.{IsNearestPath, IsNearestTour}
use Rattle.tk_starts.specs.Unvisited.{IsFirstUnvisited, AreAllVisited, AreVisited}
use Rattle.tk_near.specs.Unvisited.{ArePlacedApart, IsOtherIn, IsTakenOut, Stands}
use Rattle.tk_near.proofs.InPlane.UnvisitedLaws.{Stands-old, Stands-new, gone}
use Rattle.tk_near.specs.declared.plane.unvisited.CityHint.{CityHint}
use Rattle.tk_near.specs.declared.plane.city_point.CityPoint.{CityPoint}
use Rattle.tk_problem.specs.declared.point.Point.{Point}
use Rattle.tk_starts.proofs.NearestCities.NearestTours.{path_city, path_apart}

-- reads of a list with one more entry
module _ (xs : List ℕ) (b : ℕ) where
  front_of : (i : ℕ) → i < length xs → slice_index (xs ++ b ∷ []) i ≡ slice_index xs i
  front_of i l = get_or_append_left xs (b ∷ []) 0 i l

  last_of : slice_index (xs ++ b ∷ []) (length xs) ≡ b
  last_of =
      let none : length xs - length xs ≡ 0 = omega arith in
      get_or-append_right xs (b ∷ []) (length xs) (length xs) 0 refl (omega arith) ∙ ap (slice_index (b ∷ [])) none

  new_in_front : (m c : ℕ) → m ≤ length xs → IsNew xs m c → IsNew (xs ++ b ∷ []) m c
  new_in_front m c l h = λ i li e. h i li (sym (front_of i (omega arith)) ∙ e)

  new_of_front : (m c : ℕ) → m ≤ length xs → IsNew (xs ++ b ∷ []) m c → IsNew xs m c
  new_of_front m c l h = λ i li e. h i li (front_of i (omega arith) ∙ e)

-- one more city is visited
pub visited_more : (n m : ℕ) (place_of : ℕ → Point) (p : CityPoint) (left now : List CityPoint) (cities : List ℕ) →
    AreVisited n left m cities → slice_index cities m ≡ p.city → ArePlacedApart n place_of left →
    IsTakenOut p left now →
    AreVisited n now (m + 1) cities
visited_more n m place_of p left now cities h is apart taken c cc = (
  λ stands i li at.
      let was = Stands-old n place_of p left now apart taken c stands in
      ⊎_elim
      (λ before. (h c cc).0 was i before at)
      (λ last.
      let k : i ≡ m = omega arith in
      let e : c ≡ p.city = sym at ∙ ap (slice_index cities) k ∙ is in
      gone n place_of p left now apart taken (subst (Stands now) e stands))
      (cases_lt i m),
  λ new. Stands-new n place_of p left now apart taken c (λ e. new m (omega arith) (is ∙ sym e))
      ((h c cc).1 (λ i li. new i (omega arith))),
)

-- and the first of those that are left is the next of the tour
pub IsNearestPath-more : (dist : ℕ → ℕ → ℕ) (n start here b : ℕ) (left : List CityPoint) (cities : List ℕ) →
    IsNearestPath dist n start cities → AreVisited n left (length cities) cities →
    slice_index cities (length cities - 1) ≡ here → IsFirstUnvisited dist n left here b →
    IsNearestPath dist n start (cities ++ b ∷ [])
IsNearestPath-more dist n start here b left cities h v is first = record {
  some = omega (arith, length-append cities (b ∷ []), h.some);
  first = front_of cities b 0 h.some ∙ h.first;
  each = λ j l. ⊎_elim
      (λ before.
      let old = h.each j before in
      rw (front_of cities b j (omega arith), front_of cities b (j + 1) before) record {
        member = (old.member.0, new_in_front cities b (j + 1) (slice_index cities (j + 1)) (omega arith) old.member.1);
        before = λ a p ne. old.before a (p.0, new_of_front cities b (j + 1) a (omega arith) p.1) ne;
      })
      (λ last.
      let k : j + 1 ≡ length cities = omega (arith, length-append cities (b ∷ [])) in
      let k' : j ≡ length cities - 1 = omega arith in
      let there : slice_index (cities ++ b ∷ []) (j + 1) ≡ b = ap (slice_index (cities ++ b ∷ [])) k
      ∙ last_of cities b in
      let from : slice_index (cities ++ b ∷ []) j ≡ here = front_of cities b j (omega (arith, h.some))
      ∙ ap (slice_index cities) k' ∙ is in
      rw (there, from) record {
        member = (
          first.member.0,
          rw k
              (new_in_front cities b (length cities) b (omega arith) ((v b first.member.0).0 first.member.1)),
        );
        before =
            λ a p ne. first.before a
            (p.0, (v a p.0).1 (new_of_front cities b (length cities) a (omega arith) (rw k at p.1))) ne;
      })
      (cases_lt (j + 1) (length cities));
}

-- a list of cities that are visited but for the last
pub record IsUnderWay (dist : ℕ → ℕ → ℕ) (n start here : ℕ) (left : List CityPoint) (cities : List ℕ) : Type 0 where
  pub path : IsNearestPath dist n start cities
  pub marked : AreVisited n left (length cities - 1) cities
  pub last : slice_index cities (length cities - 1) ≡ here

module _ {dist : ℕ → ℕ → ℕ} {n start here : ℕ} {left : List CityPoint} {cities : List ℕ} (city : IsCity n start)
    (h : IsUnderWay dist n start here left cities) where
  pub here_city : IsCity n here
  here_city =
      subst (IsCity n) h.last (path_city h.path city (length cities - 1) (omega (arith, h.path.some)))

  pub here_left : Stands left here
  here_left =
      (h.marked here here_city).1
      (λ i li e. path_apart h.path i (length cities - 1) li (omega (arith, h.path.some)) (e ∙ sym h.last))

  all_visited : (place_of : ℕ → Point) (p : CityPoint) (now : List CityPoint) → p.city ≡ here →
      ArePlacedApart n place_of left →
      IsTakenOut p left now → AreVisited n now (length cities) cities
  all_visited place_of p now is apart taken =
      let k : length cities - 1 + 1 ≡ length cities = omega (arith, h.path.some) in
      subst (λ m. AreVisited n now m cities) k
      (visited_more n (length cities - 1) place_of p left now cities h.marked (h.last ∙ sym is) apart taken)

  pub IsUnderWay-more : (place_of : ℕ → Point) (p : CityPoint) (now : List CityPoint) (b : ℕ) → p.city ≡ here →
      ArePlacedApart n place_of left → IsTakenOut p left now → IsFirstUnvisited dist n now here b →
      IsUnderWay dist n start b now (cities ++ b ∷ [])
  IsUnderWay-more place_of p now b is apart taken first =
      let v = all_visited place_of p now is apart taken in
      let k : length (cities ++ b ∷ []) - 1 ≡ length cities = omega (arith, length-append cities (b ∷ [])) in
      record {
        path = IsNearestPath-more dist n start here b now cities h.path v h.last first;
        marked = λ c cc'. let w = v c cc' in
            rw k (
              λ left. new_in_front cities b (length cities) c (omega arith) (w.0 left),
              λ new. w.1 (new_of_front cities b (length cities) c (omega arith) new),
            );
        last = ap (slice_index (cities ++ b ∷ [])) k ∙ last_of cities b;
      }

  in_range : (k : ℕ) → k < length cities → (0 < slice_index cities k) × (slice_index cities k ≤ n)
  in_range k lk = let m = path_city h.path city k lk in (omega (arith, m.0), m.1)

  pub length_limit : length cities ≤ n
  length_limit =
      length-distinct n cities in_range
      (HoldsOnce-from_distinct cities (λ i j lt lj. path_apart h.path i j lt lj))

  -- once no city is left, the list is whole
  pub IsNearestTour-whole : (place_of : ℕ → Point) (p : CityPoint) (now : List CityPoint) → p.city ≡ here →
      ArePlacedApart n place_of left → IsTakenOut p left now → AreAllVisited n now → IsNearestTour dist n start cities
  IsNearestTour-whole place_of p now is apart taken all =
      let v = all_visited place_of p now is apart taken in
      let held : (c : ℕ) → 0 < c → c ≤ n → 1 ≤ occurrences c cities = λ c low high. ⊎_elim
      (λ some. omega arith)
      (λ none.
      let cc' : IsCity n c = (omega arith, high) in
      absurd (all c cc' ((v c cc').1 (λ i li at.
      let one : 1 ≤ occurrences c cities = subst (λ x. 1 ≤ occurrences x cities) at (occurrences-index cities i li) in
      omega arith))))
      (cases_lt 0 (occurrences c cities)) in
      let least = length-whole n cities in_range held in
      let count : length cities ≡ n = omega (arith, least, length_limit) in
      record { count = count; first = h.path.first; each = λ j l. h.path.each j (omega arith) }

-- where c does not stand in a row, the first of its other cities is the first of all
pub first_of_left : (dist : ℕ → ℕ → ℕ) (n : ℕ) (place_of : ℕ → Point) (c : ℕ) (row : List CityPoint)
    → ArePlacedApart n place_of row → (Stands row c → ⊥) → (o : Option CityHint)
    → MatchOption o ((b : ℕ) → IsOtherIn row c b → ⊥) (λ f. IsFirst dist c (IsOtherIn row c) f.city) →
    MatchOption o (AreAllVisited n row) (λ f. IsFirstUnvisited dist n row c f.city)
first_of_left dist n place_of c row apart gone None h =
    λ b city s. h b (s.0, s.1, s.2, λ e. gone (subst (Stands row) e s))
first_of_left dist n place_of c row apart gone (Some f) h = record {
  member =
      let s = h.member in
      (subst (IsCity n) s.2 (apart.each s.0 nowhere s.1).0, (s.0, s.1, s.2));
  before = λ a p ne. h.before a (p.1.0, p.1.1, p.1.2, λ e. gone (subst (Stands row) e p.1)) ne;
}
