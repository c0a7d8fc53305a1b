-- Facts about a tour in an array that is divided into segments.
use Rattle.std.proofs.Common.{◌≡◌, ℕ, ◌+◌, ◌-◌, ◌<◌, ◌≤◌, ◌⊎◌, inl, inr, ⊎_elim, List, length, refl, sym, ap, ◌∙◌}
use Rattle.std.proofs.Common.{subst, arith, get_or}
use Rattle.std.proofs.lemmas.Bool.{cases_lt}
use Rattle.tk_distance.specs.Cities.{IsCity}
use Rattle.tk_tour.specs.Places.{IsPlaceFrom}
use Rattle.tk_tour.specs.Reversal.{begun_at, reversed_places}
use Rattle.tk_segments.specs.Segments.{shown, AreLaidOut, IsSpot, IsAfterPlace}
use Rattle.tk_segments.specs.SeenTours.{SeesAt, list_of}
use Rattle.tk_tour.specs.Tour.{IsTour, IsSizedTour, next_city, prev_city}
use Rattle.tk_segments.specs.declared.seen.SeenTour.{SeenTour}
use Rattle.tk_segments.specs.declared.spots.Spot.{Spot}
use Rattle.tk_tour.proofs.Tours.{city_at_place, IsTour-from_inverse}
use Rattle.tk_tour.proofs.StoredTours.Flips.{IsTour-reversed_places}
use Rattle.tk_tour.proofs.StoredTours.Places.{AtPlace, length-begun_at}
use Rattle.tk_tour.proofs.StoredTours.Reversing.{at_place}
use Rattle.tk_segments.proofs.SeenTours.Listing.{tour_seen, tour_begun, next_begun, prev_begun, stands_there}
use Rattle.tk_segments.proofs.SeenTours.RoundTheEnd.{turned_inside, turned_round}
use Rattle.tk_segments.proofs.SeenTours.Showing.{begun_at-compose}
use Rattle.tk_segments.proofs.SeenTours.Stepping.{spot_seen, before_place, after_place}
use Rattle.tk_segments.proofs.SeenTours.Turning.{within_of, length-shown-sum}

-- the sequence
abbrev pub seen_of : SeenTour → List ℕ
seen_of s = shown s.order.items s.segments.segments.items

pub record Facts (s : SeenTour) : Type 0 where
  pub laid : AreLaidOut s.segments.size s.segments.segments.items
  pub small : (2 ≤ s.segments.size) × (s.segments.size ≤ 100000)
  pub order : length s.order.items ≡ s.segments.size
  pub seen : length (seen_of s) ≡ s.segments.size
  pub list : length (list_of s) ≡ s.segments.size
  pub tour : IsTour s.segments.size (seen_of s)

pub facts : (s : SeenTour) → Facts s
facts s =
    let n : ℕ = s.segments.size in
    let laid = s.segments.laid in
    let l1 : length (seen_of s) ≡ n =
    length-shown-sum n s.order.items s.segments.segments.items (within_of n s.segments.segments.items laid.within)
    (omega (arith, s.sizes)) ∙ laid.whole in
    let l2 : length (list_of s) ≡ n = length-begun_at s.begin (seen_of s) ∙ l1 in
    let P : ℕ → Type 0 = λ u. IsTour u (list_of s) in
    record {
      laid = laid;
      small = (omega (arith, s.tour.0, l2), omega (arith, s.tour.1, l2));
      order = s.sizes.0;
      seen = l1;
      list = l2;
      tour = tour_seen n s.begin (seen_of s) (subst P l2 s.tour.2);
    }

-- the array position of a city
pub city_stands : (s : SeenTour) (c : ℕ) → IsCity (length (list_of s)) c →
    (c - 1 < length s.place.items) × (get_or s.place.items (c - 1) 0 < s.segments.size)
    × (get_or s.order.items (get_or s.place.items (c - 1) 0) 0 ≡ c)
city_stands s c h =
    let f = facts s in
    let a = city_at_place s.order.items s.place.items c (IsTour-from_inverse s.order.items s.place.items s.inverse)
    s.inverse h.0 (omega (arith, h.1, f.list, f.order)) in
    (omega (arith, h, f.list, f.order, s.inverse.0), omega (arith, a.0, f.order), a.1)

-- the entry at a spot
pub spot_is : (s : SeenTour) (v : ℕ) (spot : Spot) → IsSpot s.segments.segments.items v spot →
    (spot.place < s.segments.size) × (get_or (seen_of s) v 0 ≡ get_or s.order.items spot.place 0)
spot_is s v spot h =
    let f = facts s in
    let k = spot_seen s.segments.size v s.segments.segments.items spot f.laid h in
    (k.0, k.1 s.order.items (omega (arith, f.order)))

pub sized_tour : (n : ℕ) (list : List ℕ) → 2 ≤ n → n ≤ 100000 → IsTour n list → IsSizedTour list
sized_tour n list two small tour =
    let P : ℕ → Type 0 = λ u. IsTour u list in
    (omega (arith, tour.0, two), omega (arith, tour.0, small), subst P (sym tour.0) tour)

-- the city at a spot
pub city_of_spot : (s : SeenTour) (c p v : ℕ) (spot : Spot) → IsCity (length (list_of s)) c →
    p ≡ get_or s.place.items (c - 1) 0 → IsSpot s.segments.segments.items v spot → spot.place ≡ p → get_or (seen_of s) v
    0 ≡ c
city_of_spot s c p v spot h ep is es =
    (spot_is s v spot is).1 ∙ ap (λ u. get_or s.order.items u 0) (es ∙ ep) ∙ (city_stands s c h).2

-- the spot of a city, and below those of its successor and its predecessor
pub seen_at : (s : SeenTour) (c p v : ℕ) (spot : Spot) → IsCity (length (list_of s)) c →
    p ≡ get_or s.place.items (c - 1) 0 → IsSpot s.segments.segments.items v spot → spot.place ≡ p → v < s.segments.size
    →
    SeesAt s c spot
seen_at s c p v spot h ep is es lv =
    record { place = v; inside = lv; is = is; shows = city_of_spot s c p v spot h ep is es }

pub record Steps (s : SeenTour) (step : List ℕ → ℕ → ℕ) (c : ℕ) (there : Spot) : Type 0 where
  pub in_array : there.place < s.segments.size
  pub sees : SeesAt s (get_or s.order.items there.place 0) there
  pub city : get_or s.order.items there.place 0 ≡ step (list_of s) c

pub step_after : (s : SeenTour) (c : ℕ) (spot after : Spot) → SeesAt s c spot →
    ((v w : ℕ) → IsSpot s.segments.segments.items v spot → IsAfterPlace s.segments.size v w → IsSpot
    s.segments.segments.items w after) →
    Steps s next_city c after
step_after s c spot after at step =
    let f = facts s in
    let a = after_place s.segments.size at.place at.inside in
    let is = step at.place a.w at.is a.after in
    let there = spot_is s a.w after is in
    let lw : a.w < s.segments.size =
    ⊎_elim (λ (h : (at.place + 1 < s.segments.size) × (a.w ≡ at.place + 1)). omega (arith, h))
    (λ (h : (at.place + 1 ≡ s.segments.size) × (a.w ≡ 0)). omega (arith, h)) a.after in
    record {
      in_array = there.0;
      sees = record { place = a.w; inside = lw; is = is; shows = there.1 };
      city = next_begun s.segments.size s.begin at.place a.w c _ (seen_of s) f.tour s.begins at.inside a.after at.shows
          (sym there.1);
    }

pub step_before : (s : SeenTour) (c : ℕ) (spot before : Spot) → SeesAt s c spot →
    ((v w : ℕ) → IsSpot s.segments.segments.items w spot → IsAfterPlace s.segments.size v w → IsSpot
    s.segments.segments.items v before) →
    Steps s prev_city c before
step_before s c spot before at step =
    let f = facts s in
    let b = before_place s.segments.size at.place at.inside in
    let is = step b.v at.place at.is b.after in
    let there = spot_is s b.v before is in
    let lv : b.v < s.segments.size =
    ⊎_elim (λ (h : (b.v + 1 < s.segments.size) × (at.place ≡ b.v + 1)). omega (arith, h))
    (λ (h : (b.v + 1 ≡ s.segments.size) × (at.place ≡ 0)). omega (arith, h)) b.after in
    record {
      in_array = there.0;
      sees = record { place = b.v; inside = lv; is = is; shows = there.1 };
      city = prev_begun s.segments.size s.begin b.v at.place c _ (seen_of s) f.tour s.begins lv at.inside b.after
          at.shows
          (sym there.1);
    }

-- the reversed sequence is a tour, wherever the list begins
pub reversed_tour : (s : SeenTour) (b first count : ℕ) (seen : List ℕ) →
    seen ≡ reversed_places first count (seen_of s) → IsSizedTour (begun_at b seen)
reversed_tour s b first count seen e =
    let f = facts s in
    let n : ℕ = s.segments.size in
    let P : List ℕ → Type 0 = λ u. IsTour n u in
    sized_tour n (begun_at b seen) f.small.0 f.small.1
    (tour_begun n b seen (subst P (sym e) (IsTour-reversed_places n first count (seen_of s) f.tour)))

pub reversed_round_tour : (s : SeenTour) (b e first count : ℕ) (seen : List ℕ) →
    seen ≡ reversed_places first count (begun_at e (seen_of s)) → IsSizedTour (begun_at b seen)
reversed_round_tour s b e first count seen h =
    let f = facts s in
    let n : ℕ = s.segments.size in
    let P : List ℕ → Type 0 = λ u. IsTour n u in
    sized_tour n (begun_at b seen) f.small.0 f.small.1
    (tour_begun n b seen
    (subst P (sym h)
    (IsTour-reversed_places n first count (begun_at e (seen_of s)) (tour_begun n e (seen_of s) f.tour))))

-- the list after a reversal that does not go past the end, and below after one that does
pub reversed_list : (s : SeenTour) (k first count : ℕ) (seen : List ℕ) →
    seen ≡ reversed_places first count (seen_of s) → k < length (list_of s) → first < s.segments.size →
    count ≤ s.segments.size →
    IsPlaceFrom (length (list_of s)) s.begin k first → begun_at s.begin seen ≡ reversed_places k count (list_of s)
reversed_list s k first count seen e lk lf lc h =
    let f = facts s in
    let P : ℕ → Type 0 = λ u. AtPlace u s.begin k first in
    turned_inside s.begin k first count (seen_of s) seen (omega (arith, f.seen, s.begins))
    (omega (arith, f.seen, f.list, lk)) (omega (arith, f.seen, lf)) (omega (arith, f.seen, lc))
    (subst P (f.list ∙ sym f.seen) h) e

pub reversed_round_list : (s : SeenTour) (b k first count e : ℕ) (seen : List ℕ) →
    seen ≡ reversed_places (first - e) count (begun_at e (seen_of s)) → k < length (list_of s) → first < s.segments.size
    →
    count ≤ s.segments.size →
    b < s.segments.size → e ≤ first → ((e ≤ s.begin) × (b ≡ s.begin - e))
    ⊎ ((s.begin < e) × (b ≡ s.begin + s.segments.size - e)) →
    IsPlaceFrom (length (list_of s)) s.begin k first → begun_at b seen ≡ reversed_places k count (list_of s)
reversed_round_list s b k first count e seen h lk lf lc lb le begin at =
    let f = facts s in
    let n : ℕ = s.segments.size in
    let P : ℕ → Type 0 = λ u. AtPlace u s.begin k first in
    let Q : ℕ → Type 0 = λ u. AtPlace u e b s.begin in
    let moved : AtPlace n e b s.begin = at_place n e b s.begin
    (⊎_elim
    (λ (a : (e ≤ s.begin) × (b ≡ s.begin - e)). inl (omega (arith, a, s.begins), omega (arith, a)))
    (λ (a : (s.begin < e) × (b ≡ s.begin + n - e)). inr (omega (arith, a, le, lf), omega (arith, a, le, lf)))
    begin) in
    turned_round s.begin b k first count e (seen_of s) (begun_at e (seen_of s)) seen (omega (arith, f.seen, s.begins))
    (omega (arith, f.seen, lb)) (omega (arith, f.seen, f.list, lk)) (omega (arith, f.seen, lf))
    (omega (arith, f.seen, lc))
    (omega (arith, f.seen, le, lf)) le (subst P (f.list ∙ sym f.seen) at) (subst Q (sym f.seen) moved) refl h

-- the list after the segments are rotated
pub begun_list : (s : SeenTour) (b v : ℕ) (seen : List ℕ) → seen ≡ begun_at v (seen_of s) → v < s.segments.size →
    ((v ≤ s.begin) × (b ≡ s.begin - v)) ⊎ ((s.begin < v) × (b ≡ s.begin + s.segments.size - v)) →
    (begun_at b seen ≡ list_of s) × (b < s.segments.size)
begun_list s b v seen e lv begin =
    let f = facts s in
    let n : ℕ = s.segments.size in
    let lb : b < n =
    ⊎_elim (λ (a : (v ≤ s.begin) × (b ≡ s.begin - v)). omega (arith, a, s.begins))
    (λ (a : (s.begin < v) × (b ≡ s.begin + n - v)). omega (arith, a, lv)) begin in
    let moved : AtPlace n v b s.begin = at_place n v b s.begin
    (⊎_elim
    (λ (a : (v ≤ s.begin) × (b ≡ s.begin - v)). inl (omega (arith, a, s.begins), omega (arith, a)))
    (λ (a : (s.begin < v) × (b ≡ s.begin + n - v)). inr (omega (arith, a, lv), omega (arith, a, lv)))
    begin) in
    let P : ℕ → Type 0 = λ u. AtPlace u v b s.begin in (
      ap (begun_at b) e
          ∙ begun_at-compose (seen_of s) v b s.begin (omega (arith, f.seen, lv)) (omega (arith, f.seen, lb))
          (omega (arith, f.seen, s.begins)) (subst P (sym f.seen) moved),
      lb,
    )

-- the position v in the sequence of position k of the list
pub seen_in : (s : SeenTour) (k v : ℕ) → k < length (list_of s) → IsPlaceFrom (length (list_of s)) s.begin k v →
    v < s.segments.size
seen_in s k v lk h =
    let f = facts s in
    ⊎_elim
    (λ (a : s.begin + k < length (list_of s)). omega (arith, h.0 a, a, f.list))
    (λ (a : length (list_of s) ≤ s.begin + k). omega (arith, h.1 a, a, f.list, s.begins, lk))
    (cases_lt (s.begin + k) (length (list_of s)))

pub list_at : (s : SeenTour) (k v c : ℕ) → k < length (list_of s) → IsPlaceFrom (length (list_of s)) s.begin k v →
    get_or (seen_of s) v 0 ≡ c → get_or (list_of s) k 0 ≡ c
list_at s k v c lk h e =
    let f = facts s in
    let P : ℕ → Type 0 = λ u. IsPlaceFrom u s.begin k v in
    stands_there s.segments.size s.begin k v c (seen_of s) f.seen s.begins (omega (arith, f.list, lk))
    (subst P f.list h) e

-- tours of the same size have arrays of the same size
pub size_again : (s t : SeenTour) → length (list_of t) ≡ length (list_of s) →
    length t.order.items ≡ length s.order.items
size_again s t e =
    let f = facts s in
    let g = facts t in
    omega (arith, e, f.list, f.order, g.list, g.order)
