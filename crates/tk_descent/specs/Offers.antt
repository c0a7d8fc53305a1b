-- The offers of a city: the moves that a look tries, in order.
--     gain dist o      the gain of an offer, from four or six distances
--     Makes m o old new      the move of the offer o makes the cycle new of the cycle old
--     offers C m near x      the offers of x on the cycle C
--     first_gain dist os, tests_to dist os      the first offer with positive gain, and the number of tests up to it
--     first_allowed dist may os, tests_until dist may os      the first that is also allowed, and the number of tests
use Rattle.std.specs.Prelude.{◌≡◌, ℕ, suc, ℤ, pos, ◌-ℤ◌, ◌+◌, Bool, take, option_map, IfSome, ◌||◌, ◌&&◌, nat_lt}
use Rattle.std.specs.Prelude.{nat_le, List, [], ◌∷◌, ◌++◌, ◌==◌, if◌then◌else◌, length, true, Option, Some, None}
use Rattle.std.specs.Prelude.{flat_map}
use Rattle.tk_distance.specs.Cities.{IsCity}
use Rattle.tk_near.specs.Near.{NearLists, near_of}
use Rattle.tk_tour.specs.Counters.{saturated}
use Rattle.tk_tour.specs.Moves.{TwoOptMove, OrMove}
use Rattle.tk_tour.specs.Tour.{next_city, prev_city, tour_length}
use Rattle.tk_descent.specs.declared.offer.Offer.{Offer}
use Rattle.tk_descent.specs.declared.offer.Segment.{Segment}
use Rattle.tk_descent.specs.declared.offer.Found.{Found}
use Rattle.tk_descent.specs.declared.offer.Offer.TheVariants.{Two, Or}

-- the sum of the lengths of the edges that an offer removes
abbrev pub removed : (ℕ → ℕ → ℕ) → Offer → ℕ
removed dist (Two a b c d) = dist a b + dist c d
removed dist (Or a x e b y w) = dist a x + dist e b + dist y w

-- the sum of the lengths of the edges that an offer adds
abbrev pub added : (ℕ → ℕ → ℕ) → Offer → ℕ
added dist (Two a b c d) = dist a c + dist b d
added dist (Or a x e b y w) = dist a b + dist x y + dist e w

abbrev pub gain : (ℕ → ℕ → ℕ) → Offer → ℤ
gain dist o = pos (removed dist o) -ℤ pos (added dist o)

abbrev pub improves : (ℕ → ℕ → ℕ) → Offer → Bool
improves dist o = nat_lt (added dist o) (removed dist o)

-- the cities that a move wakes, in order
abbrev pub ends : Offer → List ℕ
ends (Two a b c d) = a ∷ b ∷ c ∷ d ∷ []
ends (Or a x e b y w) = x ∷ a ∷ e ∷ b ∷ y ∷ w ∷ []

-- the move of the offer makes the cycle new of the cycle old; the segment of an Or-opt move has at most m cities
abbrev pub Makes : ℕ → Offer → List ℕ → List ℕ → Type 0
Makes m (Two a b c d) old new = TwoOptMove old new a b c d
Makes m (Or a x e b y w) old new = OrMove m old new a x e b y w

-- by how much the cycle D is shorter than C
abbrev pub shortening : (ℕ → ℕ → ℕ) → List ℕ → List ℕ → ℤ
shortening dist C D = pos (tour_length dist C) -ℤ pos (tour_length dist D)

-- c is in the segment s, which begins at x. Its cities are x, `middle` and `last`, some of which may be equal.
abbrev pub covers : ℕ → Segment → ℕ → Bool
covers x s c = (c == x) || (c == s.middle) || (c == s.last)

abbrev pub segment_of_one : (ℕ → ℕ) → (ℕ → ℕ) → ℕ → Segment
segment_of_one ahead back x = record { before = back x; middle = x; last = x; after = ahead x }

abbrev pub segment_of_two : (ℕ → ℕ) → (ℕ → ℕ) → ℕ → Segment
segment_of_two ahead back x = record { before = back x; middle = x; last = ahead x; after = ahead (ahead x) }

abbrev pub segment_of_three : (ℕ → ℕ) → (ℕ → ℕ) → ℕ → Segment
segment_of_three ahead back x =
    record { before = back x; middle = ahead x; last = ahead (ahead x); after = ahead (ahead (ahead x)) }

-- The number of segments from a city: they have at most m cities and at most n - 2. One has one city, and there are two
-- of each greater length.
abbrev pub segment_count : ℕ → ℕ → ℕ
segment_count n m =
    if nat_le 5 n && nat_le 3 m then 5 else (if nat_le 4 n && nat_le 2 m then 3 else (if nat_le 3 n then 1 else 0))

-- the segments that begin at x: one city, then two cities forwards and backwards, then three forwards and backwards
abbrev pub all_segments : (ℕ → ℕ) → (ℕ → ℕ) → ℕ → List Segment
all_segments next prev x =
    segment_of_one next prev x ∷ segment_of_two next prev x ∷ segment_of_two prev next x ∷ segment_of_three next prev x
    ∷ segment_of_three prev next x ∷ []

abbrev pub segments : (ℕ → ℕ) → (ℕ → ℕ) → ℕ → ℕ → ℕ → List Segment
segments next prev n m x = take (segment_count n m) (all_segments next prev x)

-- the Or-opt offer of a segment between y and w, if neither lies in the segment
abbrev pub or_offer : ℕ → ℕ → Segment → ℕ → List Offer
or_offer x y s w = if covers x s y || covers x s w then [] else Or s.before x s.last s.after y w ∷ []

abbrev pub or_offers : ℕ → ℕ → ℕ → ℕ → Segment → List Offer
or_offers x y after_y before_y s = or_offer x y s after_y ++ or_offer x y s before_y

-- the offers of x with y
abbrev pub offers_with : (ℕ → ℕ) → (ℕ → ℕ) → List Segment → ℕ → ℕ → List Offer
offers_with next prev ss x y =
    Two x (next x) y (next y) ∷ Two x (prev x) y (prev y) ∷ flat_map (or_offers x y (next y) (prev y)) ss

-- the offers of x with y on a cycle
abbrev pub offers_between : List ℕ → ℕ → ℕ → ℕ → List Offer
offers_between C m x =
    offers_with (next_city C) (prev_city C) (segments (next_city C) (prev_city C) (length C) m x) x

-- the offers of x on a cycle, with its near cities
abbrev pub offers : List ℕ → ℕ → List ℕ → ℕ → List Offer
offers C m near x = flat_map (offers_between C m x) near

-- the offer is allowed and has positive gain
abbrev pub is_taken : (ℕ → ℕ → ℕ) → (Offer → Bool) → Offer → Bool
is_taken dist may o = may o && improves dist o

-- the first offer that is allowed and has positive gain
abbrev pub first_allowed : (ℕ → ℕ → ℕ) → (Offer → Bool) → List Offer → Option Offer
first_allowed dist may [] = None
first_allowed dist may (o ∷ os) = if is_taken dist may o then Some o else first_allowed dist may os

-- the position of that offer, counted from 1, or the length of the list if there is none
abbrev pub tests_until : (ℕ → ℕ → ℕ) → (Offer → Bool) → List Offer → ℕ
tests_until dist may [] = 0
tests_until dist may (o ∷ os) = if is_taken dist may o then 1 else suc (tests_until dist may os)

-- every offer is allowed
abbrev pub any : Offer → Bool
any o = true

-- every offer is allowed on every cycle
abbrev pub everything : List ℕ → Offer → Bool
everything C = any

-- the first offer with positive gain
abbrev pub first_gain : (ℕ → ℕ → ℕ) → List Offer → Option Offer
first_gain dist os = first_allowed dist any os

-- the position of that offer, counted from 1, or the length of the list if there is none
abbrev pub tests_to : (ℕ → ℕ → ℕ) → List Offer → ℕ
tests_to dist os = tests_until dist any os

-- the offers of x on a cycle, with the cities of its near list
abbrev pub offers_at : List ℕ → ℕ → NearLists → ℕ → List Offer
offers_at C m near x = offers C m (near_of near x) x

-- A search of a list up to its first offer that is allowed and has positive gain. The numbers of tests before and after
-- it are t and u.
pub record Searched (dist : ℕ → ℕ → ℕ) (may : Offer → Bool) (os : List Offer) (r : Option Found) (t u : ℕ) :
    Type 0 where
  pub found : option_map (λ f. f.offer) r ≡ first_allowed dist may os
  pub worth : IfSome r (λ f. f.gain ≡ gain dist f.offer)
  pub tests : u ≡ saturated (t + tests_until dist may os)

abbrev pub IsSegmentIn : ℕ → Segment → Type 0
IsSegmentIn n s = IsCity n s.before × IsCity n s.last × IsCity n s.after

abbrev pub EndsIn : ℕ → Offer → Type 0
EndsIn n (Two a b c d) = IsCity n a × IsCity n b × IsCity n c × IsCity n d
EndsIn n (Or a x e b y w) = IsCity n a × IsCity n x × IsCity n e × IsCity n b × IsCity n y × IsCity n w
