-- The segments of an array, and the sequence that they show.
--     shown order segments      the sequence: the entries that the segments show, one after another
--     AreLaidOut n segments      each segment is a range of an array of n positions, and starts where the previous one
-- ends
--     IsSpot segments v spot      the spot is position v of the sequence
--     AreNamed segments home      `home` has the index of each segment at its id
--     CanBeFound n bucket segments table      the segment of an array position is found by the table and by ids
use Rattle.std.specs.Prelude.{◌≡◌, ◌≢◌, ℕ, ◌+◌, ◌-◌, ◌*◌, ◌<◌, ◌≤◌, ◌⊎◌, List, [], ◌∷◌, ◌++◌, true, false, length}
use Rattle.std.specs.Prelude.{reverse, take, drop, not, if◌then◌else◌, slice_index, slice_index_or, sum_by}
use Rattle.std.specs.List.{flat_map, All}
use Rattle.tk_segments.specs.declared.segment.Segment.{Segment}
use Rattle.tk_segments.specs.declared.spots.Spot.{Spot}

-- the entries from position low to high - 1
abbrev pub stretch : ℕ → ℕ → List ℕ → List ℕ
stretch low high order = take (high - low) (drop low order)

-- the entries that a segment shows
abbrev pub shown_by : List ℕ → Segment → List ℕ
shown_by order segment = if segment.back then reverse (stretch segment.low segment.high order) else stretch segment.low
    segment.high order

-- the sequence: the entries that the segments show, one after another
abbrev pub shown : List ℕ → List Segment → List ℕ
shown order segments = flat_map (shown_by order) segments

-- the number of positions in a segment
abbrev pub segment_size : Segment → ℕ
segment_size segment = segment.high - segment.low

-- the number of positions in the first i segments
abbrev pub size_before : ℕ → List Segment → ℕ
size_before i segments = sum_by segment_size (take i segments)

-- for each array of at least n entries, f turns the sequence of the old segments into that of the new ones
abbrev pub Shows : ℕ → (List ℕ → List ℕ) → List Segment → List Segment → Type 0
Shows n f old new = (order : List ℕ) → n ≤ length order → shown order new ≡ f (shown order old)

-- the array position that a segment reads d positions after its first one
abbrev pub shown_place : Segment → ℕ → ℕ
shown_place segment d = if segment.back then segment.high - 1 - d else segment.low + d

-- the segment is a range of an array of n positions, and not empty
abbrev pub IsWithin : ℕ → Segment → Type 0
IsWithin n segment = (segment.low < segment.high) × (segment.high ≤ n)

-- a segment read in the other direction
abbrev pub turned_segment : Segment → Segment
turned_segment segment = record segment { back = not segment.back }

-- segments, one after another, the first of them at position v of the sequence
abbrev pub placed : ℕ → List Segment → List Segment
placed v [] = []
placed v (segment ∷ segments) = record segment { start = v } ∷ placed (v + segment_size segment) segments

-- the segments have n positions in all, and each starts where the previous one ends
pub record AreLaidOut (n : ℕ) (segments : List Segment) : Type 0 where
  pub within : All (IsWithin n) segments
  pub starts : segments ≡ placed 0 segments
  pub whole : sum_by segment_size segments ≡ n

-- the spot is position v of the sequence
pub record IsSpot (segments : List Segment) (v : ℕ) (spot : Spot) : Type 0 where
  pub index_in : spot.index < length segments
  pub from : sum_by segment_size (take spot.index segments) ≤ v
  pub to : v < sum_by segment_size (take (spot.index + 1) segments)
  pub place_is : (d : Segment) →
      spot.place ≡ shown_place (slice_index_or segments spot.index d)
      (v - sum_by segment_size (take spot.index segments))

-- w comes right after v among n positions on a cycle
abbrev pub IsAfterPlace : ℕ → ℕ → ℕ → Type 0
IsAfterPlace n v w = ((v + 1 < n) × (w ≡ v + 1)) ⊎ ((v + 1 ≡ n) × (w ≡ 0))

-- the ids of the segments are distinct, and each is less than their number
pub record HaveNames (segments : List Segment) : Type 0 where
  pub less : (k : ℕ) (d : Segment) → k < length segments → (slice_index_or segments k d).id < length segments
  pub apart : (j k : ℕ) (d : Segment) → j < k → k < length segments →
      (slice_index_or segments j d).id ≢ (slice_index_or segments k d).id

-- `home` has the index of each of the first k segments at its id
abbrev pub AreNamedTo : ℕ → List Segment → List ℕ → Type 0
AreNamedTo k segments home =
    (j : ℕ) (d : Segment) → j < k → j < length segments → slice_index home (slice_index_or segments j d).id ≡ j

-- `home` has the index of each segment at its id
abbrev pub AreNamed : List Segment → List ℕ → Type 0
AreNamed segments home =
    (k : ℕ) (d : Segment) → k < length segments →
    ((slice_index_or segments k d).id < length segments) × (slice_index home (slice_index_or segments k d).id ≡ k)

-- the first k segments have kept their ids
abbrev pub SameBefore : ℕ → List Segment → List Segment → Type 0
SameBefore k old new =
    (k ≤ length old)
    × ((j : ℕ) (d : Segment) → j < k → (slice_index_or new j d).id ≡ (slice_index_or old j d).id)

-- a segment has this id, and begins at position low of the array
abbrev pub Names : List Segment → ℕ → ℕ → Type 0
Names segments id low =
    (k : ℕ) × (k < length segments)
    × ((d : Segment) → ((slice_index_or segments k d).id ≡ id) × ((slice_index_or segments k d).low ≡ low))

-- a segment has this id, and contains this array position
abbrev pub Holds : List Segment → ℕ → ℕ → Type 0
Holds segments id place =
    (k : ℕ) × (k < length segments)
    × ((d : Segment) → ((slice_index_or segments k d).id ≡ id) × ((slice_index_or segments k d).low ≤ place)
    × (place < (slice_index_or segments k d).high))

-- the array position is in the segment
abbrev pub IsIn : Segment → ℕ → Type 0
IsIn segment place = (segment.low ≤ place) × (place < segment.high)

-- no array position is in two segments
abbrev pub AreApart : List Segment → Type 0
AreApart segments =
    (j k place : ℕ) (d : Segment) → j < length segments → k < length segments →
    IsIn (slice_index_or segments j d) place → IsIn (slice_index_or segments k d) place → j ≡ k

-- No array position is in two segments. Each segment has the id of the one with the position after its last. The table
-- has an id for each bucket of positions: that of the segment with the first of them.
pub record CanBeFound (n bucket : ℕ) (segments : List Segment) (table : List ℕ) : Type 0 where
  pub apart : AreApart segments
  pub next : (k : ℕ) (d : Segment) → k < length segments → (slice_index_or segments k d).high < n →
      Names segments (slice_index_or segments k d).next (slice_index_or segments k d).high
  pub early : (b : ℕ) → b < length table → b * bucket < n → Holds segments (slice_index table b) (b * bucket)

-- segments that have changed: they are laid out, and if they had ids and were found before, they still have ids and are
-- found
pub record StayFound (n bucket : ℕ) (old new : List Segment) (old_table table : List ℕ) : Type 0 where
  pub laid : AreLaidOut n new
  pub names : HaveNames old → HaveNames new
  pub found : CanBeFound n bucket old old_table → CanBeFound n bucket new table
  pub table_size : length table ≡ length old_table

-- like `Names`, and below `Holds` and `CanBeFound`, but `home` has the index of each id
abbrev pub StandsAs : List Segment → List ℕ → ℕ → ℕ → Type 0
StandsAs segments home id low =
    (slice_index home id < length segments)
    × ((d : Segment) → ((slice_index_or segments (slice_index home id) d).id ≡ id)
    × ((slice_index_or segments (slice_index home id) d).low ≡ low))

abbrev pub HoldsAs : List Segment → List ℕ → ℕ → ℕ → Type 0
HoldsAs segments home id place =
    (slice_index home id < length segments)
    × ((d : Segment) → ((slice_index_or segments (slice_index home id) d).id ≡ id)
    × ((slice_index_or segments (slice_index home id) d).low ≤ place)
    × (place < (slice_index_or segments (slice_index home id) d).high))

pub record AreFound (n bucket : ℕ) (segments : List Segment) (home table : List ℕ) : Type 0 where
  pub apart : AreApart segments
  pub next : (k : ℕ) (d : Segment) → k < length segments → (slice_index_or segments k d).high < n →
      StandsAs segments home (slice_index_or segments k d).next (slice_index_or segments k d).high
  pub early : (b : ℕ) → b < length table → b * bucket < n → HoldsAs segments home (slice_index table b) (b * bucket)

-- the table has the id of the segment for the buckets that begin in it, and has not changed for the others
pub record IsNoted (bucket : ℕ) (segment : Segment) (old new : List ℕ) : Type 0 where
  pub size : length new ≡ length old
  pub inside : (b : ℕ) → b < length old → segment.low ≤ b * bucket → b * bucket < segment.high → slice_index new b ≡
      segment.id
  pub others : (b : ℕ) → (b * bucket < segment.low) ⊎ (segment.high ≤ b * bucket) → slice_index new b ≡ slice_index old
      b

-- a segment split at array position q: the part with the lower positions keeps the id, and the other one gets this id
pub record ArePartsAt (q id : ℕ) (segment low high : Segment) : Type 0 where
  pub low_is : (low.low ≡ segment.low) × (low.high ≡ q) × (low.back ≡ segment.back) × (low.id ≡ segment.id) ×
      (low.next ≡ id)
  pub high_is : (high.low ≡ q) × (high.high ≡ segment.high) × (high.back ≡ segment.back) × (high.id ≡ id)
      × (high.next ≡ segment.next)
  pub inside : (segment.low < q) × (q < segment.high)

-- two neighbours in the array are the parts of one segment, and the part with the higher positions has this id
abbrev pub AreParts : ℕ → Segment → Segment → Type 0
AreParts id low high = (low.back ≡ high.back) × (low.high ≡ high.low) × (low.next ≡ id) × (high.id ≡ id)

-- the first and the second part of a segment; the second begins d positions after the first
pub record AreSeenParts (d id : ℕ) (segment one two : Segment) : Type 0 where
  pub ahead : segment.back ≡ false → ArePartsAt (segment.low + d) id segment one two
  pub behind : segment.back ≡ true → ArePartsAt (segment.high - d) id segment two one
  pub starts : (one.start ≡ segment.start) × (two.start ≡ segment.start + d)

-- the k-th segment is split in two
pub record IsSplit (old new : List Segment) (k d : ℕ) : Type 0 where
  pub segment : Segment
  pub one : Segment
  pub two : Segment
  pub segment_is : segment ≡ slice_index_or old k segment
  pub parts : AreSeenParts d (length old) segment one two
  pub list : new ≡ take k old ++ (one ∷ two ∷ drop (k + 1) old)
