-- Kicks of a ring.
--     IsKick n kick      a kick of a ring of n elements
--     drawn_kick n s      the kick drawn from a random stream
--     ends_of kick ring      the first and the last element of each part
--     kicked kick ring      the ring after the kick
--     is_within q demands ring      whether no route has more than the capacity q
use Rattle.std.specs.Prelude.{Bool, ℕ, ◌+◌, ◌-◌, ◌/◌, ◌≤◌, min, List, length, map}
use Rattle.rand_core.specs.Stream.{Stream}
use Rattle.tk_distance.specs.Cities.{IsCity, city_at}
use Rattle.tk_tour.specs.Reversal.{begun_at}
use Rattle.tk_rings.specs.Capacities.{demand_in, is_copy}
use Rattle.tk_rings.specs.Rings.{fits}
use Rattle.tk_search.specs.Cuts.{AreCuts, bridged, drawn_between, end_places}
use Rattle.tk_ring_search.specs.declared.kicks.kick.Kick.{Kick}

-- none of the four parts is empty, and the first three have at most 10 elements
pub record IsKick (n : ℕ) (kick : Kick) : Type 0 where
  pub first : IsCity n kick.first
  pub cuts : AreCuts n kick.cuts
  pub b : kick.cuts.p ≤ 10
  pub c : kick.cuts.q ≤ kick.cuts.p + 10
  pub d : kick.cuts.r ≤ kick.cuts.q + 10

-- the most elements of each of the first three parts
abbrev pub longest : ℕ → ℕ
longest n = min 10 ((n - 1) / 3)

-- the position from 1 to n, then the three lengths, and the rest of the stream
abbrev pub drawn_kick : ℕ → Stream → Kick × Stream
drawn_kick n s =
    let first = drawn_between 1 n s in
    let b = drawn_between 1 (longest n) first.1 in
    let c = drawn_between 1 (longest n) b.1 in
    let d = drawn_between 1 (longest n) c.1 in
    (record { first = first.0; cuts = record { p = b.0; q = b.0 + c.0; r = b.0 + c.0 + d.0 } }, d.1)

-- the ring as it is read from the first part on
abbrev pub read_from : Kick → List ℕ → List ℕ
read_from kick ring = begun_at (kick.first - 1) ring

abbrev pub ends_of : Kick → List ℕ → List ℕ
ends_of kick ring = map (city_at (read_from kick ring)) (end_places (length ring) kick.cuts)

-- the double bridge: the second part and the fourth are swapped
abbrev pub kicked : Kick → List ℕ → List ℕ
kicked kick ring = bridged kick.cuts (read_from kick ring)

-- no route of a ring has more than the capacity
abbrev pub is_within : ℕ → List ℕ → List ℕ → Bool
is_within q demands ring = fits q (demand_in demands) (is_copy demands) ring
