-- Cuts of a tour into four parts.
--     AreCuts n cuts      none of the four parts of n positions is empty
--     drawn_cuts n s      the cuts drawn from a random stream
--     end_places n cuts      the first and the last position of each part
--     steps_between d cities      the sum of four edge lengths
--     steps_out d ends, steps_in d ends      the lengths of the edges that the double bridge removes and adds
--     kick_swaps n cuts      the swaps of its flips
--     bridged cuts cities      the double bridge (O. Martin, S. W. Otto and E. W. Felten, 1991)
use Rattle.std.specs.Prelude.{ℕ, ◌+◌, ◌-◌, ◌/◌, ◌^◌, ◌≤◌, ◌<◌, min, List, [], ◌∷◌, ◌++◌, take, drop, slice_index}
use Rattle.rand_core.specs.Stream.{Stream, next_u32}
use Rattle.rand.specs.Draw.{draw_map}
use Rattle.rand.specs.Uniform.{canon}
use Rattle.tk_search.specs.declared.double_bridges.cuts.Cuts.{Cuts}

-- each cut is after the previous one and before the end, so that no part is empty
pub record AreCuts (n : ℕ) (cuts : Cuts) : Type 0 where
  pub first : 1 ≤ cuts.p
  pub second : cuts.p < cuts.q
  pub third : cuts.q < cuts.r
  pub last : cuts.r < n

-- a number from low to high, drawn from words of 32 bits, and the rest of the stream
abbrev pub drawn_between : ℕ → ℕ → Stream → ℕ × Stream
drawn_between low high = draw_map (λ k. low + k) (canon (2 ^ 32) next_u32 (high - low + 1))

-- p from 1 to n - 3, then q from p + 1 to n - 2, then r from q + 1 to n - 1, and the rest of the stream
abbrev pub drawn_cuts : ℕ → Stream → Cuts × Stream
drawn_cuts n s =
    let p = drawn_between 1 (n - 3) s in
    let q = drawn_between (p.0 + 1) (n - 2) p.1 in
    let r = drawn_between (q.0 + 1) (n - 1) q.1 in
    (record { p = p.0; q = q.0; r = r.0 }, r.1)

-- the first and the last position of each of the four parts of n positions, counted from 1
abbrev pub end_places : ℕ → Cuts → List ℕ
end_places n cuts = 1 ∷ cuts.p ∷ (cuts.p + 1) ∷ cuts.q ∷ (cuts.q + 1) ∷ cuts.r ∷ (cuts.r + 1) ∷ n ∷ []

-- the parts A, B, C and D of the cities A ++ B ++ C ++ D
abbrev pub part_a : Cuts → List ℕ → List ℕ
part_a cuts cities = take cuts.p cities

abbrev pub part_b : Cuts → List ℕ → List ℕ
part_b cuts cities = drop cuts.p (take cuts.q cities)

abbrev pub part_c : Cuts → List ℕ → List ℕ
part_c cuts cities = drop cuts.q (take cuts.r cities)

abbrev pub part_d : Cuts → List ℕ → List ℕ
part_d cuts cities = drop cuts.r cities

-- the double bridge: the second part and the fourth are swapped
abbrev pub bridged : Cuts → List ℕ → List ℕ
bridged cuts cities = part_a cuts cities ++ part_d cuts cities ++ part_c cuts cities ++ part_b cuts cities

-- the swaps that reverse k of n positions, or the others if these are fewer
abbrev pub turn_swaps : ℕ → ℕ → ℕ
turn_swaps n k = min k (n - k) / 2

-- the swaps of the four flips of a double bridge: each reverses one part, or all others
abbrev pub kick_swaps : ℕ → Cuts → ℕ
kick_swaps n cuts =
    turn_swaps n cuts.p + turn_swaps n (cuts.q - cuts.p) + turn_swaps n (cuts.r - cuts.q) + turn_swaps n (n - cuts.r)

-- the length of the edges from the first of eight cities to the second, from the third to the fourth, and so on
abbrev pub steps_between : (ℕ → ℕ → ℕ) → List ℕ → ℕ
steps_between d cities =
    let e : ℕ → ℕ = slice_index cities in
    d (e 0) (e 1) + d (e 2) (e 3) + d (e 4) (e 5) + d (e 6) (e 7)

-- the length of the edges that the double bridge removes, and below of those that it adds, by the first and the last
-- city of each part
abbrev pub steps_out : (ℕ → ℕ → ℕ) → List ℕ → ℕ
steps_out d ends =
    let e : ℕ → ℕ = slice_index ends in
    d (e 1) (e 2) + d (e 3) (e 4) + d (e 5) (e 6) + d (e 7) (e 0)

abbrev pub steps_in : (ℕ → ℕ → ℕ) → List ℕ → ℕ
steps_in d ends =
    let e : ℕ → ℕ = slice_index ends in
    d (e 1) (e 6) + d (e 7) (e 4) + d (e 5) (e 2) + d (e 3) (e 0)
