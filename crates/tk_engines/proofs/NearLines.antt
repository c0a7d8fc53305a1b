-- How long the text of near lists is at most.
use Rattle.std.proofs.Common.{ℕ, ◌+◌, ◌-◌, ◌*◌, ◌^◌, ◌≤◌, List, [], ◌∷◌, ◌++◌, length, drop, arith, length-append}
use Rattle.std.proofs.Common.{subst}
use Rattle.std.specs.Prelude.{flat_map, codes, decimal}
use Rattle.std.specs.List.{range_with_len}
use Rattle.std.proofs.lemmas.List.FromFn.{length-range_with_len}
use Rattle.std.proofs.lemmas.List.{length-take}
use Rattle.tk_problem.specs.declared.limits.TheConstants.{CANDIDATE_LIMIT, CITY_LIMIT}
use Rattle.tk_near.specs.Near.{NearLists, near_of}
use Rattle.tk_writers.specs.Written.{near_line, spaced_numbers}
use Rattle.tk_writers.proofs.Pieces.NumberLengths.{length_decimal, length_flat_map}
use Rattle.tk_engines.specs.NearText.{near_text}

length_spaced : (xs : List ℕ) → length (spaced_numbers xs) ≤ length xs * 65
length_spaced [] = omega arith
length_spaced (x ∷ xs) =
    let rest = length_flat_map (λ y. codes " " ++ decimal y) 65 (λ y. omega (arith, length_decimal y)) xs in
    omega (arith, length_decimal x, length-append (decimal x) (flat_map (λ y. codes " " ++ decimal y) xs))

length_near_line : (city : ℕ) (near : List ℕ) → length (near_line city near) ≤ 80 + length near * 65
length_near_line city near =
    let digits = length_decimal city in
    let row = length_spaced near in
    simp length-append (omega arith)

pub length_near_text : (v : NearLists) → v.size ≤ CITY_LIMIT → v.width ≤ CANDIDATE_LIMIT → length (near_text v) ≤ 2 ^ 63
length_near_text v few narrow =
    let line : ℕ → List ℕ = λ c. near_line c (near_of v c) in
    let short : (c : ℕ) → length (line c) ≤ 6580 = λ c.
    omega (arith, length_near_line c (near_of v c), length-take v.width (drop ((c - 1) * v.width) v.entries), narrow) in
    let lines = length_flat_map line 6580 short (range_with_len 1 v.size) in
    let count = length-range_with_len 1 v.size in
    let size : length (near_text v) ≤ v.size * 6580 = subst (λ m. length (near_text v) ≤ m * 6580) count lines in
    omega (arith, size, few)
