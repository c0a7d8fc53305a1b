-- The pieces of the lines that writers put.
use Rattle.std.proofs.Common.{◌≡◌, ℕ, suc, ◌+◌, ◌<◌, List, [], ◌∷◌, ◌++◌, length, take, get_or, refl, ap, ◌∙◌, sym}
use Rattle.std.proofs.Common.{arith, append_assoc, append-nil}
use Rattle.std.specs.Prelude.{map, flat_map, codes, decimal}
use Rattle.std.proofs.lemmas.List.{take_more, map-append, length-map, length-take-le}
use Rattle.tk_writers.specs.TourWritten.{tour_head}
use Rattle.tk_writers.specs.SolutionWritten.{written_route, written_routes}
use Rattle.tk_writers.specs.Written.{line, spaced_numbers}

-- the pieces of the lines before a tour's cities
head_ends : (a name size t b c num d : List ℕ)
    → a ++ (name ++ ((46 ∷ []) ++ (size ++ ((t ++ 10 ∷ b) ++ (size ++ ((10 ∷ c) ++ (num ++ (10 ∷ d))))))))
    ≡ a
    ++ ((name ++ (46 ∷ []) ++ size ++ t ++ (10 ∷ []))
    ++ (b ++ ((size ++ 10 ∷ []) ++ (c ++ ((num ++ 10 ∷ []) ++ d)))))
head_ends a name size t b c num d = simp append_assoc

pub tour_head-pieces : (name : List ℕ) (size cities : ℕ)
    → codes "NAME : "
    ++ (name ++ (codes "." ++ (decimal size ++ ((codes ".tour" ++ 10 ∷ codes "COMMENT : Length = ") ++ (decimal size
    ++ ((10 ∷ codes "TYPE : TOUR" ++ 10 ∷ codes "DIMENSION : ")
    ++ (decimal cities ++ (10 ∷ codes "TOUR_SECTION" ++ 10 ∷ []))))))))
    ≡ flat_map line (tour_head name size cities)
tour_head-pieces name size cities =
    head_ends (codes "NAME : ") name (decimal size) (codes ".tour") (codes "COMMENT : Length = ")
    (codes "TYPE : TOUR" ++ 10 ∷ codes "DIMENSION : ") (decimal cities) (codes "TOUR_SECTION" ++ 10 ∷ [])

line_pieces : (a b c d : List ℕ) → a ++ (b ++ (c ++ d)) ≡ a ++ b ++ c ++ d
line_pieces a b c d = simp append_assoc

pub route_line-pieces : (number : ℕ) (customers : List ℕ)
    → codes "Route #" ++ (decimal number ++ (codes ": " ++ (spaced_numbers customers ++ (10 ∷ [])))) ≡ written_route
    number customers
route_line-pieces number customers =
    ap (λ l. codes "Route #" ++ l) (line_pieces (decimal number) (codes ": ") (spaced_numbers customers) (10 ∷ []))

pub route_lines_more : (number : ℕ) (rs : List (List ℕ)) (r : List ℕ) →
    written_routes number (rs ++ r ∷ []) ≡ written_routes number rs ++ written_route (number + length rs) r
route_lines_more number [] r =
    let e : number + 0 ≡ number = omega arith in
    rw (append-nil, e) refl
route_lines_more number (q ∷ rs) r =
    let e : number + 1 + length rs ≡ number + suc (length rs) = omega arith in
    rw (route_lines_more (number + 1) rs r, e)
    (sym (append_assoc (written_route number q) (written_routes (number + 1) rs) _))

-- one route more
pub route_lines_take : {X : Type 0} (items : X → List ℕ) (xs : List X) (i : ℕ) (x : X) (customers : List ℕ)
    → i < length xs → x ≡ get_or xs i x → customers ≡ items x
    → written_routes 1 (map items (take (i + 1) xs)) ≡ written_routes 1 (map items (take i xs))
    ++ written_route (i + 1) customers
route_lines_take items xs i x customers within is same =
    let before = map items (take i xs) in
    let count : 1 + length before ≡ i + 1 = simp length-map (omega (arith, length-take-le i xs (omega arith))) in
    let last = ap (λ y. map items (take i xs ++ y ∷ [])) (sym is) ∙ map-append items (take i xs) (x ∷ []) in
    ap (λ l. written_routes 1 (map items l)) (take_more xs i x within) ∙ ap (written_routes 1) last
    ∙ route_lines_more 1 before (items x)
    ∙ ap (λ k. written_routes 1 before ++ written_route k (items x)) count
    ∙ ap (λ l. written_routes 1 before ++ written_route (i + 1) l) (sym same)
