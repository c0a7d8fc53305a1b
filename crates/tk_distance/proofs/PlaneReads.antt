-- The places of cities, as a view of a list keeps them.
use Rattle.std.proofs.Common.{◌≡◌, ℕ, ◌*◌, ◌-◌, ◌<◌, ◌≤◌, List, length, get_or, ap, ◌∙◌, subst, sym, arith, Bor, pos}
use Rattle.std.proofs.Common.{All, ℤ, SFits, to_z, of_z, w64, ◌<ℤ◌, ◌↔◌}
use Rattle.std.proofs.lemmas.List.{get_or-map, length-map}
use Rattle.std.proofs.lemmas.Int.{ints, to_z-of_z}
use Rattle.std.specs.Int.RustNames.{unsigned_abs}
use Rattle.tk_problem.specs.declared.limits.TheConstants.{DISTANCE_LIMIT}
use Rattle.tk_problem.specs.declared.point.Point.{Point}
use Rattle.tk_problem.specs.declared.point.WholePoint.{WholePoint}
use Rattle.tk_problem.specs.declared.points.Places.{Places}
use Rattle.tk_problem.specs.declared.points.Places.TheVariants.{Whole, Fine}
use Rattle.tk_problem.specs.declared.weights.PlaneKind.{PlaneKind}
use Rattle.tk_problem.specs.declared.weights.PlaneKind.TheVariants.{Euc2d}
use Rattle.tk_problem.specs.declared.unit.Unit.{Unit}
use Rattle.tk_problem.specs.Places.{IsNearOrigin, origin}
use Rattle.tk_problem.specs.Units.{place_in, step_of}
use Rattle.tk_problem.specs.PlacesOf.{places_of}
use Rattle.tk_distance.specs.Cities.{IsCity}
use Rattle.tk_distance.specs.Distance.{IsDistanceOf, IsGreatest, RootReaches, gap, square_sum}
use Rattle.tk_distance.specs.Laws.Distances.{distance_at-is}
use Rattle.tk_distance.specs.Laws.Planes.{city_distance-limit, distance_of-unique, gap-in}
use Rattle.tk_distance.specs.PlaneOf.{city_place, city_distance, IsCityDistance}
use Rattle.tk_distance.proofs.ExactRoots.Units.{square-in}

city_place-whole : (places : Places) (unit : Unit) (ws : Bor (List WholePoint)) (c : ℕ) (p : WholePoint)
    → places ≡ Whole unit ws
    → IsCity (length (places_of places)) c → p ≡ get_or ws.now (c - 1) p →
    city_place (places_of places) c ≡ place_in unit p
city_place-whole places unit ws c p is city at =
    let same = ap places_of is in
    let long = ap length same in
    let inside : c - 1 < length ws.now = omega (arith, long, length-map ws.now (place_in unit)) in
    ap (λ ps. city_place ps c) same
    ∙ get_or-map (place_in unit) ws.now (c - 1) p origin inside
    ∙ ap (place_in unit) (sym at)

moved : (kind : PlaneKind) (p q r s : Point) (d : ℕ) → p ≡ r → q ≡ s → IsDistanceOf kind r s d → IsDistanceOf kind p q d
moved kind p q r s d a b is =
    subst (λ (x : Point). IsDistanceOf kind x q d) (sym a) (subst (λ (y : Point). IsDistanceOf kind r y d) (sym b) is)

pub whole_cities : (kind : PlaneKind) (places : Places) (unit : Unit) (ws : Bor (List WholePoint)) (a b : ℕ)
    (p q : WholePoint) (d : ℕ)
    → places ≡ Whole unit ws → IsCity (length (places_of places)) a → IsCity (length (places_of places)) b
    → p ≡ get_or ws.now (a - 1) p → q ≡ get_or ws.now (b - 1) q
    → IsDistanceOf kind (place_in unit p) (place_in unit q) d
    → IsCityDistance kind (places_of places) a b d
whole_cities kind places unit ws a b p q d is in_a in_b at_a at_b =
    moved kind _ _ _ _ d (city_place-whole places unit ws a p is in_a at_a)
    (city_place-whole places unit ws b q is in_b at_b)

-- the distance of two cities, of the places that they have in a list of whole ones
pub whole_city_distance : (kind : PlaneKind) (places : Places) (unit : Unit) (ws : Bor (List WholePoint)) (a b : ℕ)
    (p q : WholePoint)
    → places ≡ Whole unit ws → IsCity (length (places_of places)) a → IsCity (length (places_of places)) b
    → p ≡ get_or ws.now (a - 1) p → q ≡ get_or ws.now (b - 1) q
    → IsDistanceOf kind (place_in unit p) (place_in unit q) (city_distance kind (places_of places) a b)
whole_city_distance kind places unit ws a b p q is in_a in_b at_a at_b =
    moved kind _ _ _ _ _ (sym (city_place-whole places unit ws a p is in_a at_a))
    (sym (city_place-whole places unit ws b q is in_b at_b))
    (distance_at-is kind (gap (city_place (places_of places) a).x (city_place (places_of places) b).x)
    (gap (city_place (places_of places) a).y (city_place (places_of places) b).y))

pub fine_cities : (kind : PlaneKind) (places : Places) (ps : Bor (List Point)) (a b d : ℕ) → places ≡ Fine ps
    → IsCityDistance kind ps.now a b d
    → IsCityDistance kind (places_of places) a b d
fine_cities kind places ps a b d is =
    moved kind _ _ _ _ d (ap (λ v. city_place (places_of v) a) is) (ap (λ v. city_place (places_of v) b) is)

-- the distance of two cities, of the places that they have in a list of fine ones
pub fine_city_distance : (kind : PlaneKind) (places : Places) (ps : Bor (List Point)) (a b : ℕ) → places ≡ Fine ps
    → IsCityDistance kind ps.now a b (city_distance kind (places_of places) a b)
fine_city_distance kind places ps a b is =
    subst (λ (v : Places). IsCityDistance kind ps.now a b (city_distance kind (places_of v) a b)) (sym is)
    (distance_at-is kind (gap (city_place ps.now a).x (city_place ps.now b).x)
    (gap (city_place ps.now a).y (city_place ps.now b).y))

-- the distance of two cities as the code's signed number
pub signed_value : (kind : PlaneKind) (ps : List Point) (a b d : ℕ) → IsCityDistance kind ps a b d → d ≤ DISTANCE_LIMIT
    → to_z w64 d ≡ pos (city_distance kind ps a b)
signed_value kind ps a b d is low = let value = distance_of-unique kind (city_place ps a) (city_place ps b) d is in
    omega (arith, ints)

pub signed_distance : (kind : PlaneKind) (ps : List Point) (a b d : ℕ) → IsCityDistance kind ps a b d
    → d ≤ DISTANCE_LIMIT
    → IsCityDistance kind ps a b (unsigned_abs (to_z w64 d))
signed_distance kind ps a b d is low =
    let same : d ≡ unsigned_abs (to_z w64 d) = omega (arith, ints) in
    subst (λ (e : ℕ). IsCityDistance kind ps a b e) same is

-- what tells whether the distance of two cities is below a bound, where this stands for the code's signed limit
pub below_limit : (kind : PlaneKind) (ps : List Point) (a b bound : ℕ) (limit : ℤ) (T : Type 0) → All IsNearOrigin ps
    → SFits w64 limit
    → ((d : ℕ) → d ≤ DISTANCE_LIMIT → ((d < bound) ↔ (pos d <ℤ to_z w64 (of_z w64 limit))))
    → (T ↔ (city_distance kind ps a b < bound)) → (T ↔ (pos (city_distance kind ps a b) <ℤ limit))
below_limit kind ps a b bound limit T near fits is test =
    let d = city_distance kind ps a b in
    let at = subst (λ z. (d < bound) ↔ (pos d <ℤ z)) (to_z-of_z w64 limit fits)
    (is d (city_distance-limit kind ps near a b)) in
    (λ yes. at.0 (test.0 yes), λ below. test.1 (at.1 below))

-- the square of the distance of two places, from whole differences
square-between : (unit : Unit) (p q : WholePoint) (square : ℕ) → square ≡ square_sum (gap p.x q.x) (gap p.y q.y)
    → square_sum (gap (place_in unit p).x (place_in unit q).x) (gap (place_in unit p).y (place_in unit q).y) ≡ square *
    (step_of unit * step_of unit)
square-between unit p q square is =
    ap (λ g. square_sum g (gap (place_in unit p).y (place_in unit q).y)) (gap-in unit p.x q.x)
    ∙ ap (λ g. square_sum (gap p.x q.x * step_of unit) g) (gap-in unit p.y q.y)
    ∙ sym (square-in unit (gap p.x q.x) (gap p.y q.y))
    ∙ ap (λ s. s * (step_of unit * step_of unit)) (sym is)

-- the distance of EUC_2D, from the square of whole differences
pub whole_euclid : (kind : PlaneKind) (unit : Unit) (p q : WholePoint) (square d : ℕ) → kind ≡ Euc2d
    → square ≡ square_sum (gap p.x q.x) (gap p.y q.y)
    → IsGreatest (RootReaches (square * (step_of unit * step_of unit))) d →
    IsDistanceOf kind (place_in unit p) (place_in unit q) d
whole_euclid kind unit p q square d euclid is nearest =
    let there : IsDistanceOf Euc2d (place_in unit p) (place_in unit q) d =
    subst (λ (s : ℕ). IsGreatest (RootReaches s) d) (sym (square-between unit p q square is)) nearest in
    subst (λ (k : PlaneKind). IsDistanceOf k (place_in unit p) (place_in unit q) d) (sym euclid) there

-- the distance of EUC_2D is the rounded root of the square of whole differences
pub euclid_root : (kind : PlaneKind) (unit : Unit) (p q : WholePoint) (square d : ℕ) → kind ≡ Euc2d
    → square ≡ square_sum (gap p.x q.x) (gap p.y q.y)
    → IsDistanceOf kind (place_in unit p) (place_in unit q) d →
    IsGreatest (RootReaches (square * (step_of unit * step_of unit))) d
euclid_root kind unit p q square d euclid is distance =
    let there : IsDistanceOf Euc2d (place_in unit p) (place_in unit q) d =
    subst (λ (k : PlaneKind). IsDistanceOf k (place_in unit p) (place_in unit q) d) euclid distance in
    subst (λ (s : ℕ). IsGreatest (RootReaches s) d) (square-between unit p q square is) there
