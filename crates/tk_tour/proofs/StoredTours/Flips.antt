-- A flip of an array: the positions that it reverses, and the effect on the cycle.
use Rattle.std.proofs.Common.{◌≡◌, ◌≢◌, ℕ, ◌+◌, ◌-◌, ◌<◌, ◌≤◌, ◌⊎◌, ⊎_elim, inl, inr, List, ◌++◌, length, take, drop}
use Rattle.std.proofs.Common.{refl, sym, ap, ◌∙◌, subst, arith, get_or}
use Rattle.std.proofs.lemmas.Bool.{cases_lt}
use Rattle.tk_tour.specs.Reversal.{begun_at, reversed_front, reversed_places, IsInverse}
use Rattle.tk_tour.specs.Tour.{IsTour, IsSizedTour, SameCycle, next_city, prev_city}
use Rattle.tk_tour.specs.Moves.{AreForward, IsShorterSide, CanFlip, ReplacesSteps}
use Rattle.tk_tour.specs.Places.{PathLength}
use Rattle.tk_distance.specs.Cities.{IsCity}
use Rattle.std.specs.Prelude.{reverse}
use Rattle.std.proofs.lemmas.List.{take-append-drop}
use Rattle.tk_tour.specs.Tour.{occurrences}
use Rattle.std.proofs.lemmas.List.{reverse-append, reverse-reverse, length-reverse}
use Rattle.tk_tour.proofs.Cycle.{SameCycle-trans, IsRotation-append, IsPath-reverse}
use Rattle.tk_tour.proofs.DistinctCycles.{occurrences-rotation, occurrences-append, occurrences-reverse}
use Rattle.tk_tour.proofs.DistinctCycles.{ReplacesSteps-turn}
use Rattle.tk_tour.proofs.DistinctCycles.{ReplacesSteps-mirror}
use Rattle.tk_tour.proofs.Tours.{HoldsOnce-tour, city_at_place, next_city-inside, next_city-end, prev_city-inside}
use Rattle.tk_tour.proofs.Tours.{prev_city-start, city_in_range}
use Rattle.tk_tour.proofs.StoredTours.Places.{IsRotation-begun_at, length-reversed_places, AtPlace, get_or-begun_at}
use Rattle.tk_tour.proofs.StoredTours.Places.{SidesAre, path_reversed}

-- position q comes right after p, modulo n
abbrev pub IsAfter : ℕ → ℕ → ℕ → Type 0
IsAfter n p q = ((p + 1 < n) × (q ≡ p + 1)) ⊎ ((p + 1 ≡ n) × (q ≡ 0))

pub place_is : (order place : List ℕ) (k c : ℕ) → IsInverse order place → k < length order → c ≡ get_or order k 0 →
    get_or place (c - 1) 0 ≡ k
place_is order place k c inverse lt e = ap (λ v. get_or place (v - 1) 0) e ∙ (inverse.1 k lt).2

pub place_after : (order place : List ℕ) (a b : ℕ) → IsTour (length order) order → IsInverse order place →
    IsCity (length order) a → b ≡ next_city order a →
    IsAfter (length order) (get_or place (a - 1) 0) (get_or place (b - 1) 0)
place_after order place a b tour inverse ca e =
    let at_a = city_at_place order place a tour inverse ca.0 ca.1 in
    let p : ℕ = get_or place (a - 1) 0 in
    let once = HoldsOnce-tour (length order) order tour in
    let e' : b ≡ next_city order (get_or order p 0) = e ∙ ap (next_city order) (sym at_a.1) in
    ⊎_elim
    (λ (lt : p + 1 < length order). inl
    (lt, place_is order place (p + 1) b inverse lt (e' ∙ next_city-inside order p once lt)))
    (λ (le : length order ≤ p + 1).
    let z : p + 1 ≡ length order = omega (arith, at_a.0) in
    inr (z, place_is order place 0 b inverse (omega arith) (e' ∙ next_city-end order p once z)))
    (cases_lt (p + 1) (length order))

pub next_city-in : (order : List ℕ) (place : List ℕ) (a : ℕ) → IsTour (length order) order → IsInverse order place →
    IsCity (length order) a → IsCity (length order) (next_city order a)
next_city-in order place a tour inverse ca =
    let at_a = city_at_place order place a tour inverse ca.0 ca.1 in
    let p : ℕ = get_or place (a - 1) 0 in
    let once = HoldsOnce-tour (length order) order tour in
    let e0 : next_city order (get_or order p 0) ≡ next_city order a = ap (next_city order) at_a.1 in
    ⊎_elim
    (λ (lt : p + 1 < length order). rw (← e0, next_city-inside order p once lt)
    (city_in_range (length order) order (p + 1) tour lt))
    (λ (le : length order ≤ p + 1). rw (← e0, next_city-end order p once (omega (arith, at_a.0)))
    (city_in_range (length order) order 0 tour (omega arith)))
    (cases_lt (p + 1) (length order))

abbrev PathPlaces : ℕ → ℕ → ℕ → ℕ → ℕ → ℕ → Type 0
PathPlaces n m pa pb pc pd = (0 < m) × (m < n) × AtPlace n pb 0 pb × AtPlace n pb (m - 1) pc × AtPlace n pb m pd
    × AtPlace n pb (n - 1) pa

-- the m positions from pb to pc, if pb comes after pa and pd after pc
path_places : (n m pa pb pc pd : ℕ) → pa < n → pb < n → pc < n → pd < n → pa ≢ pc → IsAfter n pa pb → IsAfter n pc pd →
    PathLength n m pb pc → PathPlaces n m pa pb pc pd
path_places n m pa pb pc pd la lb lc ld ne ab cd e = omega arith

-- the effect of reversing the path from b to c, at the m positions from pb to pc
pub flip_inner : (order place : List ℕ) (a b c d m pb pc : ℕ) → IsTour (length order) order → IsInverse order place →
    IsCity (length order) a → IsCity (length order) c → a ≢ c → b ≡ next_city order a → d ≡ next_city order c →
    pb ≡ get_or place (b - 1) 0 → pc ≡ get_or place (c - 1) 0 → PathLength (length order) m pb pc →
    (0 < m) × (m < length order) × ReplacesSteps order (reversed_places pb m order) a b c d
    × SidesAre order (length order - m) m a b c d
flip_inner order place a b c d m pb pc tour inverse ca cc' ne eb ed epb epc em =
    let n : ℕ = length order in
    let cb : IsCity (length order) b = rw eb (next_city-in order place a tour inverse ca) in
    let cd : IsCity (length order) d = rw ed (next_city-in order place c tour inverse cc') in
    let at_a = city_at_place order place a tour inverse ca.0 ca.1 in
    let at_b = city_at_place order place b tour inverse cb.0 cb.1 in
    let at_c = city_at_place order place c tour inverse cc'.0 cc'.1 in
    let at_d = city_at_place order place d tour inverse cd.0 cd.1 in
    let pa : ℕ = get_or place (a - 1) 0 in
    let qb : ℕ = get_or place (b - 1) 0 in
    let qc : ℕ = get_or place (c - 1) 0 in
    let pd : ℕ = get_or place (d - 1) 0 in
    let apart : pa ≢ qc = λ e. ne (sym at_a.1 ∙ ap (λ v. get_or order v 0) e ∙ at_c.1) in
    let k =
    path_places n m pa qb qc pd at_a.0 at_b.0 at_c.0 at_d.0 apart (place_after order place a b tour inverse ca eb)
    (place_after order place c d tour inverse cc' ed) (rw (← epb, ← epc) em) in
    let both =
    path_reversed order qb m a b c d (HoldsOnce-tour n order tour) k.0 k.1
    (get_or-begun_at order qb 0 qb 0 (omega (arith, at_b.0)) (omega (arith, at_b.0)) k.2 ∙ at_b.1)
    (get_or-begun_at order qb (m - 1) qc 0 (omega (arith, at_b.0)) (omega (arith, k.1)) k.3 ∙ at_c.1)
    (get_or-begun_at order qb m pd 0 (omega (arith, at_b.0)) k.1 k.4 ∙ at_d.1)
    (get_or-begun_at order qb (n - 1) pa 0 (omega (arith, at_b.0)) (omega (arith, at_b.0)) k.5 ∙ at_a.1) in
    (k.0, k.1, rw epb both.0, both.1)

prev_city-at : (order place : List ℕ) (a : ℕ) → IsTour (length order) order → IsInverse order place →
    IsCity (length order) a →
    (k : ℕ) × (k < length order) × (prev_city order a ≡ get_or order k 0) × (next_city order (get_or order k 0) ≡ a)
prev_city-at order place a tour inverse ca =
    let at_a = city_at_place order place a tour inverse ca.0 ca.1 in
    let n : ℕ = length order in
    let p : ℕ = get_or place (a - 1) 0 in
    let once = HoldsOnce-tour n order tour in
    let e0 : prev_city order a ≡ prev_city order (get_or order p 0) = ap (prev_city order) (sym at_a.1) in
    ⊎_elim
    (λ (pos : 0 < p).
    let e1 : p - 1 + 1 ≡ p = omega arith in (
      p - 1,
      omega (arith, at_a.0),
      e0 ∙ ap (λ v. prev_city order (get_or order v 0)) (sym e1)
          ∙ prev_city-inside order (p - 1) once (omega (arith, at_a.0)),
      next_city-inside order (p - 1) once (omega (arith, at_a.0)) ∙ ap (λ v. get_or order v 0) e1 ∙ at_a.1,
    ))
    (λ (le : p ≤ 0).
    let z : p ≡ 0 = omega arith in
    let e1 : n - 1 + 1 ≡ n = omega (arith, at_a.0) in (
      n - 1,
      omega (arith, at_a.0),
      e0 ∙ ap (λ v. prev_city order (get_or order v 0)) z ∙ prev_city-start order (n - 1) once e1,
      next_city-end order (n - 1) once e1 ∙ ap (λ v. get_or order v 0) (sym z) ∙ at_a.1,
    ))
    (cases_lt 0 p)

pub prev_city-in : (order place : List ℕ) (a : ℕ) → IsTour (length order) order → IsInverse order place →
    IsCity (length order) a → IsCity (length order) (prev_city order a)
prev_city-in order place a tour inverse ca =
    let h = prev_city-at order place a tour inverse ca in
    rw h.2 (city_in_range (length order) order h.0 tour h.1)

pub next_city-prev_city : (order place : List ℕ) (a : ℕ) → IsTour (length order) order → IsInverse order place →
    IsCity (length order) a → next_city order (prev_city order a) ≡ a
next_city-prev_city order place a tour inverse ca =
    let h = prev_city-at order place a tour inverse ca in ap (next_city order) h.2 ∙ h.3

-- edges that run backward run forward with their ends exchanged
pub backward : (order place : List ℕ) (a b c d : ℕ) → IsTour (length order) order → IsInverse order place →
    IsCity (length order) a → IsCity (length order) c → a ≢ c →
    b ≡ prev_city order a → d ≡ prev_city order c → AreForward order d c b a
backward order place a b c d tour inverse ca cc' ne eb ed =
    let na : next_city order b ≡ a = ap (next_city order) eb ∙ next_city-prev_city order place a tour inverse ca in
    let nc : next_city order d ≡ c = ap (next_city order) ed ∙ next_city-prev_city order place c tour inverse cc' in
    record {
      a_in = rw ed (prev_city-in order place c tour inverse cc');
      c_in = rw eb (prev_city-in order place a tour inverse ca);
      apart = λ e. ne (sym na ∙ ap (next_city order) (sym e) ∙ nc);
      b_after = sym nc;
      d_after = sym na;
    }

pub ReplacesSteps-backward : (old new : List ℕ) (a b c d : ℕ) → ReplacesSteps old new d c b a →
    ReplacesSteps old new a b c d
ReplacesSteps-backward old new a b c d h = ReplacesSteps-mirror a b c d old new (ReplacesSteps-turn b a d c old new h)

-- if the edges do not run forward, they run backward
pub only_backward : (order : List ℕ) (a b c d : ℕ) → CanFlip order a b c d →
    (b ≡ next_city order a → d ≡ next_city order c → ⊥) → (b ≡ prev_city order a) × (d ≡ prev_city order c)
only_backward order a b c d h not_ahead =
    ⊎_elim (λ (k : (b ≡ next_city order a) × (d ≡ next_city order c)). absurd (not_ahead k.0 k.1)) (λ k. k) h.steps

-- a reversal of a tour is a tour
pub occurrences-reversed_places : (c k m : ℕ) (xs : List ℕ) → occurrences c (reversed_places k m xs) ≡ occurrences c xs
occurrences-reversed_places c k m xs =
    let r : List ℕ = begun_at k xs in
    let e1 = occurrences-rotation c (IsRotation-begun_at k xs) in
    let e2 = occurrences-rotation c (IsRotation-begun_at (length xs - k) (reversed_front m r)) in
    let e3 = occurrences-append c (reverse (take m r)) (drop m r) in
    let e4 = occurrences-reverse c (take m r) in
    let e5 = occurrences-append c (take m r) (drop m r) in
    let e6 : occurrences c (take m r ++ drop m r) ≡ occurrences c r = ap (occurrences c) (take-append-drop m r) in
    omega (arith, e1, e2, e3, e4, e5, e6)

pub IsTour-reversed_places : (n k m : ℕ) (xs : List ℕ) → IsTour n xs → IsTour n (reversed_places k m xs)
IsTour-reversed_places n k m xs h =
    (length-reversed_places k m xs ∙ h.0, λ c low high. occurrences-reversed_places c k m xs ∙ h.1 c low high)

pub IsSizedTour-reversed_places : (k m : ℕ) (xs : List ℕ) → IsSizedTour xs → IsSizedTour (reversed_places k m xs)
IsSizedTour-reversed_places k m xs h =
    let l : length (reversed_places k m xs) ≡ length xs = length-reversed_places k m xs in (
      omega (arith, l, h.0),
      omega (arith, l, h.1),
      subst (λ v. IsTour v (reversed_places k m xs)) (sym l) (IsTour-reversed_places (length xs) k m xs h.2),
    )

-- the number of positions of the other side
other_side : (n m pa pb pc pd : ℕ) → pa < n → pc < n → pa ≢ pc → IsAfter n pa pb → IsAfter n pc pd →
    PathLength n m pb pc → PathLength n (n - m) pd pa
other_side n m pa pb pc pd la lc ne ab cd e =
    ⊎_elim (λ (less : pa < pd). inr (omega arith)) (λ (le : pd ≤ pa). inl (omega arith)) (cases_lt pa pd)

-- the effect of reversing the other side, the path from d to a at the remaining positions
pub flip_outer : (order place : List ℕ) (a b c d m pb pc pd : ℕ) → IsTour (length order) order → IsInverse order place →
    IsCity (length order) a → IsCity (length order) c → a ≢ c → b ≡ next_city order a → d ≡ next_city order c →
    pb ≡ get_or place (b - 1) 0 → pc ≡ get_or place (c - 1) 0 → pd ≡ get_or place (d - 1) 0 →
    PathLength (length order) m pb pc →
    ReplacesSteps order (reversed_places pd (length order - m) order) a b c d
flip_outer order place a b c d m pb pc pd tour inverse ca cc' ne eb ed epb epc epd em =
    let n : ℕ = length order in
    let at_a = city_at_place order place a tour inverse ca.0 ca.1 in
    let at_c = city_at_place order place c tour inverse cc'.0 cc'.1 in
    let ab = place_after order place a b tour inverse ca eb in
    let cd = place_after order place c d tour inverse cc' ed in
    let pa : ℕ = get_or place (a - 1) 0 in
    let outer : PathLength n (n - m) pd pa =
    other_side n m pa pb pc pd at_a.0 (omega (arith, epc, at_c.0))
    (λ e. ne (sym at_a.1 ∙ ap (λ v. get_or order v 0) (e ∙ epc) ∙ at_c.1))
    (rw epb ab) (rw (epc, epd) cd) em in
    let h = flip_inner order place c d a b (n - m) pd pa tour inverse cc' ca (λ e. ne (sym e)) ed eb epd refl outer in
    ReplacesSteps-turn a b c d order (reversed_places pd (n - m) order) h.2

-- the cities after and before position k
pub next_city_stored : (order : List ℕ) (k x c : ℕ) → IsTour (length order) order → k < length order →
    get_or order k 0 ≡ c →
    ((k + 1 < length order) × (x ≡ get_or order (k + 1) 0)) ⊎ ((k + 1 ≡ length order) × (x ≡ get_or order 0 0)) →
    x ≡ next_city order c
next_city_stored order k x c tour lt e h =
    let once = HoldsOnce-tour (length order) order tour in
    ⊎_elim
    (λ (z : (k + 1 < length order) × (x ≡ get_or order (k + 1) 0)). z.1 ∙ sym (next_city-inside order k once z.0)
    ∙ ap (next_city order) e)
    (λ (z : (k + 1 ≡ length order) × (x ≡ get_or order 0 0)). z.1 ∙ sym (next_city-end order k once z.0)
    ∙ ap (next_city order) e)
    h

pub prev_city_stored : (order : List ℕ) (k x c : ℕ) → IsTour (length order) order → k < length order →
    get_or order k 0 ≡ c →
    ((0 < k) × (x ≡ get_or order (k - 1) 0)) ⊎ ((k ≡ 0) × (x ≡ get_or order (length order - 1) 0)) →
    x ≡ prev_city order c
prev_city_stored order k x c tour lt e h =
    let once = HoldsOnce-tour (length order) order tour in
    ⊎_elim
    (λ (z : (0 < k) × (x ≡ get_or order (k - 1) 0)).
    let e1 : k - 1 + 1 ≡ k = omega (arith, z) in
    z.1 ∙ sym (prev_city-inside order (k - 1) once (omega (arith, z))) ∙ ap (λ v. prev_city order (get_or order v 0)) e1
    ∙ ap (prev_city order) e)
    (λ (z : (k ≡ 0) × (x ≡ get_or order (length order - 1) 0)).
    z.1 ∙ sym (prev_city-start order (length order - 1) once (omega arith))
    ∙ ap (λ v. prev_city order (get_or order v 0)) (sym z.0) ∙ ap (prev_city order) e)
    h

-- the sides are the same for a tour read backward
pub IsShorterSide-backward : (xs : List ℕ) (n a b c d : ℕ) → IsShorterSide xs n d c b a → IsShorterSide xs n a b c d
IsShorterSide-backward xs n a b c d h = λ front back pf pb g.
    let e : reverse (reverse front ++ reverse back) ≡ back ++ front = simp (reverse-append, reverse-reverse) in
    let g2 : SameCycle (front ++ back) (reverse front ++ reverse back) =
    inr (rw e (IsRotation-append front back)) in
    let k = h (reverse front) (reverse back) (IsPath-reverse pf) (IsPath-reverse pb) (SameCycle-trans g g2) in
    omega (arith, k, length-reverse front, length-reverse back)
