-- If a flip is allowed, the cycle can be cut at its two edges.
use Rattle.std.proofs.Common.{◌≡◌, ◌≢◌, ℕ, ◌+◌, ◌-◌, ◌<◌, ◌≤◌, ⊎_elim, inl, inr, List, [], ◌∷◌, ◌++◌, length, refl, sym}
use Rattle.std.proofs.Common.{ap, ◌∙◌, arith, get_or}
use Rattle.std.specs.Prelude.{reverse}
use Rattle.std.proofs.lemmas.Bool.{cases_lt, cases_eq}
use Rattle.std.proofs.lemmas.List.{append_assoc, length-reverse, reverse-reverse, get_or-reverse}
use Rattle.tk_distance.specs.Cities.{IsCity}
use Rattle.tk_tour.specs.Tour.{occurrences, IsTour, IsSizedTour, IsRotation, SameCycle, IsPath, next_city, prev_city}
use Rattle.tk_tour.specs.Moves.{CanFlip, TwoOptMove, ReplacesSteps}
use Rattle.tk_tour.proofs.Cycle.{IsRotation-reverse, IsRotation-trans, IsRotation-append}
use Rattle.tk_tour.proofs.DistinctCycles.{HoldsOnce, occurrences-append, occurrences-reverse}
use Rattle.tk_tour.proofs.Tours.{HoldsOnce-tour, occurrences-nil, occurrences-other, place_found, next_city-inside}
use Rattle.tk_tour.proofs.Tours.{next_city-end, prev_city-inside, prev_city-start}
use Rattle.tk_tour.proofs.CycleNeighbours.{Neighbours-paths}

pub IsTour-reverse : (n : ℕ) (xs : List ℕ) → IsTour n xs → IsTour n (reverse xs)
IsTour-reverse n xs h = (length-reverse xs ∙ h.0, λ c low high. occurrences-reverse c xs ∙ h.1 c low high)

-- on the reversed tour, the city before c is the one that comes after it on the tour
pub prev_city-reverse : (n c : ℕ) (xs : List ℕ) → IsTour n xs → IsCity n c → prev_city (reverse xs) c ≡ next_city xs c
prev_city-reverse n c xs tour ic =
    let f = place_found c xs (omega (arith, tour.1 c ic.0 ic.1)) in
    let k : ℕ = f.0 in
    let m : ℕ = length xs in
    let once = HoldsOnce-tour n xs tour in
    let once' = HoldsOnce-tour n (reverse xs) (IsTour-reverse n xs tour) in
    let l : length (reverse xs) ≡ m = length-reverse xs in
    let at : (i j : ℕ) → i + j + 1 ≡ m → get_or (reverse xs) i 0 ≡ get_or xs j 0 = λ i j e.
    get_or-reverse xs i 0 (omega arith) ∙ ap (λ v. get_or xs v 0) (omega arith) in
    ⊎_elim
    (λ (lt : k + 1 < m).
    let i : ℕ = m - 2 - k in
    ap (prev_city (reverse xs)) (sym f.2 ∙ sym (at (i + 1) k (omega arith)))
    ∙ prev_city-inside (reverse xs) i once' (omega (arith, l)) ∙ at i (k + 1) (omega arith)
    ∙ sym (next_city-inside xs k once lt) ∙ ap (next_city xs) f.2)
    (λ (le : m ≤ k + 1).
    let e : k + 1 ≡ m = omega (arith, f.1) in
    ap (prev_city (reverse xs)) (sym f.2 ∙ sym (at 0 k (omega arith)))
    ∙ prev_city-start (reverse xs) k once' (omega (arith, l)) ∙ at k 0 (omega arith)
    ∙ sym (next_city-end xs k once e) ∙ ap (next_city xs) f.2)
    (cases_lt (k + 1) m)

pub next_city-reverse : (n c : ℕ) (xs : List ℕ) → IsTour n xs → IsCity n c → next_city (reverse xs) c ≡ prev_city xs c
next_city-reverse n c xs tour ic =
    sym (prev_city-reverse n c (reverse xs) (IsTour-reverse n xs tour) ic)
    ∙ ap (λ v. prev_city v c) (reverse-reverse xs)

-- the two parts of a list before and after a city
record Split (c : ℕ) (xs : List ℕ) : Type 0 where
  pub before : List ℕ
  pub after : List ℕ
  pub whole : xs ≡ before ++ c ∷ after

split : (c : ℕ) (xs : List ℕ) → 1 ≤ occurrences c xs → Split c xs
split c [] h = absurd (omega (arith, h, occurrences-nil c))
split c (x ∷ xs) h =
    ⊎_elim
    (λ (e : c ≡ x). record { before = []; after = xs; whole = ap (λ v. v ∷ xs) (sym e) })
    (λ (ne : c ≢ x).
    let k = split c xs (omega (arith, h, occurrences-other c x xs ne)) in
    record { before = x ∷ k.before; after = k.after; whole = ap (λ v. x ∷ v) k.whole })
    (cases_eq c x)

starts : (xs : List ℕ) (z : ℕ) → (h : ℕ) × IsPath h (xs ++ z ∷ []) z
starts [] z = (z, (([], refl), ([], refl)))
starts (x ∷ xs) z = (x, ((xs ++ z ∷ [], refl), (x ∷ xs, refl)))

-- a cut into two paths, which end with a and with c
record Cut (xs : List ℕ) (a c : ℕ) : Type 0 where
  pub front : List ℕ
  pub back : List ℕ
  pub round : IsRotation xs ((front ++ a ∷ []) ++ (back ++ c ∷ []))

cut_after : (a c : ℕ) (xs us vs : List ℕ) → xs ≡ us ++ a ∷ vs → Split c vs → Cut xs a c
cut_after a c xs us vs e k =
    record {
      front = k.after ++ us;
      back = k.before;
      round = record {
        front = (us ++ a ∷ []) ++ (k.before ++ c ∷ []);
        back = k.after;
        before = e ∙ ap (λ v. us ++ a ∷ v) k.whole ∙ simp append_assoc;
        after = simp append_assoc;
      };
    }

cut_before : (a c : ℕ) (xs us vs : List ℕ) → xs ≡ us ++ a ∷ vs → Split c us → Cut xs a c
cut_before a c xs us vs e k =
    record {
      front = k.after;
      back = vs ++ k.before;
      round = record {
        front = k.before ++ c ∷ [];
        back = (k.after ++ a ∷ []) ++ vs;
        before = e ∙ ap (λ v. v ++ a ∷ vs) k.whole ∙ simp append_assoc;
        after = simp append_assoc;
      };
    }

cut_at : (a c : ℕ) (xs : List ℕ) → a ≢ c → 1 ≤ occurrences a xs → 1 ≤ occurrences c xs → Cut xs a c
cut_at a c xs ne ha hc =
    let k = split a xs ha in
    let e1 : occurrences c xs ≡ occurrences c (k.before ++ a ∷ k.after) = ap (occurrences c) k.whole in
    let e2 = occurrences-append c k.before (a ∷ k.after) in
    let e3 = occurrences-other c a k.after (λ e. ne (sym e)) in
    ⊎_elim
    (λ (some : 0 < occurrences c k.after). cut_after a c xs k.before k.after k.whole (split c k.after (omega arith)))
    (λ (none : occurrences c k.after ≤ 0). cut_before a c xs k.before k.after k.whole
    (split c k.before (omega (arith, hc, e1, e2, e3))))
    (cases_lt 0 (occurrences c k.after))

-- the cut after a and after c, with the ends of the two paths
pub record CutAhead (xs : List ℕ) (a c : ℕ) : Type 0 where
  pub front : List ℕ
  pub back : List ℕ
  pub is_front : IsPath (next_city xs c) front a
  pub is_back : IsPath (next_city xs a) back c
  pub round : IsRotation xs (front ++ back)

pub cut_ahead : (a c : ℕ) (xs : List ℕ) → HoldsOnce xs → a ≢ c → 1 ≤ occurrences a xs → 1 ≤ occurrences c xs →
    CutAhead xs a c
cut_ahead a c xs once ne ha hc =
    let k = cut_at a c xs ne ha hc in
    let front : List ℕ = k.front ++ a ∷ [] in
    let back : List ℕ = k.back ++ c ∷ [] in
    let f = starts k.front a in
    let g = starts k.back c in
    let ab = Neighbours-paths xs front back a g.0 c f.0 once f.1 g.1 k.round in
    let turned : IsRotation xs (back ++ front) = IsRotation-trans k.round (IsRotation-append front back) in
    let cd = Neighbours-paths xs back front c f.0 a g.0 once g.1 f.1 turned in
    record {
      front = front;
      back = back;
      is_front = rw cd.0 f.1;
      is_back = rw ab.0 g.1;
      round = k.round;
    }

-- therefore, a flip makes a 2-opt move
pub TwoOptMove-from_steps : (old new : List ℕ) (a b c d : ℕ) → IsSizedTour old → CanFlip old a b c d →
    ReplacesSteps old new a b c d → TwoOptMove old new a b c d
TwoOptMove-from_steps old new a b c d sized can steps =
    let n : ℕ = length old in
    let tour = sized.2 in
    let back' : List ℕ = reverse old in
    let tour' : IsTour n back' = IsTour-reverse n old tour in
    let ha : 1 ≤ occurrences a old = omega (arith, tour.1 a can.a_in.0 can.a_in.1) in
    let hc : 1 ≤ occurrences c old = omega (arith, tour.1 c can.c_in.0 can.c_in.1) in
    let ha' : 1 ≤ occurrences a back' = omega (arith, ha, occurrences-reverse a old) in
    let hc' : 1 ≤ occurrences c back' = omega (arith, hc, occurrences-reverse c old) in
    let made : (front back : List ℕ) → IsPath d front a → IsPath b back c → SameCycle old (front ++ back) →
    TwoOptMove old new a b c d = λ front back pf pb h.
    record {
      kept = front;
      turned = back;
      is_kept = pf;
      is_turned = pb;
      before = h;
      after = steps front back pf pb h;
    } in
    ⊎_elim
    (λ (k : (b ≡ next_city old a) × (d ≡ next_city old c)).
    let cut = cut_ahead a c old (HoldsOnce-tour n old tour) can.apart ha hc in
    made cut.front cut.back (rw k.1 cut.is_front) (rw k.0 cut.is_back) (inl cut.round))
    (λ (k : (b ≡ prev_city old a) × (d ≡ prev_city old c)).
    let cut = cut_ahead a c back' (HoldsOnce-tour n back' tour') can.apart ha' hc' in
    made cut.front cut.back (rw (k.1 ∙ sym (next_city-reverse n c old tour can.c_in)) cut.is_front)
    (rw (k.0 ∙ sym (next_city-reverse n a old tour can.a_in)) cut.is_back)
    (inr (rw (reverse-reverse old) at (IsRotation-reverse {xs = back'} {ys = cut.front ++ cut.back} cut.round))))
    can.steps
