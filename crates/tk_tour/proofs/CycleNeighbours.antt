-- Neighbours on a cycle: `next_city` and `prev_city` of any list of it.
use Rattle.std.proofs.Common.{◌≡◌, ◌≢◌, ℕ, ◌+◌, ◌<◌, ◌≤◌, ◌⊎◌, ⊎_elim, inl, inr, List, [], ◌∷◌, ◌++◌, length, refl, sym}
use Rattle.std.proofs.Common.{ap, ◌∙◌, arith, get_or}
use Rattle.std.specs.Prelude.{reverse}
use Rattle.std.proofs.lemmas.List.{append_assoc, reverse-append, length-append, get_or_at}
use Rattle.tk_tour.specs.Tour.{occurrences, IsTour, IsRotation, SameCycle, IsPath, next_city, prev_city}
use Rattle.tk_tour.specs.Moves.{CanFlip}
use Rattle.tk_tour.proofs.Cycle.{cuts_meet, IsRotation-trans, IsRotation-append, IsPath-reverse}
use Rattle.tk_tour.proofs.DistinctCycles.{HoldsOnce, occurrences-append, occurrences-at, occurrences-cycle}
use Rattle.tk_tour.proofs.Tours.{HoldsOnce-tour, occurrences-outside, inside_or_not, next_city-inside, next_city-end}
use Rattle.tk_tour.proofs.Tours.{prev_city-inside, prev_city-start}

abbrev pub Neighbours : List ℕ → ℕ → ℕ → Type 0
Neighbours xs x y = (next_city xs x ≡ y) × (prev_city xs y ≡ x)

Neighbours-inside : (xs p q : List ℕ) (x y : ℕ) → HoldsOnce xs → xs ≡ p ++ (x ∷ (y ∷ q)) → Neighbours xs x y
Neighbours-inside xs p q x y once e =
    let k : ℕ = length p in
    let e' : xs ≡ (p ++ x ∷ []) ++ (y ∷ q) = e ∙ sym (append_assoc p (x ∷ []) (y ∷ q)) in
    let l : length (p ++ x ∷ []) ≡ k + 1 = length-append p (x ∷ []) in
    let ex : get_or xs k 0 ≡ x = ap (λ v. get_or v k 0) e ∙ get_or_at p x (y ∷ q) 0 k refl in
    let ey : get_or xs (k + 1) 0 ≡ y = ap (λ v. get_or v (k + 1) 0) e' ∙ get_or_at (p ++ x ∷ []) y q 0 (k + 1) l in
    let lt : k + 1 < length xs = omega (arith, ap length e, length-append p (x ∷ (y ∷ q))) in (
      ap (next_city xs) (sym ex) ∙ next_city-inside xs k once lt ∙ ey,
      ap (prev_city xs) (sym ey)
          ∙ prev_city-inside xs k once lt ∙ ex,
    )

Neighbours-ends : (xs p : List ℕ) (x y : ℕ) → HoldsOnce xs → xs ≡ (y ∷ p) ++ x ∷ [] → Neighbours xs x y
Neighbours-ends xs p x y once e =
    let k : ℕ = length (y ∷ p) in
    let ex : get_or xs k 0 ≡ x = ap (λ v. get_or v k 0) e ∙ get_or_at (y ∷ p) x [] 0 k refl in
    let ey : get_or xs 0 0 ≡ y = ap (λ v. get_or v 0 0) e in
    let le : k + 1 ≡ length xs = omega (arith, ap length e, length-append (y ∷ p) (x ∷ [])) in (
      ap (next_city xs) (sym ex) ∙ next_city-end xs k once le ∙ ey,
      ap (prev_city xs) (sym ey)
          ∙ prev_city-start xs k once le ∙ ex,
    )

left_part : (xs f us t vs : List ℕ) (x y : ℕ) → HoldsOnce xs → xs ≡ f ++ (us ++ t) → x ∷ (y ∷ vs) ≡ t ++ f →
    Neighbours xs x y
left_part xs f us [] vs x y once e g =
    Neighbours-inside xs [] (vs ++ (us ++ [])) x y once (e ∙ ap (λ v. v ++ (us ++ [])) (sym g))
left_part xs f us (z ∷ []) vs x y once e g =
    let ez : z ≡ x = cc in
    let ef : f ≡ y ∷ vs = cc in
    Neighbours-ends xs (vs ++ us) x y once
    (e ∙ ap (λ v. v ++ (us ++ z ∷ [])) ef ∙ ap (λ v. (y ∷ vs) ++ (us ++ v ∷ [])) ez
    ∙ sym (append_assoc (y ∷ vs) us (x ∷ [])))
left_part xs f us (z ∷ (w ∷ t)) vs x y once e g =
    let ez : z ≡ x = cc in
    let ew : w ≡ y = cc in
    Neighbours-inside xs (f ++ us) t x y once
    (e ∙ ap (λ v. f ++ (us ++ (v ∷ (w ∷ t)))) ez ∙ ap (λ v. f ++ (us ++ (x ∷ (v ∷ t)))) ew
    ∙ sym (append_assoc f us (x ∷ (y ∷ t))))

-- x is followed by y in a rotation
pub Neighbours-rotation : (xs us vs : List ℕ) (x y : ℕ) → HoldsOnce xs → IsRotation xs (us ++ (x ∷ (y ∷ vs))) →
    Neighbours xs x y
Neighbours-rotation xs us vs x y once h =
    ⊎_elim
    (λ (k : (t : List ℕ) × (h.back ≡ us ++ t) × (x ∷ (y ∷ vs) ≡ t ++ h.front)).
    left_part xs h.front us k.0 vs x y once (h.before ∙ ap (λ v. h.front ++ v) k.1) k.2)
    (λ (k : (t : List ℕ) × (us ≡ h.back ++ t) × (h.front ≡ t ++ (x ∷ (y ∷ vs)))).
    Neighbours-inside xs k.0 (vs ++ h.back) x y once (h.before ∙ ap (λ v. v ++ h.back) k.2
    ∙ append_assoc k.0 (x ∷ (y ∷ vs)) h.back))
    (cuts_meet h.back h.front us (x ∷ (y ∷ vs)) (sym h.after))

-- the last city of one path and the first of the next one
pub Neighbours-paths : (xs front back : List ℕ) (a b c d : ℕ) → HoldsOnce xs → IsPath d front a → IsPath b back c →
    IsRotation xs (front ++ back) → Neighbours xs a b
Neighbours-paths xs front back a b c d once pf pb h =
    let e : front ++ back ≡ pf.1.0 ++ (a ∷ (b ∷ pb.0.0)) =
    ap (λ v. v ++ back) pf.1.1 ∙ append_assoc pf.1.0 (a ∷ []) back ∙ ap (λ v. pf.1.0 ++ (a ∷ v)) pb.0.1 in
    Neighbours-rotation xs pf.1.0 pb.0.0 a b once (rw e at h)

city_on_cycle : (n c : ℕ) (xs : List ℕ) → IsTour n xs → 1 ≤ occurrences c xs → (0 < c) × (c ≤ n)
city_on_cycle n c xs tour h =
    ⊎_elim (λ k. k) (λ k. absurd (omega (arith, h, occurrences-outside n c xs tour k))) (inside_or_not n c)

abbrev AreSteps : List ℕ → ℕ → ℕ → ℕ → ℕ → Type 0
AreSteps xs a b c d = ((b ≡ next_city xs a) × (d ≡ next_city xs c)) ⊎ ((b ≡ prev_city xs a) × (d ≡ prev_city xs c))

-- if the cycle is cut into two paths, a flip at the cut is allowed
pub CanFlip-from_cut : (xs front back : List ℕ) (a b c d : ℕ) → IsTour (length xs) xs → IsPath d front a →
    IsPath b back c → SameCycle xs (front ++ back) → CanFlip xs a b c d
CanFlip-from_cut xs front back a b c d tour pf pb h =
    let n : ℕ = length xs in
    let once = HoldsOnce-tour n xs tour in
    let ea : occurrences a front ≡ 1 + occurrences a pf.1.0 + occurrences a [] = ap (occurrences a) pf.1.1
    ∙ occurrences-at a pf.1.0 [] in
    let ec : occurrences c back ≡ 1 + occurrences c pb.1.0 + occurrences c [] = ap (occurrences c) pb.1.1
    ∙ occurrences-at c pb.1.0 [] in
    let oa : occurrences a (front ++ back) ≡ occurrences a xs = occurrences-cycle a h in
    let oc : occurrences c (front ++ back) ≡ occurrences c xs = occurrences-cycle c h in
    let sa = occurrences-append a front back in
    let sc = occurrences-append c front back in
    let apart : a ≢ c = λ e.
    let ec' : occurrences a back ≡ occurrences c back = ap (λ v. occurrences v back) e in
    omega (arith, ea, ec, ec', oa, sa, once a) in
    let ahead : IsRotation xs (front ++ back) → AreSteps xs a b c d = λ g.
    let ab = Neighbours-paths xs front back a b c d once pf pb g in
    let cd = Neighbours-paths xs back front c d a b once pb pf (IsRotation-trans g (IsRotation-append front back)) in
    inl (sym ab.0, sym cd.0) in
    let behind : IsRotation xs (reverse (front ++ back)) → AreSteps xs a b c d = λ g.
    let qf = IsPath-reverse pf in
    let qb = IsPath-reverse pb in
    let g' : IsRotation xs (reverse back ++ reverse front) = rw (reverse-append front back) at g in
    let ba = Neighbours-paths xs (reverse back) (reverse front) b a d c once qb qf g' in
    let dc =
    Neighbours-paths xs (reverse front) (reverse back) d c b a once qf qb
    (IsRotation-trans g' (IsRotation-append (reverse back) (reverse front))) in
    inr (sym ba.1, sym dc.1) in
    record {
      a_in = city_on_cycle n a xs tour (omega (arith, ea, oa, sa));
      c_in = city_on_cycle n c xs tour (omega (arith, ec, oc, sc));
      apart = apart;
      steps = ⊎_elim ahead behind h;
    }
