-- A tour has only one canonical form.
use Rattle.std.proofs.Common.{◌≡◌, ℕ, ◌<◌, ◌≤◌, ⊎_elim, List, [], ◌∷◌, ◌++◌, length, refl, sym, ap, ◌∙◌, arith}
use Rattle.std.proofs.Common.{get_or}
use Rattle.std.specs.Prelude.{reverse}
use Rattle.std.proofs.lemmas.List.{append_assoc, length-append, length-reverse, reverse-append, get_or_append_left}
use Rattle.tk_tour.specs.Tour.{occurrences, IsSizedTour, IsRotation, SameCycle}
use Rattle.tk_tour.specs.Printed.{IsPrintedForm}
use Rattle.tk_tour.proofs.Cycle.{IsRotation-trans, SameCycle-sym, SameCycle-trans}
use Rattle.tk_tour.proofs.DistinctCycles.{HoldsOnce, HoldsOnce-cycle, occurrences-append, occurrences-at, one_rotation}
use Rattle.tk_tour.proofs.Tours.{HoldsOnce-tour, occurrences-index}

length-rotation : (xs ys : List ℕ) → IsRotation xs ys → length ys ≡ length xs
length-rotation xs ys h =
    omega (arith, ap length h.before, ap length h.after, length-append h.front h.back, length-append h.back h.front)

length-cycle : (xs ys : List ℕ) → SameCycle xs ys → length ys ≡ length xs
length-cycle xs ys h =
    ⊎_elim (λ f. length-rotation xs ys f) (λ f. sym (length-reverse ys) ∙ length-rotation xs (reverse ys) f) h

-- a list of at least two entries begins with its first two
first_two : (xs : List ℕ) (a b : ℕ) → 2 ≤ length xs → get_or xs 0 0 ≡ a → get_or xs 1 0 ≡ b →
    (rest : List ℕ) × (xs ≡ a ∷ (b ∷ rest))
first_two [] a b big e f = absurd (omega arith)
first_two (x ∷ []) a b big e f = absurd (omega arith)
first_two (x ∷ (y ∷ xs)) a b big e f = (xs, ap (λ v. v ∷ (y ∷ xs)) e ∙ ap (λ v. a ∷ (v ∷ xs)) f)

-- if b comes both after a and before it, the cycle has no other city
ends_alike : (a b : ℕ) (r t : List ℕ) → HoldsOnce (a ∷ (reverse t ++ b ∷ [])) →
    a ∷ (b ∷ r) ≡ a ∷ (reverse t ++ b ∷ []) → a ∷ (b ∷ r) ≡ a ∷ (b ∷ t)
ends_alike a b r [] once e = e
ends_alike a b r (x ∷ t) once e =
    let back : List ℕ = reverse (x ∷ t) in
    let some : 0 < length back = omega (arith, length-reverse (x ∷ t)) in
    let f : get_or back 0 0 ≡ b = sym (get_or_append_left back (b ∷ []) 0 0 some) ∙ sym (ap (λ v. get_or v 1 0) e) in
    let one : 1 ≤ occurrences b back = rw f at (occurrences-index back 0 some) in
    absurd (omega (arith, once b, one, occurrences-at b back [], occurrences-append b (a ∷ []) (back ++ b ∷ [])))

way_back : (a b : ℕ) (xs r t : List ℕ) → HoldsOnce xs → xs ≡ a ∷ (b ∷ r) → IsRotation xs (reverse (a ∷ (b ∷ t))) →
    a ∷ (b ∷ r) ≡ a ∷ (b ∷ t)
way_back a b xs r t once e h =
    let ws : List ℕ = a ∷ (reverse t ++ b ∷ []) in
    let turned : IsRotation (reverse (a ∷ (b ∷ t))) ws = record {
      front = reverse t ++ b ∷ [];
      back = a ∷ [];
      before = reverse-append (a ∷ (b ∷ [])) t ∙ sym (append_assoc (reverse t) (b ∷ []) (a ∷ []));
      after = refl;
    } in
    let same : xs ≡ ws = one_rotation a xs ws (b ∷ r) (reverse t ++ b ∷ []) once (IsRotation-trans h turned) e refl in
    ends_alike a b r t (rw (← same) once) (sym e ∙ same)

pub one_printed_form : (xs ys zs : List ℕ) → IsSizedTour xs → IsPrintedForm xs ys → IsPrintedForm xs zs → ys ≡ zs
one_printed_form xs ys zs sized p q =
    let n : ℕ = length xs in
    let k = first_two ys 1 (get_or ys 1 0) (omega (arith, sized.0, length-cycle xs ys p.cycle)) p.first refl in
    let l = first_two zs 1 (get_or ys 1 0) (omega (arith, sized.0, length-cycle xs zs q.cycle)) q.first
    (q.second ∙ sym p.second) in
    let once : HoldsOnce ys = HoldsOnce-cycle (HoldsOnce-tour n xs sized.2) p.cycle in
    let both : SameCycle ys zs = SameCycle-trans (SameCycle-sym p.cycle) q.cycle in
    ⊎_elim
    (λ (h : IsRotation ys zs). one_rotation 1 ys zs (get_or ys 1 0 ∷ k.0) (get_or ys 1 0 ∷ l.0) once h k.1 l.1)
    (λ (h : IsRotation ys (reverse zs)).
    k.1 ∙ way_back 1 (get_or ys 1 0) ys k.0 l.0 once k.1 (rw (← l.1) h) ∙ sym l.1)
    both
