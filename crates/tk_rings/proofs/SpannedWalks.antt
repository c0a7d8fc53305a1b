-- Walks over the positions of a ring whose sums are known.
use Rattle.std.proofs.Common.{◌≡◌, ℕ, zero, suc, ◌+◌, ◌-◌, ◌<◌, ◌≤◌, ◌⊎◌, ⊎_elim, inl, inr, Bool, true, false}
use Rattle.std.proofs.Common.{List}
use Rattle.std.proofs.Common.{length, get_or, refl, sym, ◌∙◌, ap, arith, subst}
use Rattle.tk_tour.specs.Tour.{IsSizedTour}
use Rattle.tk_tour.proofs.StoredTours.Flips.{next_city_stored, prev_city_stored}
use Rattle.tk_tour.proofs.Tours.{HoldsOnce-tour, places_differ}
use Rattle.tk_descent.proofs.MovesOnTours.Rounds.{round_of}
use Rattle.tk_rings.specs.Capacities.{is_copy, step_on}
use Rattle.tk_rings.specs.Loads.{HasLoads}
use Rattle.tk_rings.specs.Sums.{IsSpan, IsSpanBack, load_up_to}
use Rattle.tk_rings.specs.declared.stretch.Stretch.{Stretch}
use Rattle.tk_rings.specs.declared.walk.Walk.{Walk}
use Rattle.tk_rings.proofs.DepotWalks.{Found, Walked, begins_walk, copy_ahead, goes_on, last_ahead}
use Rattle.tk_rings.proofs.SumsAlong.{load-more, load-rises}

module _ (q : ℕ) (demands C : List ℕ) (walk : Walk) (s : Stretch) (h : HasLoads q demands C walk s)
    (sized : IsSizedTour C) where
  abbrev at_place : ℕ → ℕ → Type 0
  at_place p load = Walked q demands h.path (get_or C p 0) load

  -- a customer at which the walk does not end
  abbrev IsPassed : ℕ → Type 0
  IsPassed i = (is_copy demands (get_or C i 0) ≡ false) × (get_or C i 0 ≡ walk.to → ⊥)

  apart : (i end : ℕ) → get_or C end 0 ≡ walk.to → (i < end) ⊎ (end < i) → i < length C → end < length C →
      get_or C i 0 ≡ walk.to → ⊥
  apart i end e ne a b same =
      ⊎_elim (λ (lt : i < end). places_differ C i end (HoldsOnce-tour (length C) C sized.2) lt b (same ∙ sym e))
      (λ (gt : end < i). places_differ C end i (HoldsOnce-tour (length C) C sized.2) gt a (e ∙ sym same)) ne

  one_more : (p next load more : ℕ) → p < length C → IsPassed p → at_place p load →
      more ≡ load + (load_up_to demands C (p + 1) - load_up_to demands C p) →
      step_on walk.forward C (get_or C p 0) ≡ get_or C next 0 → at_place next more
  one_more p next load more lt passed w sum is =
      subst (λ c. Walked q demands h.path c more) is
      (goes_on q demands C walk s h (round_of C sized).distinct (get_or C p 0) load w more passed.0 passed.1
      (omega (arith, sum, load-more demands C p lt)))

  -- at a copy, and at the end
  copy_found : (p load : ℕ) → is_copy demands (get_or C p 0) ≡ true → at_place p load → Found s load true
  copy_found p load e w =
      copy_ahead q demands C walk s h (round_of C sized).distinct (get_or C p 0) load w e

  end_found : (p load found : ℕ) → p < length C → is_copy demands (get_or C p 0) ≡ false →
      get_or C p 0 ≡ walk.to → at_place p load →
      found + load_up_to demands C p ≡ load + load_up_to demands C (p + 1) → Found s found false
  end_found p load found lt plain e w sum =
      last_ahead q demands C walk s h (round_of C sized).distinct (get_or C p 0) load w found plain e
      (omega (arith, sum, load-more demands C p lt))

  -- forward
  module _ (forward : walk.forward ≡ true) where
    next_place : (p : ℕ) → p + 1 < length C → step_on walk.forward C (get_or C p 0) ≡ get_or C (p + 1) 0
    next_place p lt =
        ap (λ f. step_on f C (get_or C p 0)) forward
        ∙ sym (next_city_stored C p (get_or C (p + 1) 0) (get_or C p 0) sized.2 (omega (arith, lt)) refl (inl (
          lt,
          refl,
        )))

    first_place : (p : ℕ) → p + 1 ≡ length C → step_on walk.forward C (get_or C p 0) ≡ get_or C 0 0
    first_place p e =
        ap (λ f. step_on f C (get_or C p 0)) forward
        ∙ sym (next_city_stored C p (get_or C 0 0) (get_or C p 0) sized.2 (omega (arith, e)) refl (inr (e, refl)))

    walks_to : (m p r load total : ℕ) → r ≡ p + m → r < length C → ((i : ℕ) → p ≤ i → i < r → IsPassed i) →
        at_place p load → total + load_up_to demands C p ≡ load + load_up_to demands C r →
        at_place r total
    walks_to zero p r load total e lt passed w sum =
        let same : p ≡ r = omega (arith, e) in
        let loads : load ≡ total = omega (arith, sum, ap (load_up_to demands C) same) in
        subst (λ v. at_place r v) loads (subst (λ v. at_place v load) same w)
    walks_to (suc m) p r load total e lt passed w sum =
        let here : r ≡ (p + m) + 1 = omega (arith, e) in
        let before : at_place (p + m) (load + (load_up_to demands C (p + m) - load_up_to demands C p)) =
        walks_to m p (p + m) load _ refl (omega (arith, here, lt)) (λ i a b. passed i a (omega (arith, b, here))) w
        (omega (arith, load-rises demands C p (p + m) (omega arith))) in
        (one_more (p + m) r _ total (omega (arith, here, lt)) (passed (p + m) (omega arith) (omega (
          arith,
          here,
        )))
        before
        (omega (
          arith,
          sum,
          ap (load_up_to demands C) here,
          load-rises demands C p (p + m) (omega arith),
          load-rises demands C (p + m) (p + m + 1) (omega arith),
        ))
        (next_place (p + m) (omega (arith, here, lt)) ∙ ap (λ v. get_or C v 0) (sym here)))

    -- the positions from p on, on which the walk ends
    span_ends : (p end before load : ℕ) (parted : Bool) → p ≤ end → end < length C → get_or C end 0 ≡ walk.to →
        IsSpan demands C p end load parted → at_place p before → Found s (before + load) parted
    span_ends p end before load true le lt e span w =
        let c = span.copy refl in
        copy_found span.at (before + load) c.1
        (walks_to (span.at - p) p span.at before (before + load) (omega (arith, span.range)) (omega (arith, c.0, lt))
        (λ i a b. (span.plain i a b, apart i end e (inl (omega (arith, b, c.0))) (omega (arith, b, c.0, lt)) lt)) w
        (omega (arith, span.load)))
    span_ends p end before load false le lt e span w =
        let whole = span.whole refl in
        let ends : load + load_up_to demands C p ≡ load_up_to demands C (end + 1) =
        span.load ∙ ap (load_up_to demands C) whole in
        end_found end (before + (load_up_to demands C end - load_up_to demands C p)) (before + load) lt
        (span.plain end le (omega (arith, whole))) e
        (walks_to (end - p) p end before _ (omega (arith, le)) lt
        (λ i a b. (span.plain i a (omega (arith, b, whole)), apart i end e (inl b) (omega (arith, b, lt)) lt)) w
        (omega (arith, load-rises demands C p end le)))
        (omega (arith, ends, load-rises demands C p end le))

    -- the positions from p on up to the last, if the walk ends before p
    span_copy : (p end load before : ℕ) → end < p → p < length C → get_or C end 0 ≡ walk.to →
        IsSpan demands C p (length C - 1) load true → at_place p before → Found s (before + load) true
    span_copy p end load before lt room e span w =
        let c = span.copy refl in
        copy_found span.at (before + load) c.1
        (walks_to (span.at - p) p span.at before (before + load) (omega (arith, span.range)) (omega (
          arith,
          c.0,
          room,
        ))
        (λ i a b. (
          span.plain i a b,
          apart i end e (inr (omega (arith, a, lt))) (omega (arith, b, c.0, room)) (omega (arith, lt, room)),
        )) w (omega (arith, span.load)))

    span_passed : (p end load before : ℕ) → end < p → p < length C → get_or C end 0 ≡ walk.to →
        IsSpan demands C p (length C - 1) load false → at_place p before →
        at_place 0 (before + load)
    span_passed p end load before lt room e span w =
        let last : ℕ = length C - 1 in
        let whole : span.at ≡ last + 1 = span.whole refl in
        let ends : load + load_up_to demands C p ≡ load_up_to demands C (last + 1) =
        span.load ∙ ap (load_up_to demands C) whole in
        let passed : (i : ℕ) → p ≤ i → i < last + 1 → IsPassed i = λ i a b. (
          span.plain i a (omega (arith, b, whole)),
          apart i end e (inr (omega (arith, a, lt))) (omega (arith, b, room)) (omega (arith, lt, room)),
        ) in
        one_more last 0 (before + (load_up_to demands C last - load_up_to demands C p)) (before + load)
        (omega (arith, room)) (passed last (omega (arith, room)) (omega arith))
        (walks_to (last - p) p last before _ (omega (arith, room)) (omega (arith, room))
        (λ i a b. passed i a (omega (arith, b))) w (omega (arith, load-rises demands C p last (omega (arith, room)))))
        (omega (
          arith,
          ends,
          load-rises demands C p last (omega (arith, room)),
          load-rises demands C last (last + 1) (omega arith),
        )) (first_place last (omega (arith, room)))

    -- the whole walk, from p to end
    pub ahead_found : (p end load : ℕ) (parted : Bool) → p ≤ end → p < length C → end < length C →
        get_or C p 0 ≡ walk.from → get_or C end 0 ≡ walk.to → IsSpan demands C p end load parted →
        Found s load parted
    ahead_found p end load parted le a b from e span =
        subst (λ v. Found s v parted) (let none : 0 + load ≡ load = omega arith in none)
        (span_ends p end 0 load parted le b e span
        (subst (λ c. Walked q demands h.path c 0) (sym from) (begins_walk q demands C walk s h)))

    pub around_copy : (p end load : ℕ) → end < p → p < length C → get_or C p 0 ≡ walk.from → get_or C end 0 ≡ walk.to →
        IsSpan demands C p (length C - 1) load true → Found s load true
    around_copy p end load lt a from e span =
        subst (λ v. Found s v true) (let none : 0 + load ≡ load = omega arith in none)
        (span_copy p end load 0 lt a e span
        (subst (λ c. Walked q demands h.path c 0) (sym from) (begins_walk q demands C walk s h)))

    pub around_found : (p end load more : ℕ) (parted : Bool) → end < p → p < length C → get_or C p 0 ≡ walk.from →
        get_or C end 0 ≡ walk.to → IsSpan demands C p (length C - 1) load false → IsSpan demands C 0 end more parted →
        Found s (load + more) parted
    around_found p end load more parted lt a from e span rest =
        subst (λ v. Found s v parted) (let none : 0 + load + more ≡ load + more = omega arith in none)
        (span_ends 0 end (0 + load) more parted (omega arith) (omega (arith, lt, a)) e rest
        (span_passed p end load 0 lt a e span
        (subst (λ c. Walked q demands h.path c 0) (sym from) (begins_walk q demands C walk s h))))

  -- backward
  module _ (backward : walk.forward ≡ false) where
    place_before : (p : ℕ) → p + 1 < length C → step_on walk.forward C (get_or C (p + 1) 0) ≡ get_or C p 0
    place_before p lt =
        ap (λ f. step_on f C (get_or C (p + 1) 0)) backward
        ∙ sym (prev_city_stored C (p + 1) (get_or C p 0) (get_or C (p + 1) 0) sized.2 lt refl
        (inl (omega arith, ap (λ v. get_or C v 0) (omega arith))))

    last_place : step_on walk.forward C (get_or C 0 0) ≡ get_or C (length C - 1) 0
    last_place =
        ap (λ f. step_on f C (get_or C 0 0)) backward
        ∙ sym (prev_city_stored C 0 (get_or C (length C - 1) 0) (get_or C 0 0) sized.2 (omega (arith, sized.0)) refl
        (inr (refl, refl)))

    walks_back : (m p r load total : ℕ) → p ≡ r + m → p < length C → ((i : ℕ) → r < i → i ≤ p → IsPassed i) →
        at_place p load → total + load_up_to demands C (r + 1) ≡ load + load_up_to demands C (p + 1) →
        at_place r total
    walks_back zero p r load total e lt passed w sum =
        let same : p ≡ r = omega (arith, e) in
        let loads : load ≡ total = omega (arith, sum, ap (λ v. load_up_to demands C (v + 1)) same) in
        subst (λ v. at_place r v) loads (subst (λ v. at_place v load) same w)
    walks_back (suc m) p r load total e lt passed w sum =
        let rises = load-rises demands C (r + 1 + 1) (p + 1) (omega (arith, e)) in
        let before : at_place (r + 1)
        (load + (load_up_to demands C (p + 1) - load_up_to demands C (r + 1 + 1))) =
        walks_back m p (r + 1) load _ (omega (arith, e)) lt (λ i a b. passed i (omega (arith, a)) b) w
        (omega (arith, rises)) in
        (one_more (r + 1) r _ total (omega (arith, e, lt)) (passed (r + 1) (omega arith) (omega (arith, e)))
        before (omega (arith, sum, rises, load-rises demands C (r + 1) (r + 1 + 1) (omega arith)))
        (place_before r (omega (arith, e, lt))))

    -- the positions from p back on, on which the walk ends
    span_ends_back : (p end before load : ℕ) (parted : Bool) → end ≤ p → p < length C → get_or C end 0 ≡ walk.to →
        IsSpanBack demands C end p load parted → at_place p before → Found s (before + load) parted
    span_ends_back p end before load true le lt e span w =
        let c = span.copy refl in
        copy_found c.0 (before + load) c.3
        (walks_back (p - c.0) p c.0 before (before + load) (omega (arith, c.1, span.range)) lt
        (λ i a b. (
          span.plain i (omega (arith, a, c.1)) b,
          apart i end e (inr (omega (arith, a, c.2))) (omega (arith, b, lt)) (omega (arith, le, lt)),
        )) w (omega (arith, span.load, ap (load_up_to demands C) c.1)))
    span_ends_back p end before load false le lt e span w =
        let whole = span.whole refl in
        let starts : load + load_up_to demands C end ≡ load_up_to demands C (p + 1) =
        ap (λ v. load + load_up_to demands C v) (sym whole) ∙ span.load in
        let rises = load-rises demands C (end + 1) (p + 1) (omega (arith, le)) in
        end_found end (before + (load_up_to demands C (p + 1) - load_up_to demands C (end + 1)))
        (before + load) (omega (arith, le, lt)) (span.plain end (omega (arith, whole)) le) e
        (walks_back (p - end) p end before _ (omega (arith, le)) lt
        (λ i a b. (
          span.plain i (omega (arith, a, whole)) b,
          apart i end e (inr a) (omega (arith, b, lt)) (omega (arith, le, lt)),
        )) w (omega (arith, rises)))
        (omega (arith, starts, rises, load-rises demands C end (end + 1) (omega arith)))

    -- the positions from p back to the first, if the walk ends behind p
    span_copy_back : (p end load before : ℕ) → p < end → end < length C → get_or C end 0 ≡ walk.to →
        IsSpanBack demands C 0 p load true → at_place p before → Found s (before + load) true
    span_copy_back p end load before lt room e span w =
        let c = span.copy refl in
        copy_found c.0 (before + load) c.3
        (walks_back (p - c.0) p c.0 before (before + load) (omega (arith, c.1, span.range)) (omega (arith, lt, room))
        (λ i a b. (
          span.plain i (omega (arith, a, c.1)) b,
          apart i end e (inl (omega (arith, b, lt))) (omega (arith, b, lt, room)) room,
        )) w (omega (arith, span.load, ap (load_up_to demands C) c.1)))

    span_passed_back : (p end load before : ℕ) → p < end → end < length C → get_or C end 0 ≡ walk.to →
        IsSpanBack demands C 0 p load false → at_place p before →
        at_place (length C - 1) (before + load)
    span_passed_back p end load before lt room e span w =
        let whole : span.at ≡ 0 = span.whole refl in
        let starts : load + load_up_to demands C 0 ≡ load_up_to demands C (p + 1) =
        ap (λ v. load + load_up_to demands C v) (sym whole) ∙ span.load in
        let passed : (i : ℕ) → i ≤ p → IsPassed i = λ i b. (
          span.plain i (omega (arith, whole)) b,
          apart i end e (inl (omega (arith, b, lt))) (omega (arith, b, lt, room)) room,
        ) in
        let rises = load-rises demands C (0 + 1) (p + 1) (omega arith) in
        one_more 0 (length C - 1) (before + (load_up_to demands C (p + 1) - load_up_to demands C (0 + 1)))
        (before + load) (omega (arith, room)) (passed 0 (omega arith))
        (walks_back p p 0 before _ (omega arith) (omega (arith, lt, room)) (λ i a b. passed i b) w
        (omega (arith, rises)))
        (omega (arith, starts, rises, load-rises demands C 0 (0 + 1) (omega arith))) last_place

    -- the whole walk, from p back to end
    pub behind_found : (p end load : ℕ) (parted : Bool) → end ≤ p → p < length C → get_or C p 0 ≡ walk.from →
        get_or C end 0 ≡ walk.to → IsSpanBack demands C end p load parted → Found s load parted
    behind_found p end load parted le a from e span =
        subst (λ v. Found s v parted) (let none : 0 + load ≡ load = omega arith in none)
        (span_ends_back p end 0 load parted le a e span
        (subst (λ c. Walked q demands h.path c 0) (sym from) (begins_walk q demands C walk s h)))

    pub round_copy : (p end load : ℕ) → p < end → end < length C → get_or C p 0 ≡ walk.from → get_or C end 0 ≡ walk.to →
        IsSpanBack demands C 0 p load true → Found s load true
    round_copy p end load lt b from e span =
        subst (λ v. Found s v true) (let none : 0 + load ≡ load = omega arith in none)
        (span_copy_back p end load 0 lt b e span
        (subst (λ c. Walked q demands h.path c 0) (sym from) (begins_walk q demands C walk s h)))

    pub round_found : (p end load more : ℕ) (parted : Bool) → p < end → end < length C → get_or C p 0 ≡ walk.from →
        get_or C end 0 ≡ walk.to → IsSpanBack demands C 0 p load false → IsSpanBack demands C end (length C - 1) more
        parted
        → Found s (load + more) parted
    round_found p end load more parted lt b from e span rest =
        subst (λ v. Found s v parted) (let none : 0 + load + more ≡ load + more = omega arith in none)
        (span_ends_back (length C - 1) end (0 + load) more parted (omega (arith, b)) (omega (arith, b)) e rest
        (span_passed_back p end load 0 lt b e span
        (subst (λ c. Walked q demands h.path c 0) (sym from) (begins_walk q demands C walk s h))))

-- the loads of a walk, given by the positions where it begins and ends
pub walk_between : (q : ℕ) (demands C : List ℕ) (walk : Walk) (s : Stretch) (p end : ℕ) (forward : Bool) →
    get_or C p 0 ≡ walk.from → get_or C end 0 ≡ walk.to → walk.forward ≡ forward → HasLoads q demands C walk s →
    HasLoads q demands C (record { from = get_or C p 0; to = get_or C end 0; forward = forward }) s
walk_between q demands C walk s p end forward from to way h =
    subst (λ v. HasLoads q demands C (record { from = v; to = get_or C end 0; forward = forward }) s) (sym from)
    (subst (λ v. HasLoads q demands C (record { from = walk.from; to = v; forward = forward }) s) (sym to)
    (subst (λ v. HasLoads q demands C (record { from = walk.from; to = walk.to; forward = v }) s) way h))
