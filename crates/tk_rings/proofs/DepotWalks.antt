-- A walk along a path, up to a copy of the depot.
use Rattle.std.proofs.Common.{◌≡◌, ℕ, ◌+◌, Bool, true, false, cond, not, List, [], ◌∷◌, ◌++◌}
use Rattle.std.proofs.Common.{refl, sym, ◌∙◌, ap, arith, subst, append_assoc, reverse}
use Rattle.std.proofs.lemmas.Bool.{both_ways}
use Rattle.std.proofs.lemmas.List.{reverse-append, reverse-reverse}
use Rattle.tk_distance.specs.Holding.{holds, IsDistinct}
use Rattle.tk_tour.specs.Tour.{IsRotation}
use Rattle.tk_descent.proofs.MovesOnTours.Paths.{Spans, last_from}
use Rattle.tk_descent.proofs.MovesOnTours.Length.{last_from-append, Spans-reverse}
use Rattle.tk_descent.proofs.MovesOnTours.Steps.{distinct-parts, distinct-reverse, distinct-rotation}
use Rattle.tk_descent.proofs.MovesOnTours.Steps.{holds-last, turned, rotation-trans, rotation-reverse}
use Rattle.tk_descent.proofs.MovesOnTours.Views.{path_of, spans_of}
use Rattle.tk_descent.proofs.OfferLists.Ways.{step_in, ways_on, ways_back, last_same}
use Rattle.tk_rings.specs.Capacities.{demand_in, is_copy, loads_of, way, step_on}
use Rattle.tk_rings.specs.Loads.{HasLoads}
use Rattle.tk_rings.specs.Rings.{whole, copy, join, turned as turned_stretch}
use Rattle.tk_rings.specs.Walking.{back}
use Rattle.tk_rings.specs.StretchLaws.{View, one, more, view, st-append, st-reverse}
use Rattle.tk_rings.specs.declared.stretch.Stretch.{Stretch}
use Rattle.tk_rings.specs.declared.walk.Walk.{Walk}

-- a path whose part before c has no copy of the depot
pub record Walked (q : ℕ) (demands path : List ℕ) (c load : ℕ) : Type 0 where
  pub done : List ℕ
  pub left : List ℕ
  pub cut : path ≡ done ++ c ∷ left
  pub plain : loads_of q demands done ≡ whole load

way_distinct : (forward : Bool) (C : List ℕ) → IsDistinct C → IsDistinct (way forward C)
way_distinct true C d = d
way_distinct false C d = distinct-reverse C d

step_way : (forward : Bool) (C us vs : List ℕ) (x c : ℕ) → IsDistinct C →
    IsRotation (way forward C) (us ++ x ∷ c ∷ vs) → step_on forward C x ≡ c
step_way true C us vs x c d r = step_in (ways_on C d) us vs x c r
step_way false C us vs x c d r = step_in (ways_back C d) us vs x c r

module _ (q : ℕ) (demands : List ℕ) where
  begins : (path : List ℕ) (from to : ℕ) → Spans path from to → Walked q demands path from 0
  begins [] from to s = absurd s
  begins (b ∷ path) from to s =
      record { done = []; left = path; cut = ap (λ z. z ∷ path) s.0; plain = refl }

  loads_one : (c : ℕ) (b : Bool) → is_copy demands c ≡ b →
      loads_of q demands (c ∷ []) ≡ join q (cond b copy (whole (demand_in demands c))) (whole 0)
  loads_one c b e = ap (λ z. join q (cond z copy (whole (demand_in demands c))) (whole 0)) e

  plain_more : (done : List ℕ) (c load : ℕ) → loads_of q demands done ≡ whole load → is_copy demands c ≡ false →
      loads_of q demands (done ++ c ∷ []) ≡ whole (load + demand_in demands c)
  plain_more done c load h e =
      st-append q (demand_in demands) (is_copy demands) done (c ∷ [])
      ∙ ap (λ z. join q z (loads_of q demands (c ∷ []))) h ∙ ap (join q (whole load)) (loads_one c false e)
      ∙ ap whole (omega arith)

  module _ (forward : Bool) (C path rest : List ℕ) (from to c load : ℕ) (dis : IsDistinct C)
      (rot : IsRotation (way forward C) (path ++ rest)) (s : Spans path from to)
      (w : Walked q demands path c load) where
    whole_is : (left : List ℕ) → w.left ≡ left → path ++ rest ≡ w.done ++ c ∷ (left ++ rest)
    whole_is left e = ap (λ z. z ++ rest) (w.cut ∙ ap (λ z. w.done ++ c ∷ z) e)
        ∙ append_assoc w.done (c ∷ left) rest

    walks_on : (load' : ℕ) → is_copy demands c ≡ false → (c ≡ to → ⊥) → load' ≡ load + demand_in demands c →
        Walked q demands path (step_on forward C c) load'
    walks_on load' plain ne same = on w.left refl
      where
        on : (left : List ℕ) → w.left ≡ left → Walked q demands path (step_on forward C c) load'
        on [] e =
            absurd (ne (sym (last_same w.done c from to
            (subst (λ z. Spans z from to) (w.cut ∙ ap (λ z. w.done ++ c ∷ z) e) s))))
        on (z ∷ left) e =
            let n : step_on forward C c ≡ z =
            step_way forward C w.done (left ++ rest) c z dis
            (subst (λ v. IsRotation (way forward C) v) (whole_is (z ∷ left) e) rot) in
            record {
              done = w.done ++ c ∷ [];
              left = left;
              cut = w.cut ∙ ap (λ v. w.done ++ c ∷ v) e ∙ sym (append_assoc w.done (c ∷ []) (z ∷ left))
                  ∙ ap (λ v. (w.done ++ c ∷ []) ++ v ∷ left) (sym n);
              plain = plain_more w.done c load w.plain plain ∙ ap whole (sym same);
            }

    after_copy : {t : Stretch} → View t → ((join q (whole load) (join q copy t)).head ≡ load)
        × ((join q (whole load) (join q copy t)).parted ≡ true)
    after_copy (one a) = (omega arith, refl)
    after_copy (more h i t) = (omega arith, refl)

    loads_cut : loads_of q demands path ≡ join q (whole load) (loads_of q demands (c ∷ w.left))
    loads_cut = ap (loads_of q demands) w.cut
        ∙ st-append q (demand_in demands) (is_copy demands) w.done (c ∷ w.left)
        ∙ ap (λ z. join q z (loads_of q demands (c ∷ w.left))) w.plain

    ends_at_copy : is_copy demands c ≡ true → ((loads_of q demands path).head ≡ load)
        × ((loads_of q demands path).parted ≡ true)
    ends_at_copy e =
        let same : loads_of q demands path ≡ join q (whole load) (join q copy (loads_of q demands w.left)) =
        loads_cut ∙ ap (join q (whole load))
        (ap (λ b. join q (cond b copy (whole (demand_in demands c))) (loads_of q demands w.left)) e) in
        let a = after_copy (view q (demand_in demands) (is_copy demands) w.left) in
        (ap (λ z. z.head) same ∙ a.0, ap (λ z. z.parted) same ∙ a.1)

    last_of : (us : List ℕ) (x z : ℕ) (vs : List ℕ) → Spans (us ++ x ∷ z ∷ vs) from to → last_from z vs ≡ to
    last_of [] x z vs h = h.1
    last_of (u ∷ us) x z vs h = sym (last_from-append u us (x ∷ z ∷ vs)) ∙ h.1

    ends_at_last : (load' : ℕ) → is_copy demands c ≡ false → c ≡ to → load' ≡ load + demand_in demands c →
        ((loads_of q demands path).head ≡ load') × ((loads_of q demands path).parted ≡ false)
    ends_at_last load' plain last same = at w.left refl
      where
        at : (left : List ℕ) → w.left ≡ left → ((loads_of q demands path).head ≡ load')
            × ((loads_of q demands path).parted ≡ false)
        at [] e =
            let all : loads_of q demands path ≡ whole load' =
            ap (loads_of q demands) (w.cut ∙ ap (λ z. w.done ++ c ∷ z) e)
            ∙ plain_more w.done c load w.plain plain ∙ ap whole (sym same) in
            (ap (λ z. z.head) all, ap (λ z. z.parted) all)
        at (z ∷ left) e =
            let d : IsDistinct (w.done ++ c ∷ z ∷ left) =
            subst IsDistinct (w.cut ∙ ap (λ v. w.done ++ c ∷ v) e)
            (distinct-parts path rest (distinct-rotation (way forward C) (path ++ rest) rot
            (way_distinct forward C dis))).0 in
            let free : holds (z ∷ left) c ≡ false = (distinct-parts w.done (c ∷ z ∷ left) d).1.0 in
            let s2 : Spans (w.done ++ c ∷ z ∷ left) from to =
            subst (λ v. Spans v from to) (w.cut ∙ ap (λ v. w.done ++ c ∷ v) e) s in
            absurd (both_ways (holds (z ∷ left) c) free
            (subst (λ v. holds (z ∷ left) v ≡ true) (sym last)
            (holds-last (z ∷ left) z to (refl, last_of w.done c z left s2))))

-- the way back
turn_way : (forward : Bool) (C path rest : List ℕ) → IsRotation (way forward C) (path ++ rest) →
    IsRotation (way (not forward) C) (reverse path ++ reverse rest)
turn_way forward C path rest r =
    rotation-trans (way (not forward) C) (reverse rest ++ reverse path) (reverse path ++ reverse rest)
    (subst (λ z. IsRotation z (reverse rest ++ reverse path)) (other forward)
    (subst (λ z. IsRotation (reverse (way forward C)) z) (reverse-append path rest)
    (rotation-reverse (way forward C) (path ++ rest) r))) (turned (reverse rest) (reverse path))
  where
    other : (f : Bool) → reverse (way f C) ≡ way (not f) C
    other true = refl
    other false = reverse-reverse C

-- the loads of the path, walked in the other direction
pub loads_back : (q : ℕ) (demands C : List ℕ) (walk : Walk) (s : Stretch) → HasLoads q demands C walk s →
    (other : Walk) → other ≡ back walk → HasLoads q demands C other (turned_stretch s)
loads_back q demands C walk s h other e =
    subst (λ z. HasLoads q demands C z (turned_stretch s)) (sym e)
    (record {
      path = reverse h.path;
      rest = reverse h.rest;
      on = turn_way walk.forward C h.path h.rest h.on;
      ends = path_of (reverse h.path) walk.to walk.from
          (Spans-reverse h.path walk.from walk.to (spans_of h.path walk.from walk.to h.ends));
      loads = ap turned_stretch h.loads ∙ sym (st-reverse q (demand_in demands) (is_copy demands) h.path);
    })

-- the loads of a path have the form of a stretch
pub view_loads : (q : ℕ) (demands C : List ℕ) (walk : Walk) (s : Stretch) → HasLoads q demands C walk s → View s
view_loads q demands C walk s h = subst View (sym h.loads) (view q (demand_in demands) (is_copy demands) h.path)

-- the load before the first copy, and whether there is one
abbrev pub Found : Stretch → ℕ → Bool → Type 0
Found s load parted = (s.head ≡ load) × (s.parted ≡ parted)

-- a walk on the path of a stretch: what is found at a copy, and at the last element
module _ (q : ℕ) (demands C : List ℕ) (walk : Walk) (s : Stretch) (h : HasLoads q demands C walk s) (dis : IsDistinct C)
    (c load : ℕ) (w : Walked q demands h.path c load) where
  ends : Spans h.path walk.from walk.to
  ends = spans_of h.path walk.from walk.to h.ends

  by_loads : (found : ℕ) (p : Bool) → Found (loads_of q demands h.path) found p → Found s found p
  by_loads found p e = (ap (λ z. z.head) h.loads ∙ e.0, ap (λ z. z.parted) h.loads ∙ e.1)

  pub copy_ahead : is_copy demands c ≡ true → Found s load true
  copy_ahead e =
      by_loads load true
      (ends_at_copy q demands walk.forward C h.path h.rest walk.from walk.to c load dis h.on ends w e)

  pub last_ahead : (found : ℕ) → is_copy demands c ≡ false → c ≡ walk.to → found ≡ load + demand_in demands c →
      Found s found false
  last_ahead found e last sum =
      by_loads found false
      (ends_at_last q demands walk.forward C h.path h.rest walk.from walk.to c load dis h.on ends w found e last sum)

  pub goes_on : (found : ℕ) → is_copy demands c ≡ false → (c ≡ walk.to → ⊥) → found ≡ load + demand_in demands c →
      Walked q demands h.path (step_on walk.forward C c) found
  goes_on found e ne sum =
      walks_on q demands walk.forward C h.path h.rest walk.from walk.to c load dis h.on ends w found e ne sum

pub begins_walk : (q : ℕ) (demands C : List ℕ) (walk : Walk) (s : Stretch) (h : HasLoads q demands C walk s) →
    Walked q demands h.path walk.from 0
begins_walk q demands C walk s h = begins q demands h.path walk.from walk.to (spans_of h.path walk.from walk.to h.ends)

-- a stretch whose routes fit, by its two loads
pub stretch_is : {s : Stretch} → View s → (p : Bool) (head tail : ℕ) → s.fits ≡ true → s.head ≡ head → s.parted ≡ p →
    (p ≡ true → s.tail ≡ tail) → (p ≡ false → head ≡ tail) →
    record { parted = p; head = head; tail = tail; fits = true } ≡ s
stretch_is (one a) true head tail f h e behind none = absurd (both_ways false refl e)
stretch_is (one a) false head tail f h e behind none =
    ap (λ v. record { parted = false; head = v; tail = tail; fits = true }) (sym h)
    ∙ ap (λ v. record { parted = false; head = a; tail = v; fits = true }) (sym (h ∙ none refl))
stretch_is (more x i y) true head tail f h e behind none =
    ap (λ v. record { parted = true; head = v; tail = tail; fits = true }) (sym h)
    ∙ ap (λ v. record { parted = true; head = x; tail = v; fits = true }) (sym (behind refl))
    ∙ ap (λ v. record { parted = true; head = x; tail = y; fits = v }) (sym f)
stretch_is (more x i y) false head tail f h e behind none = absurd (both_ways true e refl)
