-- The four parts of a ring at a kick.
use Rattle.std.proofs.Common.{◌≡◌, ℕ, ◌+◌, ◌-◌, ◌<◌, ◌≤◌, inl, true, List, ◌++◌, length, map, get_or, take}
use Rattle.std.proofs.Common.{drop}
use Rattle.std.proofs.Common.{sym, ap, ◌∙◌, subst, arith}
use Rattle.std.proofs.Math.Seq.{take-length}
use Rattle.std.proofs.lemmas.List.{append_assoc, get_or-drop, get_or-take, length-drop, length-take-le, take-take}
use Rattle.std.proofs.lemmas.List.{take-append-drop}
use Rattle.tk_distance.specs.Cities.{city_at}
use Rattle.tk_tour.specs.Moves.{CutInFour, IsBridged}
use Rattle.tk_tour.specs.Tour.{IsPath, IsRotation, SameCycle, tour_length}
use Rattle.tk_tour.proofs.Cycle.{SameCycle-trans}
use Rattle.tk_tour.proofs.StoredTours.Places.{IsPath-from_ends, IsRotation-begun_at, length-begun_at}
use Rattle.tk_descent.proofs.MovesOnTours.Length.{length-cycle}
use Rattle.tk_descent.proofs.MovesOnTours.Steps.{rotation-trans}
use Rattle.tk_rings.specs.Capacities.{demand_in, is_copy, loads_of}
use Rattle.tk_rings.specs.Loads.{AreLoadsOf}
use Rattle.tk_rings.specs.Rings.{is_closed, join}
use Rattle.tk_rings.specs.StretchLaws.{st-append}
use Rattle.tk_rings.specs.declared.stretch.Stretch.{Stretch}
use Rattle.tk_search.specs.Cuts.{AreCuts, end_places, part_a, part_b, part_c, part_d, steps_in, steps_out}
use Rattle.tk_search.proofs.DoubleBridge.Kicks.{SizedCut, bridged_at_ends, cut_at_ends, length_at_ends}
use Rattle.tk_ring_search.specs.Kicks.{IsKick, ends_of, is_within, kicked, read_from}
use Rattle.tk_ring_search.specs.declared.kicks.kick.Kick.{Kick}

module _ (C e : List ℕ) (kick : Kick) (are : IsKick (length C) kick) (ends : e ≡ ends_of kick C) where
  abbrev R : List ℕ
  R = read_from kick C

  size : length R ≡ length C
  size = length-begun_at (kick.first - 1) C

  begun : IsRotation C R
  begun = IsRotation-begun_at (kick.first - 1) C

  cuts_of : AreCuts (length R) kick.cuts
  cuts_of = subst (λ n. AreCuts n kick.cuts) (sym size) are.cuts

  ends_are : e ≡ map (city_at R) (end_places (length R) kick.cuts)
  ends_are = ends ∙ ap (λ n. map (city_at R) (end_places n kick.cuts)) (sym size)

  -- the cut of the ring, wherever it is begun
  abbrev around : {a1 an b1 bn c1 cn d1 dn : ℕ} → CutInFour R a1 an b1 bn c1 cn d1 dn → CutInFour C a1 an b1 bn c1 cn
      d1 dn
  around k = record {
    a = k.a;
    b = k.b;
    c = k.c;
    d = k.d;
    is_a = k.is_a;
    is_b = k.is_b;
    is_c = k.is_c;
    is_d = k.is_d;
    cycle = SameCycle-trans (inl begun) k.cycle;
  }

  pub cut_of : SizedCut C e kick.cuts
  cut_of =
      let s = cut_at_ends R e kick.cuts cuts_of ends_are in
      record { cut = around s.cut; a = s.a; b = s.b; c = s.c; d = s.d ∙ ap (λ n. n - kick.cuts.r) size }

  pub bridged_of : (ys : List ℕ) →
      IsBridged C ys (get_or e 0 0) (get_or e 1 0) (get_or e 2 0) (get_or e 3 0) (get_or e 4 0) (get_or e 5 0)
      (get_or e 6 0) (get_or e 7 0) → SameCycle ys (kicked kick C)
  bridged_of ys h = bridged_at_ends R e kick.cuts cuts_of ends_are ys (λ k. h (around k))

  -- the lengths before and after, and the edges at the ends of the parts
  pub length_of : (d : ℕ → ℕ → ℕ) → ((a b : ℕ) → d a b ≡ d b a) → (ys : List ℕ) → SameCycle ys (kicked kick C) →
      tour_length d ys + steps_out d e ≡ tour_length d C + steps_in d e
  length_of d s ys h =
      length_at_ends R e kick.cuts cuts_of ends_are d s ys h
      ∙ ap (λ v. v + steps_in d e) (sym (length-cycle d s C R (inl begun)))

  -- the list up to index i, followed by the entries from there to j - 1
  joined : (i j : ℕ) → i ≤ j → take i R ++ drop i (take j R) ≡ take j R
  joined i j le = ap (λ v. v ++ drop i (take j R)) (sym (take-take i j R le)) ∙ take-append-drop i (take j R)

  -- the entries from index i to j - 1, and those after and before them
  abbrev part : ℕ → ℕ → List ℕ
  part i j = drop i (take j R)

  abbrev others : ℕ → ℕ → List ℕ
  others i j = drop j R ++ take i R

  turned_to : (i j : ℕ) → i ≤ j → IsRotation C (part i j ++ others i j)
  turned_to i j le = rotation-trans C R (part i j ++ others i j) begun (record {
    front = take i R;
    back = part i j ++ drop j R;
    before = sym (sym (append_assoc (take i R) (part i j) (drop j R)) ∙ ap (λ v. v ++ drop j R) (joined i j le)
        ∙ take-append-drop j R);
    after = sym (append_assoc (part i j) (drop j R) (take i R));
  })

  path : (i j from to : ℕ) → i < j → j ≤ length R → get_or R i 0 ≡ from → get_or R (j - 1) 0 ≡ to →
      IsPath from (part i j) to
  path i j from to lt le ef et =
      let l : length (part i j) ≡ j - i = length-drop i (take j R) ∙ ap (λ v. v - i) (length-take-le j R le) in
      IsPath-from_ends from to (part i j) (omega (arith, l))
      (get_or-drop i (take j R) 0 0 ∙ get_or-take j R (i + 0) 0 (omega arith)
      ∙ ap (λ v. get_or R v 0) (omega arith) ∙ ef)
      (ap (λ v. get_or (part i j) (v - 1) 0) l ∙ get_or-drop i (take j R) (j - i - 1) 0
      ∙ get_or-take j R (i + (j - i - 1)) 0 (omega arith) ∙ ap (λ v. get_or R v 0) (omega arith) ∙ et)

  module _ (q : ℕ) (demands : List ℕ) where
    abbrev st : List ℕ → Stretch
    st xs = loads_of q demands xs

    reported : (i j from to : ℕ) (s : Stretch) → i < j → j ≤ length R → get_or R i 0 ≡ from → get_or R (j - 1) 0 ≡ to →
        AreLoadsOf q demands C from to true s → s ≡ st (part i j)
    reported i j from to s lt le ef et loads =
        loads (part i j) (others i j) (turned_to i j (omega arith)) (path i j from to lt le ef et)

    -- the loads of the four parts, joined in the order after the kick
    pub is_within_by : (sA sB sC sD : Stretch) → AreLoadsOf q demands C (get_or e 0 0) (get_or e 1 0) true sA →
        AreLoadsOf q demands C (get_or e 2 0) (get_or e 3 0) true sB → AreLoadsOf q demands C (get_or e 4 0) (get_or
        e 5 0) true sC →
        AreLoadsOf q demands C (get_or e 6 0) (get_or e 7 0) true sD →
        is_closed q (join q (join q (join q sA sD) sC) sB) ≡ is_within q demands (kicked kick C)
    is_within_by sA sB sC sD tA tB tC tD =
        let p : ℕ = kick.cuts.p in
        let r : ℕ = kick.cuts.r in
        let A : List ℕ = part_a kick.cuts R in
        let B : List ℕ = part_b kick.cuts R in
        let D : List ℕ = part_d kick.cuts R in
        let M : List ℕ = part_c kick.cuts R in
        let at : (k : ℕ) → get_or (ends_of kick C) k 0 ≡ get_or e k 0 = λ k. ap (λ v. get_or v k 0) (sym ends) in
        let next : (k : ℕ) → get_or R k 0 ≡ get_or R (k + 1 - 1) 0 = λ k. ap (λ v. get_or R v 0) (omega arith) in
        let a = cuts_of in
        let eA : sA ≡ st A = reported 0 p _ _ sA (omega (arith, a.first)) (omega (arith, a.second, a.third, a.last))
        (at 0) (at 1) tA in
        let eB : sB ≡ st B = reported p kick.cuts.q _ _ sB a.second (omega (arith, a.third, a.last))
        (next p ∙ at 2) (at 3) tB in
        let eC : sC ≡ st M = reported kick.cuts.q r _ _ sC a.third (omega (arith, a.last)) (next kick.cuts.q ∙ at 4)
        (at 5)
        tC in
        let eD : sD ≡ st D = reported r (length R) _ _ sD a.last (omega arith) (next r ∙ at 6)
        (ap (λ n. get_or R (n - 1) 0) size ∙ at 7) tD ∙ ap (λ v. st (drop r v)) (take-length R) in
        ap (λ z. is_closed q (join q (join q (join q z sD) sC) sB)) eA
        ∙ ap (λ z. is_closed q (join q (join q (join q (st A) z) sC) sB)) eD
        ∙ ap (λ z. is_closed q (join q (join q (join q (st A) (st D)) z) sB)) eC
        ∙ ap (λ z. is_closed q (join q (join q (join q (st A) (st D)) (st M)) z)) eB
        ∙ ap (λ z. is_closed q (join q (join q z (st M)) (st B)))
        (sym (st-append q (demand_in demands) (is_copy demands) A D))
        ∙ ap (λ z. is_closed q (join q z (st B)))
        (sym (st-append q (demand_in demands) (is_copy demands) (A ++ D) M))
        ∙ ap (is_closed q) (sym (st-append q (demand_in demands) (is_copy demands) ((A ++ D) ++ M) B))
