-- The four parts of a list of cities at cuts, and their ends.
use Rattle.std.proofs.Common.{◌≡◌, ℕ, ◌+◌, ◌-◌, ◌<◌, ◌≤◌, inl, List, [], ◌++◌, length, map, get_or, take, drop, refl}
use Rattle.std.proofs.Common.{sym, ap, ◌∙◌, subst, arith}
use Rattle.std.proofs.Math.Seq.{take-length}
use Rattle.std.proofs.lemmas.List.{append-nil, get_or-drop, get_or-take, length-drop, length-take-le, take-take}
use Rattle.std.proofs.lemmas.List.{take-append-drop}
use Rattle.tk_distance.specs.Cities.{city_at}
use Rattle.tk_tour.specs.Moves.{CutInFour, IsBridged}
use Rattle.tk_tour.specs.Tour.{IsPath, SameCycle, tour_length}
use Rattle.tk_tour.proofs.StoredTours.Places.{IsPath-from_ends}
use Rattle.tk_search.specs.Cuts.{AreCuts, bridged, end_places, part_a, part_b, part_c, part_d, steps_in, steps_out}
use Rattle.tk_search.specs.declared.double_bridges.cuts.Cuts.{Cuts}
use Rattle.tk_search.proofs.DoubleBridge.BridgeLength.{exchanged}

-- the entries at the indices from i to j - 1 are a path
path : (xs : List ℕ) (i j from to : ℕ) → i < j → j ≤ length xs → get_or xs i 0 ≡ from → get_or xs (j - 1) 0 ≡ to →
    IsPath from (drop i (take j xs)) to
path xs i j from to lt le ef et =
    let l : length (drop i (take j xs)) ≡ j - i = length-drop i (take j xs)
    ∙ ap (λ v. v - i) (length-take-le j xs le) in
    IsPath-from_ends from to (drop i (take j xs)) (omega (arith, l))
    (get_or-drop i (take j xs) 0 0 ∙ get_or-take j xs (i + 0) 0 (omega arith)
    ∙ ap (λ v. get_or xs v 0) (omega arith) ∙ ef)
    (ap (λ v. get_or (drop i (take j xs)) (v - 1) 0) l ∙ get_or-drop i (take j xs) (j - i - 1) 0
    ∙ get_or-take j xs (i + (j - i - 1)) 0 (omega arith) ∙
    ap (λ v. get_or xs v 0) (omega arith) ∙ et)

-- the entries before index i, followed by those from i to j - 1
joined : (xs : List ℕ) (i j : ℕ) → i ≤ j → take i xs ++ drop i (take j xs) ≡ take j xs
joined xs i j le = ap (λ v. v ++ drop i (take j xs)) (sym (take-take i j xs le)) ∙ take-append-drop i (take j xs)

-- the list consists of the parts
pub parts_join : (xs : List ℕ) (cuts : Cuts) → AreCuts (length xs) cuts → part_a cuts xs ++ part_b cuts xs
    ++ part_c cuts xs ++ part_d cuts xs ≡ xs
parts_join xs cuts are =
    ap (λ v. v ++ part_c cuts xs ++ part_d cuts xs) (joined xs cuts.p cuts.q (omega (arith, are.second))) ∙
    ap (λ v. v ++ part_d cuts xs) (joined xs cuts.q cuts.r (omega (arith, are.third))) ∙
    take-append-drop cuts.r xs

-- a list cut into four parts with these eight ends, and with the sizes of the cuts
pub record SizedCut (xs e : List ℕ) (cuts : Cuts) : Type 0 where
  pub cut : CutInFour xs (get_or e 0 0) (get_or e 1 0) (get_or e 2 0) (get_or e 3 0) (get_or e 4 0) (get_or e 5 0)
      (get_or e 6 0) (get_or e 7 0)
  pub a : length cut.a ≡ cuts.p
  pub b : length cut.b ≡ cuts.q - cuts.p
  pub c : length cut.c ≡ cuts.r - cuts.q
  pub d : length cut.d ≡ length xs - cuts.r

-- the list is cut into four at the ends of its parts
sized : (xs : List ℕ) (cuts : Cuts) → AreCuts (length xs) cuts →
    SizedCut xs (map (city_at xs) (end_places (length xs) cuts)) cuts
sized xs cuts are =
    let n : ℕ = length xs in
    let next : (k : ℕ) → get_or xs k 0 ≡ get_or xs (k + 1 - 1) 0 = λ k. ap (λ v. get_or xs v 0) (omega arith) in
    let P : List ℕ → Type 0 = λ v. IsPath (get_or xs (cuts.r + 1 - 1) 0) (drop cuts.r v) (get_or xs (n - 1) 0) in
    let p : cuts.p ≤ n = omega (arith, are.second, are.third, are.last) in
    let q : cuts.q ≤ n = omega (arith, are.third, are.last) in
    let r : cuts.r ≤ n = omega (arith, are.last) in
    record {
      cut = record {
        a = part_a cuts xs;
        b = part_b cuts xs;
        c = part_c cuts xs;
        d = part_d cuts xs;
        is_a = path xs 0 cuts.p _ _ (omega (arith, are.first)) p refl refl;
        is_b = path xs cuts.p cuts.q _ _ are.second q (next cuts.p) refl;
        is_c = path xs cuts.q cuts.r _ _ are.third r (next cuts.q) refl;
        is_d = subst P (take-length xs) (path xs cuts.r n _ _ are.last (omega arith) (next cuts.r) refl);
        cycle = inl (record { front = xs; back = []; before = sym (append-nil xs); after = parts_join xs cuts are });
      };
      a = length-take-le cuts.p xs p;
      b = length-drop cuts.p (take cuts.q xs) ∙ ap (λ v. v - cuts.p) (length-take-le cuts.q xs q);
      c = length-drop cuts.q (take cuts.r xs) ∙ ap (λ v. v - cuts.q) (length-take-le cuts.r xs r);
      d = length-drop cuts.r xs;
    }

module _ (xs e : List ℕ) (cuts : Cuts) (are : AreCuts (length xs) cuts)
    (ends : e ≡ map (city_at xs) (end_places (length xs) cuts)) where
  pub cut_at_ends : SizedCut xs e cuts
  cut_at_ends = subst (λ (v : List ℕ). SizedCut xs v cuts) (sym ends) (sized xs cuts are)

  pub bridged_at_ends : (ys : List ℕ) →
      IsBridged xs ys (get_or e 0 0) (get_or e 1 0) (get_or e 2 0) (get_or e 3 0) (get_or e 4 0) (get_or e 5 0)
      (get_or e 6 0) (get_or e 7 0) → SameCycle ys (bridged cuts xs)
  unfolding sized
  bridged_at_ends ys h =
      let P : List ℕ → Type 0 = λ v. IsBridged xs ys (get_or v 0 0) (get_or v 1 0) (get_or v 2 0) (get_or v 3 0)
      (get_or v 4 0) (get_or v 5 0) (get_or v 6 0) (get_or v 7 0) in
      subst P ends h (sized xs cuts are).cut

  -- the lengths before and after, and the edges at the ends of the parts
  pub length_at_ends : (d : ℕ → ℕ → ℕ) → ((a b : ℕ) → d a b ≡ d b a) → (ys : List ℕ) → SameCycle ys (bridged cuts xs) →
      tour_length d ys + steps_out d e ≡ tour_length d xs + steps_in d e
  unfolding sized
  length_at_ends d s ys h =
      let P : List ℕ → Type 0 = λ v. tour_length d ys + steps_out d v ≡ tour_length d xs + steps_in d v in
      subst P (sym ends) (exchanged d s xs ys _ _ _ _ _ _ _ _ (sized xs cuts are).cut h)
