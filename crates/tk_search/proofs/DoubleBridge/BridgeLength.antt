-- The length of a tour after the double bridge.
use Rattle.std.proofs.Common.{◌≡◌, ℕ, ℤ, ◌+◌, ◌≤◌, ◌+ℤ◌, ◌-ℤ◌, ◌≤ℤ◌, FitsSigned, List, ◌++◌, of_z, pos, to_z, w64, ap}
use Rattle.std.proofs.Common.{arith, subst, sym, ◌∙◌}
use Rattle.std.proofs.lemmas.Int.{ints, to_z-of_z}
use Rattle.tk_problem.specs.declared.limits.TheConstants.{DISTANCE_LIMIT}
use Rattle.tk_tour.specs.Moves.{CutInFour}
use Rattle.tk_tour.specs.Tour.{SameCycle, tour_length}
use Rattle.tk_descent.proofs.MovesOnTours.Length.{Spans-append, closed, inner, inner-append, length-cycle}
use Rattle.tk_descent.proofs.MovesOnTours.Paths.{Spans}
use Rattle.tk_descent.proofs.MovesOnTours.Views.{spans_of}
use Rattle.tk_search.specs.Cuts.{steps_in, steps_out}

-- the length of a tour that consists of four paths
length-four : (d : ℕ → ℕ → ℕ) (A B C D : List ℕ) (a1 an b1 bn c1 cn d1 dn : ℕ) → Spans A a1 an → Spans B b1 bn →
    Spans C c1 cn → Spans D d1 dn →
    tour_length d (A ++ B ++ C ++ D) ≡ inner d A + d an b1 + inner d B + d bn c1 + inner d C + d cn d1 + inner
    d D + d dn a1
length-four d A B C D a1 an b1 bn c1 cn d1 dn hA hB hC hD =
    let ab : Spans (A ++ B) a1 bn = Spans-append A B a1 an b1 bn hA hB in
    let abc : Spans ((A ++ B) ++ C) a1 cn = Spans-append (A ++ B) C a1 bn c1 cn ab hC in
    omega (
      arith,
      closed d (((A ++ B) ++ C) ++ D) a1 dn (Spans-append ((A ++ B) ++ C) D a1 cn d1 dn abc hD),
      inner-append d ((A ++ B) ++ C) D a1 cn d1 dn abc hD,
      inner-append d (A ++ B) C a1 bn c1 cn ab hC,
      inner-append d A B a1 an b1 bn hA hB,
    )

module _ (d : ℕ → ℕ → ℕ) (s : (a b : ℕ) → d a b ≡ d b a) where
  -- the difference of the lengths is that of the four edges added and the four removed
  pub exchanged : (old new : List ℕ) (a1 an b1 bn c1 cn d1 dn : ℕ) (cut : CutInFour old a1 an b1 bn c1 cn d1 dn) →
      SameCycle new (cut.a ++ cut.d ++ cut.c ++ cut.b) →
      tour_length d new + (d an b1 + d bn c1 + d cn d1 + d dn a1) ≡ tour_length d
      old + (d an d1 + d dn c1 + d cn b1 + d bn a1)
  exchanged old new a1 an b1 bn c1 cn d1 dn cut h =
      let hA = spans_of cut.a a1 an cut.is_a in
      let hB = spans_of cut.b b1 bn cut.is_b in
      let hC = spans_of cut.c c1 cn cut.is_c in
      let hD = spans_of cut.d d1 dn cut.is_d in
      omega (
        arith,
        length-cycle d s old (cut.a ++ cut.b ++ cut.c ++ cut.d) cut.cycle,
        length-cycle d s new (cut.a ++ cut.d ++ cut.c ++ cut.b) h,
        length-four d cut.a cut.b cut.c cut.d a1 an b1 bn c1 cn d1 dn hA hB hC hD,
        length-four d cut.a cut.d cut.c cut.b a1 an d1 dn c1 cn b1 bn hA hD hC hB,
      )

-- a number converted to 64 bits and back
abbrev held : ℤ → ℤ
held v = to_z w64 (of_z w64 v)

-- a sum of four numbers, and below a length with edges removed and added, computed in 64 bits
abbrev pub added_up : ℤ → ℤ → ℤ → ℤ → ℤ
added_up r s t u = held (held (held (held r +ℤ held s) +ℤ held t) +ℤ held u)

abbrev pub exchanged_by : ℤ → ℤ → ℤ → ℤ
exchanged_by before o p = held (held before -ℤ held o) +ℤ held p

pub added_is : (r s t u : ℤ) (a b c e : ℕ) → r ≡ pos a → s ≡ pos b → t ≡ pos c → u ≡ pos e → a ≤ DISTANCE_LIMIT →
    b ≤ DISTANCE_LIMIT → c ≤ DISTANCE_LIMIT → e ≤ DISTANCE_LIMIT →
    added_up r s t u ≡ pos (a + b + c + e)
added_is r s t u a b c e hr hs ht hu la lb lc le = omega (arith, ints, hr, hs, ht, hu, la, lb, lc, le)

module _ (before o p : ℤ) (a b : ℕ) (low : pos 0 ≤ℤ before) (high : before ≤ℤ pos 400000000000000) (ho : o ≡ pos a)
    (hp : p ≡ pos b) (la : a ≤ 16000000000) (lb : b ≤ 16000000000) where
  plain : exchanged_by before o p ≡ before -ℤ o +ℤ p
  plain =
      let fb : FitsSigned w64 before = omega (arith, ints, low, high) in
      let fo : FitsSigned w64 o = omega (arith, ints, ho, la) in
      let fp : FitsSigned w64 p = omega (arith, ints, hp, lb) in
      let fd : FitsSigned w64 (before -ℤ o) = omega (arith, ints, low, high, ho, la) in
      let e : held before -ℤ held o ≡ before -ℤ o = ap (λ v. v -ℤ held o) (to_z-of_z w64 before fb)
      ∙ ap (λ v. before -ℤ v) (to_z-of_z w64 o fo) in
      let e' : held (held before -ℤ held o) ≡ before -ℤ o = ap held e ∙ to_z-of_z w64 (before -ℤ o) fd in
      ap (λ v. v +ℤ held p) e' ∙ ap (λ v. before -ℤ o +ℤ v) (to_z-of_z w64 p fp)

  plain_fits : FitsSigned w64 (before -ℤ o +ℤ p)
  plain_fits = omega (arith, ints, low, high, ho, hp, la, lb)

  pub exchanged_fits : FitsSigned w64 (exchanged_by before o p)
  exchanged_fits = subst (FitsSigned w64) (sym plain) plain_fits

  pub exchanged_is : to_z w64 (of_z w64 (exchanged_by before o p)) +ℤ pos a ≡ before +ℤ pos b
  exchanged_is =
      let e : to_z w64 (of_z w64 (exchanged_by before o p)) ≡ before -ℤ o +ℤ p = ap held plain
      ∙ to_z-of_z w64 (before -ℤ o +ℤ p) plain_fits in
      ap (λ v. v +ℤ pos a) e ∙ omega (arith, ints, ho, hp)

module _ (d : ℕ → ℕ → ℕ) (ends : List ℕ) (limit : (a b : ℕ) → d a b ≤ DISTANCE_LIMIT) where
  pub few_out : steps_out d ends ≤ 16000000000
  few_out = omega (arith, limit)

  pub few_in : steps_in d ends ≤ 16000000000
  few_in = omega (arith, limit)
