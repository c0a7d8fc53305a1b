-- The swaps of the four flips of a kick: each reverses one part, or all others.
use Rattle.std.proofs.Common.{◌≡◌, ℕ, ◌+◌, ◌-◌, ◌*◌, ◌/◌, ◌≤◌, ◌⊎◌, inl, inr, List, ◌++◌, length, ap, ◌∙◌, arith}
use Rattle.std.specs.Prelude.{min, reverse}
use Rattle.std.proofs.lemmas.List.{append_assoc, length-append, length-reverse}
use Rattle.tk_tour.specs.Counters.{saturated}
use Rattle.tk_tour.specs.Moves.{CutInFour, IsShorterSide}
use Rattle.tk_tour.specs.Tour.{SameCycle}
use Rattle.tk_tour.proofs.Cycle.{IsPath-append, IsPath-reverse}
use Rattle.tk_descent.proofs.MovesOnTours.Steps.{cycle-same}
use Rattle.tk_search.specs.Cuts.{AreCuts, kick_swaps, turn_swaps}
use Rattle.tk_search.specs.declared.double_bridges.cuts.Cuts.{Cuts}

module _ {u : List ℕ} {a1 an b1 bn c1 cn d1 dn : ℕ} (k : CutInFour u a1 an b1 bn c1 cn d1 dn) where
  -- the first flip reverses all parts except the first, or the first
  pub first_side : (count : ℕ) → IsShorterSide u count an b1 dn a1 →
      count ≡ min (length k.a) (length k.b + (length k.c + length k.d))
  first_side count side =
      let e : k.a ++ k.b ++ k.c ++ k.d ≡ k.a ++ (k.b ++ (k.c ++ k.d)) = simp append_assoc in
      let s = side k.a (k.b ++ (k.c ++ k.d)) k.is_a (IsPath-append k.is_b (IsPath-append k.is_c k.is_d))
      (cycle-same u _ _ e k.cycle) in
      omega (arith, s, length-append k.b (k.c ++ k.d), length-append k.c k.d)

  -- the second flip reverses the fourth part, or all others
  pub second_side : (t : List ℕ) (count : ℕ) → SameCycle t (((reverse k.c ++ reverse k.b) ++ k.a) ++ reverse k.d) →
      IsShorterSide t count an dn d1 cn → count ≡ min (length k.c + length k.b + length k.a) (length k.d)
  second_side t count h side =
      let s =
      side ((reverse k.c ++ reverse k.b) ++ k.a) (reverse k.d)
      (IsPath-append (IsPath-append (IsPath-reverse k.is_c) (IsPath-reverse k.is_b)) k.is_a)
      (IsPath-reverse k.is_d) h in
      omega (
        arith,
        s,
        length-append (reverse k.c ++ reverse k.b) k.a,
        length-append (reverse k.c) (reverse k.b),
        length-reverse k.c,
        length-reverse k.b,
        length-reverse k.d,
      )

  -- the third flip reverses the third part, or all others
  pub third_side : (t : List ℕ) (count : ℕ) → SameCycle t (((reverse k.b ++ k.a) ++ k.d) ++ reverse k.c) →
      IsShorterSide t count dn cn c1 bn → count ≡ min (length k.b + length k.a + length k.d) (length k.c)
  third_side t count h side =
      let s =
      side ((reverse k.b ++ k.a) ++ k.d) (reverse k.c)
      (IsPath-append (IsPath-append (IsPath-reverse k.is_b) k.is_a) k.is_d) (IsPath-reverse k.is_c) h in
      omega (
        arith,
        s,
        length-append (reverse k.b ++ k.a) k.d,
        length-append (reverse k.b) k.a,
        length-reverse k.b,
        length-reverse k.c,
      )

  -- the fourth flip reverses the second part, or all others
  pub fourth_side : (t : List ℕ) (count : ℕ) → SameCycle t (((k.a ++ k.d) ++ k.c) ++ reverse k.b) →
      IsShorterSide t count cn bn b1 a1 → count ≡ min (length k.a + length k.d + length k.c) (length k.b)
  fourth_side t count h side =
      let s = side ((k.a ++ k.d) ++ k.c) (reverse k.b) (IsPath-append (IsPath-append k.is_a k.is_d) k.is_c)
      (IsPath-reverse k.is_b) h in
      omega (arith, s, length-append (k.a ++ k.d) k.c, length-append k.a k.d, length-reverse k.b)

turn_is : (n k x y count : ℕ) → count ≡ min x y → x + y ≡ n → (x ≡ k) ⊎ (y ≡ k) → count / 2 ≡ turn_swaps n k
turn_is n k x y count e sum (inl h) = ap (λ v. v / 2) (omega (arith, e, sum, h))
turn_is n k x y count e sum (inr h) = ap (λ v. v / 2) (omega (arith, e, sum, h))

saturated_twice : (s a b : ℕ) → saturated (saturated (s + a) + b) ≡ saturated (s + (a + b))
saturated_twice s a b = omega arith

-- the swaps of four flips, by the sizes of the parts that they reverse
pub four_turns : (n : ℕ) (cuts : Cuts) (la lb lc ld m1 m2 m3 m4 s0 s1 s2 s3 s4 : ℕ) → AreCuts n cuts → la ≡ cuts.p →
    lb ≡ cuts.q - cuts.p → lc ≡ cuts.r - cuts.q → ld ≡ n - cuts.r →
    m1 ≡ min la (lb + (lc + ld)) → m2 ≡ min (lc + lb + la) ld → m3 ≡ min (lb + la + ld) lc →
    m4 ≡ min (la + ld + lc) lb →
    s1 ≡ saturated (s0 + m1 / 2) → s2 ≡ saturated (s1 + m2 / 2) → s3 ≡ saturated (s2 + m3 / 2) →
    s4 ≡ saturated (s3 + m4 / 2) → s4 ≡ saturated (s0 + kick_swaps n cuts)
four_turns n cuts la lb lc ld m1 m2 m3 m4 s0 s1 s2 s3 s4 are ea eb ec ed e1 e2 e3 e4 f1 f2 f3 f4 =
    let sum : la + (lb + (lc + ld)) ≡ n = omega (arith, ea, eb, ec, ed, are.second, are.third, are.last) in
    let t1 : m1 / 2 ≡ turn_swaps n cuts.p = turn_is n cuts.p la (lb + (lc + ld)) m1 e1 sum (inl ea) in
    let t2 : m2 / 2 ≡ turn_swaps n (n - cuts.r) =
    turn_is n (n - cuts.r) (lc + lb + la) ld m2 e2 (omega (arith, sum)) (inr ed) in
    let t3 : m3 / 2 ≡ turn_swaps n (cuts.r - cuts.q) =
    turn_is n (cuts.r - cuts.q) (lb + la + ld) lc m3 e3 (omega (arith, sum)) (inr ec) in
    let t4 : m4 / 2 ≡ turn_swaps n (cuts.q - cuts.p) =
    turn_is n (cuts.q - cuts.p) (la + ld + lc) lb m4 e4 (omega (arith, sum)) (inr eb) in
    let all : s4 ≡ saturated (s0 + (m1 / 2 + (m2 / 2 + (m3 / 2 + m4 / 2)))) =
    f4 ∙ ap (λ v. saturated (v + m4 / 2)) f3 ∙ saturated_twice s2 (m3 / 2) (m4 / 2)
    ∙ ap (λ v. saturated (v + (m3 / 2 + m4 / 2))) f2 ∙ saturated_twice s1 (m2 / 2) (m3 / 2 + m4 / 2) ∙
    ap (λ v. saturated (v + (m2 / 2 + (m3 / 2 + m4 / 2)))) f1
    ∙ saturated_twice s0 (m1 / 2) (m2 / 2 + (m3 / 2 + m4 / 2)) in
    all ∙ ap (λ v. saturated (s0 + v)) (rw (t1, t2, t3, t4) (sums (turn_swaps n cuts.p) (turn_swaps n (n - cuts.r))
    (turn_swaps n (cuts.r - cuts.q)) (turn_swaps n (cuts.q - cuts.p))))
  where
    sums : (a b c d : ℕ) → a + (b + (c + d)) ≡ a + d + c + b
    sums a b c d = omega arith

turn_few : (n k : ℕ) → turn_swaps n k ≤ n / 4
turn_few n k = omega arith

-- a kick takes at most four times as many swaps as one flip can
pub kick_few : (n : ℕ) (cuts : Cuts) → kick_swaps n cuts ≤ 4 * (n / 4)
kick_few n cuts =
    omega (
      arith,
      turn_few n cuts.p,
      turn_few n (cuts.q - cuts.p),
      turn_few n (cuts.r - cuts.q),
      turn_few n (n - cuts.r),
    )
