-- How stretches are joined, and turned round.
use Rattle.std.proofs.Common.{◌≡◌, ℕ, ◌+◌, ◌≤◌, Bool, true, false, cond, ◌&&◌, leb, List, [], ◌∷◌, ◌++◌, reverse, refl}
use Rattle.std.proofs.Common.{sym}
use Rattle.std.proofs.Common.{◌∙◌, ap, arith, inl, inr}
use Rattle.std.specs.List.{All, sum_by}
use Rattle.std.proofs.lemmas.Bool.{leb-true}
use Rattle.std.proofs.lemmas.List.Sums.{sum_by-cons}
use Rattle.std.proofs.lemmas.List.Elements.{All-head, All-tail}
use Rattle.tk_tour.specs.Tour.{SameCycle, IsRotation}
use Rattle.tk_descent.proofs.MovesOnTours.Length.{reverse-cons}
use Rattle.tk_rings.specs.Rings.{whole, copy, join, turned, is_closed, stretch_of, fits}
use Rattle.tk_rings.specs.declared.stretch.Stretch.{Stretch}

abbrev parted : ℕ → Bool → ℕ → Stretch
parted h i t = record { parted = true; head = h; tail = t; fits = i }

-- a stretch has one load, or is parted
pub data View : Stretch → Type 0 where
  one : (a : ℕ) → View (whole a)
  more : (h : ℕ) (i : Bool) (t : ℕ) → View (parted h i t)

and_five : (a b c d e : Bool) → (a && b && c && d && e) ≡ (a && b && (c && d && e))
and_five true true c d e = refl
and_five true false c d e = refl
and_five false b c d e = refl

and_turn : (a b c : Bool) → (a && b && c) ≡ (c && b && a)
and_turn true true true = refl
and_turn true true false = refl
and_turn true false true = refl
and_turn true false false = refl
and_turn false true true = refl
and_turn false true false = refl
and_turn false false true = refl
and_turn false false false = refl

and_four : (a b c d : Bool) → ((a && b && c) && d) ≡ ((c && d && a) && b)
and_four true true true true = refl
and_four true true true false = refl
and_four true true false true = refl
and_four true true false false = refl
and_four true false true true = refl
and_four true false true false = refl
and_four true false false d = refl
and_four false b true true = refl
and_four false b true false = refl
and_four false b false d = refl

pub and_head : (a b : Bool) → (a && b) ≡ true → a ≡ true
and_head true b h = refl
and_head false b h = cc

pub and_tail : (a b : Bool) → (a && b) ≡ true → b ≡ true
and_tail true b h = h
and_tail false b h = cc

module _ (q : ℕ) where
  pub view-join : {a b : Stretch} → View a → View b → View (join q a b)
  view-join (one x) (one y) = one (x + y)
  view-join (one x) (more h i t) = more (x + h) i t
  view-join (more h i t) (one y) = more h i (t + y)
  view-join (more h i t) (more k j u) = more h (i && leb (t + k) q && j) u

  join-assoc : {a b c : Stretch} → View a → View b → View c → join q (join q a b) c ≡ join q a (join q b c)
  join-assoc (one x) (one y) (one z) = ap whole (omega arith)
  join-assoc (one x) (one y) (more h i t) = ap (λ v. parted v i t) (omega arith)
  join-assoc (one x) (more h i t) (one z) = refl
  join-assoc (one x) (more h i t) (more k j u) = refl
  join-assoc (more h i t) (one y) (one z) = ap (λ v. parted h i v) (omega arith)
  join-assoc (more h i t) (one y) (more k j u) =
      ap (λ v. parted h (i && leb v q && j) u) (let e : (t + y) + k ≡ t + (y + k) = omega arith in e)
  join-assoc (more h i t) (more k j u) (one z) = refl
  join-assoc (more h i t) (more k j u) (more l m v) =
      ap (λ w. parted h w v) (and_five i (leb (t + k) q) j (leb (u + l) q) m)

  turned-join : {a b : Stretch} → View a → View b → turned (join q a b) ≡ join q (turned b) (turned a)
  turned-join (one x) (one y) = ap whole (omega arith)
  turned-join (one x) (more h i t) = ap (λ v. parted t i v) (omega arith)
  turned-join (more h i t) (one y) = ap (λ v. parted v i h) (omega arith)
  turned-join (more h i t) (more k j u) =
      ap (λ w. parted u w h) (and_turn i (leb (t + k) q) j
      ∙ ap (λ v. j && leb v q && i) (let e : t + k ≡ k + t = omega arith in e))

  closed-turn : {a b : Stretch} → View a → View b → is_closed q (join q a b) ≡ is_closed q (join q b a)
  closed-turn (one x) (one y) = ap (λ v. leb v q) (let e : x + y ≡ y + x = omega arith in e)
  closed-turn (one x) (more h i t) =
      ap (λ v. i && leb v q) (let e : t + (x + h) ≡ (t + x) + h = omega arith in e)
  closed-turn (more h i t) (one y) =
      ap (λ v. i && leb v q) (let e : (t + y) + h ≡ t + (y + h) = omega arith in e)
  closed-turn (more h i t) (more k j u) = and_four i (leb (t + k) q) j (leb (u + h) q)

  closed-turned : {a : Stretch} → View a → is_closed q (turned a) ≡ is_closed q a
  closed-turned (one x) = refl
  closed-turned (more h i t) = ap (λ v. i && leb v q) (let e : h + t ≡ t + h = omega arith in e)

  pub flags : {a b : Stretch} → View a → View b → is_closed q (join q a b) ≡ true → (a.fits ≡ true) × (b.fits ≡ true)
  flags (one x) (one y) h = (refl, refl)
  flags (one x) (more h i t) e = (refl, and_head i (leb (t + (x + h)) q) e)
  flags (more h i t) (one y) e = (and_head i (leb ((t + y) + h) q) e, refl)
  flags (more h i t) (more k j u) e =
      let both : (i && leb (t + k) q && j) ≡ true = and_head (i && leb (t + k) q && j) (leb (u + h) q) e in
      (and_head i (leb (t + k) q) (and_head (i && leb (t + k) q) j both), and_tail (i && leb (t + k) q) j both)

  join-left : {a : Stretch} → View a → join q (whole 0) a ≡ a
  join-left (one x) = ap whole (omega arith)
  join-left (more h i t) = ap (λ v. parted v i t) (omega arith)

  join-right : {a : Stretch} → View a → join q a (whole 0) ≡ a
  join-right (one x) = ap whole (omega arith)
  join-right (more h i t) = ap (λ v. parted h i v) (omega arith)

  module _ (load : ℕ → ℕ) (is_depot : ℕ → Bool) where
    abbrev st : List ℕ → Stretch
    st xs = stretch_of q load is_depot xs

    abbrev first : ℕ → Stretch
    first c = cond (is_depot c) copy (whole (load c))

    view-first : (b : Bool) (l : ℕ) → View (cond b copy (whole l))
    view-first true l = more 0 true 0
    view-first false l = one l

    pub view : (xs : List ℕ) → View (st xs)
    view [] = one 0
    view (c ∷ xs) = view-join (view-first (is_depot c) (load c)) (view xs)

    pub st-append : (xs ys : List ℕ) → st (xs ++ ys) ≡ join q (st xs) (st ys)
    st-append [] ys = sym (join-left (view ys))
    st-append (c ∷ xs) ys = ap (join q (first c)) (st-append xs ys)
        ∙ sym (join-assoc (view-first (is_depot c) (load c)) (view xs) (view ys))

    turned-first : (b : Bool) (l : ℕ) → turned (cond b copy (whole l)) ≡ cond b copy (whole l)
    turned-first true l = refl
    turned-first false l = refl

    pub st-reverse : (xs : List ℕ) → st (reverse xs) ≡ turned (st xs)
    st-reverse [] = refl
    st-reverse (c ∷ xs) = ap st (reverse-cons c xs) ∙ st-append (reverse xs) (c ∷ [])
        ∙ ap (λ z. join q (st (reverse xs)) z) (join-right (view-first (is_depot c) (load c)))
        ∙ ap (λ z. join q z (first c)) (st-reverse xs)
        ∙ ap (λ z. join q (turned (st xs)) z) (sym (turned-first (is_depot c) (load c)))
        ∙ sym (turned-join (view-first (is_depot c) (load c)) (view xs))

    abbrev ring_fits : List ℕ → Bool
    ring_fits xs = fits q load is_depot xs

    fits-rotation : (xs ys : List ℕ) → IsRotation xs ys → ring_fits ys ≡ ring_fits xs
    fits-rotation xs ys r =
        ap ring_fits r.after ∙ ap (is_closed q) (st-append r.back r.front) ∙ closed-turn (view r.back) (view r.front)
        ∙ sym (ap (is_closed q) (st-append r.front r.back)) ∙ sym (ap ring_fits r.before)

    fits-reverse : (xs : List ℕ) → ring_fits (reverse xs) ≡ ring_fits xs
    fits-reverse xs = ap (is_closed q) (st-reverse xs) ∙ closed-turned (view xs)

    -- wherever it is begun, and whichever way round it is seen
    pub fits-cycle : (xs ys : List ℕ) → SameCycle xs ys → ring_fits ys ≡ ring_fits xs
    fits-cycle xs ys (inl r) = fits-rotation xs ys r
    fits-cycle xs ys (inr r) = sym (fits-reverse ys) ∙ fits-rotation xs (reverse ys) r

    pub st-plain : (xs : List ℕ) → All (λ c. is_depot c ≡ false) xs → st xs ≡ whole (sum_by load xs)
    st-plain [] h = refl
    st-plain (c ∷ xs) h =
        ap (λ z. join q z (st xs)) (ap (λ b. cond b copy (whole (load c))) (All-head (λ c. is_depot c ≡ false) c xs h))
        ∙ ap (join q (whole (load c))) (st-plain xs (All-tail (λ c. is_depot c ≡ false) c xs h))
        ∙ ap whole (sym (sum_by-cons load c xs))

    and_last : (a b : Bool) → (a && b) ≡ true → b ≡ true
    and_last true b h = h
    and_last false b h = cc

    within : {s : Stretch} → View s → (a : ℕ) → is_closed q (join q (whole a) s) ≡ true → a ≤ q
    within (one x) a h = omega (arith, leb-true (a + x) q h)
    within (more k i t) a h = omega (arith, leb-true (t + (a + k)) q (and_last i (leb (t + (a + k)) q) h))

    -- each path without a copy has at most the capacity
    pub path_fits : (ring path rest : List ℕ) → ring_fits ring ≡ true → SameCycle ring (path ++ rest) →
        All (λ c. is_depot c ≡ false) path → sum_by load path ≤ q
    path_fits ring path rest h same plain =
        within (view rest) (sum_by load path)
        (sym (ap (is_closed q) (st-append path rest ∙ ap (λ z. join q z (st rest)) (st-plain path plain)))
        ∙ fits-cycle ring (path ++ rest) same ∙ h)
