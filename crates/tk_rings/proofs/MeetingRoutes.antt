-- The routes that meet at the ends of a move, by the loads of the paths that it joins anew.
use Rattle.std.proofs.Common.{◌≡◌, ℕ, ◌+◌, ◌-◌, ◌≤◌, ◌<◌, Bool, true, false, ◌&&◌, leb, refl, sym, ◌∙◌, ap, arith, inl}
use Rattle.std.proofs.Common.{inr}
use Rattle.std.proofs.lemmas.Bool.{leb-true, leb-false, le-leb, lt-leb}
use Rattle.tk_rings.specs.Loads.{WasClosed}
use Rattle.tk_rings.specs.Rings.{whole, join, turned, is_closed}
use Rattle.tk_rings.specs.StretchLaws.{View, one, more, view-join, flags, and_head, and_tail}
use Rattle.tk_rings.specs.declared.stretch.Stretch.{Stretch}

two_true : (a b : Bool) → a ≡ true → b ≡ true → (a && b) ≡ true
two_true true b h k = k
two_true false b h k = h

inner_two : (i a j b : Bool) → i ≡ true → j ≡ true → ((i && a && j) && b) ≡ (a && b)
inner_two true true true b h k = refl
inner_two true false true b h k = refl
inner_two true true false b h k = cc
inner_two true false false b h k = cc
inner_two false a j b h k = cc

last_true : (i a j b : Bool) → i ≡ true → j ≡ true → b ≡ true → ((i && a && j) && b) ≡ a
last_true true true true b h k m = m
last_true true false true b h k m = refl
last_true true true false b h k m = cc
last_true true false false b h k m = cc
last_true false a j b h k m = cc

-- cases by the order of two numbers
pub from_test : {P : Type 0} (a b : ℕ) → (a ≤ b → P) → (b < a → P) → P
from_test {P} a b at_most above = on (leb a b) refl
  where
    on : (t : Bool) → leb a b ≡ t → P
    on true e = at_most (leb-true a b e)
    on false e = above (leb-false a b e)

-- a load that two walks find together, the second with the room that the first leaves
pub sums_fit : (room first second : ℕ) (s t : Stretch) → s.head ≡ first → t.head ≡ second → first ≤ room →
    leb second (room - first) ≡ leb (s.head + t.head) room
sums_fit room first second s t head_one head_two le =
    from_test second (room - first)
    (λ at. le-leb second (room - first) at ∙ sym (le-leb (s.head + t.head) room (omega (
      arith,
      head_one,
      head_two,
      le,
      at,
    ))))
    (λ over. lt-leb second (room - first) over
    ∙ sym (lt-leb (s.head + t.head) room (omega (arith, head_one, head_two, le, over))))

pub second_of : (a b c : Bool) → a ≡ true → (a && b) ≡ c → b ≡ c
second_of true b c h k = k
second_of false b c h k = cc

pub first_of : (a b c : Bool) → a ≡ false → (a && b) ≡ c → a ≡ c
first_of true b c h k = cc
first_of false b c h k = k

closed_not : (b : Bool) → (b ≡ true → ⊥) → false ≡ b
closed_not true h = absurd (h refl)
closed_not false h = refl

abbrev parted : ℕ → Bool → ℕ → Stretch
parted h i t = record { parted = true; head = h; tail = t; fits = i }

module _ (q : ℕ) where
  within : (i : Bool) (n : ℕ) → (i && leb n q) ≡ true → n ≤ q
  within i n h = leb-true n q (and_tail i (leb n q) h)

  pair : (m n : ℕ) → m ≤ q → n ≤ q → (leb m q && leb n q) ≡ true
  pair m n h k = two_true (leb m q) (leb n q) (le-leb m q h) (le-leb n q k)

  -- of two paths, one is turned round: the two routes at its ends
  pub two_meet : {K T : Stretch} → View K → View T → is_closed q (join q K T) ≡ true →
      (leb (K.tail + T.tail) q && leb (T.head + K.head) q) ≡ is_closed q (join q K (turned T))
  two_meet (one x) (one y) old =
      let le = leb-true (x + y) q old in
      pair (x + y) (y + x) le (omega (arith, le)) ∙ sym old
  two_meet (one x) (more h i t) old =
      let le = within i (t + (x + h)) old in
      pair (x + t) (h + x) (omega (arith, le)) (omega (arith, le))
      ∙ sym (two_true i (leb (h + (x + t)) q) (and_head i (leb (t + (x + h)) q) old)
      (le-leb (h + (x + t)) q (omega (arith, le))))
  two_meet (more h i t) (one y) old =
      let le = within i ((t + y) + h) old in
      pair (t + y) (y + h) (omega (arith, le)) (omega (arith, le)) ∙ sym old
  two_meet (more h i t) (more k j u) old =
      let both : (i && leb (t + k) q && j) ≡ true = and_head (i && leb (t + k) q && j) (leb (u + h) q) old in
      sym (inner_two i (leb (t + u) q) j (leb (k + h) q)
      (and_head i (leb (t + k) q) (and_head (i && leb (t + k) q) j both))
      (and_tail (i && leb (t + k) q) j both))

  -- a segment without a copy of the depot: the route that it joins
  whole_sum : {A R : Stretch} → View A → View R → (x : ℕ) → is_closed q (join q (join q (whole x) A) R) ≡ true →
      is_closed q (join q (join q A (whole x)) R) ≡ leb (A.tail + x + R.head) q
  whole_sum (one a) (one r) x old = ap (λ v. leb v q) (let e : (a + x) + r ≡ a + x + r = omega arith in e)
  whole_sum (one a) (more h i t) x old =
      let le = within i (t + ((x + a) + h)) old in
      two_true i (leb (t + ((a + x) + h)) q) (and_head i (leb (t + ((x + a) + h)) q) old)
      (le-leb (t + ((a + x) + h)) q (omega (arith, le)))
      ∙ sym (le-leb (a + x + h) q (omega (arith, le)))
  whole_sum (more h i t) (one r) x old =
      let le = within i ((t + r) + (x + h)) old in
      two_true i (leb (((t + x) + r) + h) q) (and_head i (leb ((t + r) + (x + h)) q) old)
      (le-leb (((t + x) + r) + h) q (omega (arith, le)))
      ∙ sym (le-leb (t + x + r) q (omega (arith, le)))
  whole_sum (more h i t) (more k j u) x old =
      let both : (i && leb (t + k) q && j) ≡ true = and_head (i && leb (t + k) q && j) (leb (u + (x + h)) q) old in
      let le = within (i && leb (t + k) q && j) (u + (x + h)) old in
      last_true i (leb ((t + x) + k) q) j (leb (u + h) q)
      (and_head i (leb (t + k) q) (and_head (i && leb (t + k) q) j both)) (and_tail (i && leb (t + k) q) j both)
      (le-leb (u + h) q (omega (arith, le)))

  pub whole_meets : {s A R : Stretch} → View s → View A → View R → s.parted ≡ false → WasClosed q s A R →
      is_closed q (join q (join q A s) R) ≡ leb (A.tail + s.head + R.head) q
  whole_meets (one x) v w e (inl old) = whole_sum v w x old
  whole_meets (one x) v w e (inr old) = whole_sum v w x old
  whole_meets (more h i t) v w e old = cc

  -- a segment with a copy of the depot: the routes on both of its sides meet
  meets_sum : {A R : Stretch} → View A → View R → (f l : ℕ) (i : Bool) →
      is_closed q (join q (join q A (parted f i l)) R) ≡ true → R.tail + A.head ≤ q
  meets_sum (one a) (one r) f l i new = omega (arith, within i ((l + r) + (a + f)) new)
  meets_sum (one a) (more k j u) f l i new =
      omega (arith, within (i && leb (l + k) q && j) (u + (a + f)) new)
  meets_sum (more k j u) (one r) f l i new =
      omega (arith, within (j && leb (u + f) q && i) ((l + r) + k) new)
  meets_sum (more k j u) (more m n v) f l i new =
      within ((j && leb (u + f) q && i) && leb (l + m) q && n) (v + k) new

  pub parted_meet : {s A R : Stretch} → View s → View A → View R → s.parted ≡ true → q < R.tail + A.head →
      false ≡ is_closed q (join q (join q A s) R)
  parted_meet (one x) v w e over = cc
  parted_meet {A = A} {R = R} (more f i l) v w e over = closed_not (is_closed q (join q (join q A (parted f i l)) R))
      (λ new. omega (arith, over, meets_sum v w f l i new))

  -- the load of a segment without a copy of the depot, and what two walks find beside it
  pub whole_between : {s A R : Stretch} → View s → View A → View R → (load : ℕ) → s.parted ≡ false → s.head ≡ load →
      WasClosed q s A R → load ≤ q → leb (A.tail + R.head) (q - load) ≡ is_closed q (join q (join q A s) R)
  whole_between {s = s} {A = A} {R = R} u v w load e h old le =
      from_test (A.tail + R.head) (q - load)
      (λ at. le-leb (A.tail + R.head) (q - load) at
      ∙ sym (whole_meets u v w e old ∙ le-leb (A.tail + s.head + R.head) q (omega (arith, h, le, at))))
      (λ over. lt-leb (A.tail + R.head) (q - load) over
      ∙ sym (whole_meets u v w e old ∙ lt-leb (A.tail + s.head + R.head) q (omega (arith, h, le, over))))

  pub whole_over : {s A R : Stretch} → View s → View A → View R → (load : ℕ) → s.parted ≡ false → s.head ≡ load →
      WasClosed q s A R → q < load → false ≡ is_closed q (join q (join q A s) R)
  whole_over {s = s} {A = A} {R = R} u v w load e h old over =
      sym (whole_meets u v w e old ∙ lt-leb (A.tail + s.head + R.head) q (omega (arith, h, over)))

  join_flags : {a b : Stretch} → View a → View b → (join q a b).fits ≡ true → (a.fits ≡ true) × (b.fits ≡ true)
  join_flags (one x) (one y) h = (refl, refl)
  join_flags (one x) (more k j u) h = (refl, h)
  join_flags (more h i t) (one y) k = (k, refl)
  join_flags (more h i t) (more k j u) e =
      (and_head i (leb (t + k) q) (and_head (i && leb (t + k) q) j e), and_tail (i && leb (t + k) q) j e)

  view-turned : {a : Stretch} → View a → View (turned a)
  view-turned (one x) = one x
  view-turned (more h i t) = more t i h

  fit_of : {s A R : Stretch} → View s → View A → View R → is_closed q (join q (join q s A) R) ≡ true →
      (s.fits ≡ true) × (A.fits ≡ true) × (R.fits ≡ true)
  fit_of u v w old =
      let outer = flags q (view-join q u v) w old in
      let inner = join_flags u v outer.0 in
      (inner.0, inner.1, outer.1)

  pub all_fit : {s A R : Stretch} → View s → View A → View R → WasClosed q s A R →
      (s.fits ≡ true) × (A.fits ≡ true) × (R.fits ≡ true)
  all_fit u v w (inl old) = fit_of u v w old
  all_fit u v w (inr old) = fit_of (view-turned u) v w old
