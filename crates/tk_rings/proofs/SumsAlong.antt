-- Sums along a ring, position by position.
use Rattle.std.proofs.Common.{◌≡◌, ℕ, zero, suc, ◌+◌, ◌-◌, ◌<◌, ◌≤◌, ◌⊎◌, ⊎_elim, Bool, true}
use Rattle.std.proofs.Common.{false}
use Rattle.std.proofs.Common.{cond, List, length, take, get_or, refl, sym, ◌∙◌, ap, arith}
use Rattle.std.proofs.Common.{subst}
use Rattle.std.specs.List.{sum_by}
use Rattle.std.proofs.lemmas.Bool.{cases_lt, ltb-true}
use Rattle.std.proofs.lemmas.List.{take_more, take-take, length-take, get_or_past}
use Rattle.std.proofs.lemmas.List.Sums.{sum_by_push, sum_by-take-le, count_by-le-length}
use Rattle.tk_rings.specs.Capacities.{demand_in, is_copy}
use Rattle.tk_rings.specs.Sums.{load_up_to, copies_up_to}

-- the sum of f over the first k entries
abbrev up_to : (ℕ → ℕ) → List ℕ → ℕ → ℕ
up_to f ring k = sum_by f (take k ring)

up_to-more : (f : ℕ → ℕ) (ring : List ℕ) (k : ℕ) → k < length ring →
    up_to f ring (k + 1) ≡ up_to f ring k + f (get_or ring k 0)
up_to-more f ring k lt = ap (sum_by f) (take_more ring k 0 lt) ∙ sum_by_push f (take k ring) (get_or ring k 0)

up_to-rises : (f : ℕ → ℕ) (ring : List ℕ) (j k : ℕ) → j ≤ k → up_to f ring j ≤ up_to f ring k
up_to-rises f ring j k le =
    subst (λ xs. sum_by f xs ≤ up_to f ring k) (take-take j k ring le) (sum_by-take-le f (take k ring) j)

abbrev one_if : Bool → ℕ
one_if b = cond b 1 0

module _ (demands ring : List ℕ) where
  pub load-more : (k : ℕ) → k < length ring →
      load_up_to demands ring (k + 1) ≡ load_up_to demands ring k + demand_in demands (get_or ring k 0)
  load-more k lt = up_to-more (demand_in demands) ring k lt

  pub copies-more : (k : ℕ) → k < length ring →
      copies_up_to demands ring (k + 1) ≡ copies_up_to demands ring k + one_if (is_copy demands (get_or ring k 0))
  copies-more k lt = up_to-more (λ c. one_if (is_copy demands c)) ring k lt

  -- a copy has no load
  pub load-at-copy : (k : ℕ) → k < length ring → is_copy demands (get_or ring k 0) ≡ true →
      load_up_to demands ring (k + 1) ≡ load_up_to demands ring k
  load-at-copy k lt copy =
      let beyond : length demands ≤ get_or ring k 0 - 1 =
      omega (arith, ltb-true (length demands) (get_or ring k 0) copy) in
      omega (arith, load-more k lt, get_or_past demands (get_or ring k 0 - 1) 0 beyond)

  pub load-rises : (j k : ℕ) → j ≤ k → load_up_to demands ring j ≤ load_up_to demands ring k
  load-rises j k le = up_to-rises (demand_in demands) ring j k le

  pub copies-rise : (j k : ℕ) → j ≤ k → copies_up_to demands ring j ≤ copies_up_to demands ring k
  copies-rise j k le = up_to-rises (λ c. one_if (is_copy demands c)) ring j k le

  -- one more at a copy, and no more elsewhere
  pub copies-at : (k : ℕ) → k < length ring → is_copy demands (get_or ring k 0) ≡ true →
      copies_up_to demands ring (k + 1) ≡ copies_up_to demands ring k + 1
  copies-at k lt e = copies-more k lt ∙ ap (λ b. copies_up_to demands ring k + one_if b) e

  pub copies-beside : (k : ℕ) → k < length ring → is_copy demands (get_or ring k 0) ≡ false →
      copies_up_to demands ring (k + 1) ≡ copies_up_to demands ring k
  copies-beside k lt e = omega (arith, copies-more k lt, ap one_if e)

  one_is : (b : Bool) → one_if b ≤ 0 → b ≡ false
  one_is true le = absurd (omega (arith, le))
  one_is false le = refl

  -- there is no copy between two positions with as many copies before them
  pub none_between : (from to k : ℕ) → copies_up_to demands ring to ≤ copies_up_to demands ring from → from ≤ k → k <
      to →
      to ≤ length ring → is_copy demands (get_or ring k 0) ≡ false
  none_between from to k same le lt room =
      one_is (is_copy demands (get_or ring k 0))
      (omega (arith, same, copies-rise from k le, copies-rise (k + 1) to (omega arith), copies-more k (omega arith)))

  -- the first copy of m positions from p on, if there is one
  pub record FirstCopy (p m : ℕ) : Type 0 where
    pub at : ℕ
    pub range : (p ≤ at) × (at < p + m)
    pub copy : is_copy demands (get_or ring at 0) ≡ true
    pub count : copies_up_to demands ring at ≡ copies_up_to demands ring p

  first_at : (p m : ℕ) → p + m < length ring → copies_up_to demands ring (p + m) ≤ copies_up_to demands ring p → (b :
      Bool)
      → is_copy demands (get_or ring (p + m) 0) ≡ b → copies_up_to demands ring p < copies_up_to demands ring (p + m +
      1) →
      FirstCopy p (m + 1)
  first_at p m lt le true e more = record {
    at = p + m;
    range = omega arith;
    copy = e;
    count = omega (arith, le, copies-rise p (p + m) (omega arith));
  }
  first_at p m lt le false e more = absurd (omega (arith, le, more, copies-beside (p + m) lt e))

  pub first_copy : (p m : ℕ) → p + m ≤ length ring → copies_up_to demands ring p < copies_up_to demands ring (p + m) →
      FirstCopy p m
  first_copy p zero room more = absurd (omega (arith, more, copies-rise (p + zero) p (omega arith)))
  first_copy p (suc m) room more =
      let next : p + suc m ≡ p + m + 1 = omega arith in
      ⊎_elim
      (λ (lt : copies_up_to demands ring p < copies_up_to demands ring (p + m)).
      let f = first_copy p m (omega (arith, room)) lt in
      record { at = f.at; range = omega (arith, f.range); copy = f.copy; count = f.count })
      (λ (le : copies_up_to demands ring (p + m) ≤ copies_up_to demands ring p).
      subst (λ v. FirstCopy p v) (let size : m + 1 ≡ suc m = omega arith in size)
      (first_at p m (omega (arith, room)) le _ refl
      (subst (λ v. copies_up_to demands ring p < copies_up_to demands ring v) next more)))
      (cases_lt (copies_up_to demands ring p) (copies_up_to demands ring (p + m)))

  -- the last copy of m positions from p on, if there is one
  pub record LastCopy (p m : ℕ) : Type 0 where
    pub at : ℕ
    pub range : (p ≤ at) × (at < p + m)
    pub copy : is_copy demands (get_or ring at 0) ≡ true
    pub count : copies_up_to demands ring (at + 1) ≡ copies_up_to demands ring (p + m)

  last_at : (p m : ℕ) → p + m < length ring → (b : Bool) → is_copy demands (get_or ring (p + m) 0) ≡ b →
      (copies_up_to demands ring p < copies_up_to demands ring (p + m) → LastCopy p m) →
      copies_up_to demands ring p < copies_up_to demands ring (p + m + 1) → LastCopy p (m + 1)
  last_at p m lt true e before more =
      record { at = p + m; range = omega arith; copy = e; count = ap (copies_up_to demands ring) (omega arith) }
  last_at p m lt false e before more =
      let same = copies-beside (p + m) lt e in
      let f = before (omega (arith, more, same)) in
      record {
        at = f.at;
        range = omega (arith, f.range);
        copy = f.copy;
        count = f.count ∙ sym same ∙ ap (copies_up_to demands ring) (omega arith);
      }

  pub last_copy : (p m : ℕ) → p + m ≤ length ring → copies_up_to demands ring p < copies_up_to demands ring (p + m) →
      LastCopy p m
  last_copy p zero room more = absurd (omega (arith, more, copies-rise (p + zero) p (omega arith)))
  last_copy p (suc m) room more =
      let next : p + suc m ≡ p + m + 1 = omega arith in
      subst (λ v. LastCopy p v) (let size : m + 1 ≡ suc m = omega arith in size)
      (last_at p m (omega (arith, room)) _ refl (last_copy p m (omega (arith, room)))
      (subst (λ v. copies_up_to demands ring p < copies_up_to demands ring v) next more))

  pub few_copies : (k : ℕ) → copies_up_to demands ring k ≤ k
  few_copies k =
      omega (arith, count_by-le-length (is_copy demands) (take k ring), length-take-most k)
    where
      length-take-most : (k : ℕ) → length (take k ring) ≤ k
      length-take-most k = simp length-take (omega arith)
