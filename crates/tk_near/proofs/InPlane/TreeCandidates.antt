-- What is kept of the cities of a tree, whatever the order.
use Rattle.std.proofs.Common.{◌≡◌, ◌≢◌, ℕ, zero, suc, ◌+◌, ◌-◌, ◌<◌, ◌≤◌, ◌⊎◌, ⊎_elim, inl, inr, List, [], ◌∷◌}
use Rattle.std.proofs.Common.{◌++◌, length, take, replicate, refl, sym, ap, ◌∙◌, arith, cond, true, false, get_or}
use Rattle.std.proofs.Common.{subst, max}
use Rattle.std.specs.Prelude.{All, Bool, IsTrue, ◌==◌, nat_lt, ◌-ℤ◌, ◌↔◌}
use Rattle.std.specs.Int.RustNames.{unsigned_abs}
use Rattle.std.proofs.lemmas.Bool.Decides.{nat_tests}
use Rattle.std.proofs.lemmas.Bool.{cases_lt, cases_eq, cond_both}
use Rattle.std.proofs.lemmas.List.{length-take-le, take_all, take_more}
use Rattle.std.proofs.Math.Seq.{take-suc}
use Rattle.std.proofs.lemmas.List.Elements.{All-append, All-cons, All-nil, All-weaker, All-head, All-tail}
use Rattle.tk_distance.specs.Distance.{reach}
use Rattle.tk_problem.specs.declared.limits.TheConstants.{CITY_LIMIT, DISTANCE_LIMIT}
use Rattle.tk_problem.specs.declared.point.Point.{Point}
use Rattle.tk_near.specs.declared.candidates.Candidate.{Candidate}
use Rattle.tk_near.specs.declared.plane.city_point.CityPoint.{CityPoint}
use Rattle.tk_distance.specs.Cities.{IsCity}
use Rattle.tk_near.specs.Near.{IsNear}
use Rattle.tk_near.specs.Keeping.{Climbing, insert_by, with_candidate, rank, candidate, empty_slot, cities_kept}
use Rattle.tk_near.specs.Keeping.{KeepsFirst}
use Rattle.tk_near.specs.Kept.{last_of}
use Rattle.tk_near.specs.CityPoint.{IsPlaced, IsRow, IsAt, placed_city, nowhere}
use Rattle.tk_near.specs.declared.plane.tree.Bounds.{Bounds}
use Rattle.tk_near.specs.declared.plane.tree.Tree.{Tree}
use Rattle.tk_near.specs.Tree.{IsFrom, IsInBox, IsBeyond, entries_of, parts_of, with_city, with_cities}
use Rattle.tk_near.proofs.SortedInsertion.{take-insert_by, length-insert_by, Climbing-take}
use Rattle.tk_near.proofs.SortedInsertion.{before_false, insert_by-full, insert_before, insert_after}
use Rattle.tk_near.proofs.SortedInsertion.{Climbing-insert_by}
use Rattle.tk_near.proofs.InPlane.RowCandidates.{gap_is, one_place, with_place}
use Rattle.tk_near.proofs.KeptCandidates.{KeepsFirst-none, KeepsFirst-same, KeepsFirst-count, kept_length, same_twice}
use Rattle.tk_near.proofs.KeptCandidates.{IsNear-from_kept}

-- ---- the order of two candidates

insert_both : {X : Type 0} (f : X → ℕ) (x y : X) (l : List X) → f x < f y →
    insert_by f x (insert_by f y l) ≡ insert_by f y (insert_by f x l)
insert_both f x y [] l = insert_before f x y [] l ∙ sym (insert_after f y x [] (omega arith))
insert_both f x y (z ∷ zs) l = elim (cases_lt (f y) (f z)) [
  | inl yz ↦
      let a = insert_before f y z zs yz in
      ap (insert_by f x) a ∙ insert_before f x y (z ∷ zs) l
      ∙ sym (ap (insert_by f y) (insert_before f x z zs (omega arith)) ∙ insert_after f y x (z ∷ zs) (omega arith)
      ∙ ap (λ v. x ∷ v) a)
  | inr zy ↦ elim (cases_lt (f x) (f z)) [
    | inl xz ↦
        let a = insert_after f y z zs zy in
        ap (insert_by f x) a ∙ insert_before f x z (insert_by f y zs) xz
        ∙ sym (ap (insert_by f y) (insert_before f x z zs xz) ∙ insert_after f y x (z ∷ zs) (omega arith)
        ∙ ap (λ v. x ∷ v) a)
    | inr zx ↦
        ap (insert_by f x) (insert_after f y z zs zy) ∙ insert_after f x z (insert_by f y zs) zx
        ∙ ap (λ v. z ∷ v) (insert_both f x y zs l)
        ∙ sym (ap (insert_by f y) (insert_after f x z zs zx) ∙ insert_after f y z (insert_by f x zs) zy)
  ]
]

insert_by-swap : {X : Type 0} (f : X → ℕ) (x y : X) (l : List X) → (f x ≡ f y → x ≡ y) →
    insert_by f x (insert_by f y l) ≡ insert_by f y (insert_by f x l)
insert_by-swap f x y l one = elim (cases_lt (f x) (f y)) [
  | inl xy ↦ insert_both f x y l xy
  | inr yx ↦ elim (cases_lt (f y) (f x)) [
    | inl below ↦ sym (insert_both f y x l below)
    | inr xy ↦ let same : x ≡ y = one (omega arith) in cc
  ]
]

with_two : (x y : Candidate) (kept : List Candidate) →
    with_candidate x (with_candidate y kept) ≡ take (length kept) (insert_by rank x (insert_by rank y kept))
with_two x y kept =
    let size : length (take (length kept) (insert_by rank y kept)) ≡ length kept =
    length-take-le (length kept) (insert_by rank y kept) (omega (arith, length-insert_by rank y kept)) in
    ap (λ v. take v (insert_by rank x (take (length kept) (insert_by rank y kept)))) size
    ∙ take-insert_by rank x (length kept) (insert_by rank y kept)

with_candidate-swap : (x y : Candidate) (kept : List Candidate) → (rank x ≡ rank y → x ≡ y) →
    with_candidate x (with_candidate y kept) ≡ with_candidate y (with_candidate x kept)
with_candidate-swap x y kept one = with_two x y kept ∙ ap (take (length kept)) (insert_by-swap rank x y kept one)
    ∙ sym (with_two y x kept)

pub with_candidate-length : (x : Candidate) (kept : List Candidate) → length (with_candidate x kept) ≡ length kept
with_candidate-length x kept =
    length-take-le (length kept) (insert_by rank x kept) (omega (arith, length-insert_by rank x kept))

-- what does not come before the last of the kept changes nothing
pub with_candidate-out : (x : Candidate) (kept : List Candidate) → Climbing rank kept → 1 ≤ length kept →
    rank (last_of kept) ≤ rank x → with_candidate x kept ≡ kept
with_candidate-out x kept up room out = sym (insert_by-full rank x (length kept) kept empty_slot up refl room out)

-- ---- the order of the cities

abbrev pub IsSmall : CityPoint → Type 0
IsSmall p = p.city < 4294967296

module _ (dist : ℕ → ℕ → ℕ) (c : ℕ) where
  with_city-swap : (p q : CityPoint) (kept : List Candidate) → IsSmall p → IsSmall q →
      with_city dist c p (with_city dist c q kept) ≡ with_city dist c q (with_city dist c p kept)
  with_city-swap p q kept sp sq =
      let x : Candidate = candidate dist c p.city in
      let y : Candidate = candidate dist c q.city in
      elim (p.city == c) as (λ b. cond b (with_city dist c q kept)
      (with_candidate x (with_city dist c q kept)) ≡ with_city dist c q (cond b kept (with_candidate x kept))) [
        | true ↦ refl
        | false ↦
            elim (q.city == c) as (λ b. with_candidate x (cond b kept (with_candidate y kept)) ≡ cond b
            (with_candidate x kept) (with_candidate y (with_candidate x kept))) [
              | true ↦ refl
              | false ↦ with_candidate-swap x y kept
                  (λ e. ap (candidate dist c) (omega (arith, sp, sq, e)))
            ]
      ]

  pub with_cities-append : (xs ys : List CityPoint) (kept : List Candidate) →
      with_cities dist c (xs ++ ys) kept ≡ with_cities dist c ys (with_cities dist c xs kept)
  with_cities-append [] ys kept = refl
  with_cities-append (x ∷ xs) ys kept = with_cities-append xs ys (with_city dist c x kept)

  with_cities-city : (p : CityPoint) (ps : List CityPoint) (kept : List Candidate) → IsSmall p → All IsSmall ps →
      with_cities dist c ps (with_city dist c p kept) ≡ with_city dist c p (with_cities dist c ps kept)
  with_cities-city p [] kept sp all = refl
  with_cities-city p (q ∷ qs) kept sp all =
      ap (with_cities dist c qs) (with_city-swap q p kept (All-head IsSmall q qs all) sp)
      ∙ with_cities-city p qs (with_city dist c q kept) sp (All-tail IsSmall q qs all)

  pub with_cities-swap : (xs ys : List CityPoint) (kept : List Candidate) → All IsSmall xs → All IsSmall ys →
      with_cities dist c xs (with_cities dist c ys kept) ≡ with_cities dist c ys (with_cities dist c xs kept)
  with_cities-swap [] ys kept sx sy = refl
  with_cities-swap (x ∷ xs) ys kept sx sy =
      ap (with_cities dist c xs) (sym (with_cities-city x ys kept (All-head IsSmall x xs sx) sy))
      ∙ with_cities-swap xs ys (with_city dist c x kept) (All-tail IsSmall x xs sx) sy

  pub with_city-same : (p : CityPoint) (kept : List Candidate) → p.city ≡ c → with_city dist c p kept ≡ kept
  with_city-same p kept e =
      let t : (p.city == c) ≡ true = grind (arith, nat_tests) in
      ap (λ v. cond v kept (with_candidate (candidate dist c p.city) kept)) t

  pub with_city-other : (p : CityPoint) (kept : List Candidate) → p.city ≢ c →
      with_city dist c p kept ≡ with_candidate (candidate dist c p.city) kept
  with_city-other p kept ne =
      let t : (p.city == c) ≡ false = grind (arith, nat_tests) in
      ap (λ v. cond v kept (with_candidate (candidate dist c p.city) kept)) t

  -- one more city of a row
  pub with_cities-more : (row : List CityPoint) (i : ℕ) (d : CityPoint) (kept : List Candidate) → i < length row →
      with_cities dist c (take (suc i) row) kept ≡ with_city dist c (get_or row i d)
      (with_cities dist c (take i row) kept)
  with_cities-more row i d kept l = ap (λ v. with_cities dist c v kept) (take-suc row i d l)
      ∙ with_cities-append (take i row) (get_or row i d ∷ []) kept

  -- a loop over cities
  pub seen_more : (row : List CityPoint) (i : ℕ) (d : CityPoint) (first kept : List Candidate) → i < length row →
      kept ≡ with_cities dist c (take i row) first →
      with_city dist c (get_or row i d) kept ≡ with_cities dist c (take (i + 1) row) first
  seen_more row i d first kept l e =
      ap (with_city dist c (get_or row i d)) e
      ∙ sym (ap (λ v. with_cities dist c v first) (take_more row i d l)
      ∙ with_cities-append (take i row) (get_or row i d ∷ []) first)

  pub with_cities-length : (ps : List CityPoint) (kept : List Candidate) →
      length (with_cities dist c ps kept) ≡ length kept
  with_cities-length [] kept = refl
  with_cities-length (p ∷ ps) kept =
      let here : length (with_city dist c p kept) ≡ length kept =
      cond_both (p.city == c) kept (with_candidate (candidate dist c p.city) kept) (λ v. length v ≡ length kept)
      (λ _. refl) (λ _. with_candidate-length (candidate dist c p.city) kept) in
      with_cities-length ps (with_city dist c p kept) ∙ here

  -- cities that do not come before the last of the kept change nothing
  pub with_cities-out : (ps : List CityPoint) (kept : List Candidate) → Climbing rank kept → 1 ≤ length kept →
      All (λ p. rank (last_of kept) ≤ rank (candidate dist c p.city)) ps → with_cities dist c ps kept ≡ kept
  with_cities-out [] kept up room all = refl
  with_cities-out (p ∷ ps) kept up room all =
      let last = All-head (λ p. rank (last_of kept) ≤ rank (candidate dist c p.city)) p ps all in
      let here : with_city dist c p kept ≡ kept =
      cond_both (p.city == c) kept (with_candidate (candidate dist c p.city) kept) (λ v. v ≡ kept) (λ _. refl)
      (λ _. with_candidate-out (candidate dist c p.city) kept up room last) in
      ap (with_cities dist c ps) here
      ∙ with_cities-out ps kept up room
      (All-tail (λ p. rank (last_of kept) ≤ rank (candidate dist c p.city)) p ps all)

-- ---- the kept stay in order

pub with_candidate_climbing : (x : Candidate) (kept : List Candidate) → Climbing rank kept →
    Climbing rank (with_candidate x kept)
with_candidate_climbing x kept up =
    Climbing-take rank (length kept) (insert_by rank x kept) (Climbing-insert_by rank x kept up)

-- ---- what a bound of a part says of its cities

-- the laws of the floor that a search of a tree needs
pub record AreFloors (dist : ℕ → ℕ → ℕ) (place_of : ℕ → Point) (floor : ℕ → ℕ) : Type 0 where
  pub wide : (a b : ℕ) → unsigned_abs ((place_of a).x -ℤ (place_of b).x) ≤ reach
  pub tall : (a b : ℕ) → unsigned_abs ((place_of a).y -ℤ (place_of b).y) ≤ reach
  pub rises : (s t : ℕ) → s ≤ t → t ≤ reach → floor s ≤ floor t
  pub bounds : (a b : ℕ) → floor (unsigned_abs ((place_of a).x -ℤ (place_of b).x)) ≤ dist a b
  pub bounds_y : (a b : ℕ) → floor (unsigned_abs ((place_of a).y -ℤ (place_of b).y)) ≤ dist a b

module _ (dist : ℕ → ℕ → ℕ) (n : ℕ) (place_of : ℕ → Point) (floor : ℕ → ℕ) (f : AreFloors dist place_of floor) where
  pub floor_below : (here p : CityPoint) (gap : ℕ) → IsPlaced n place_of here → IsPlaced n place_of p →
      IsBeyond here gap p → floor gap ≤ dist here.city p.city
  floor_below here p gap h t beyond =
      ⊎_elim
      (λ l.
      let rises = f.rises gap _ (rw (gap_is n place_of (λ v. v.x) here p h t) at l) (f.wide here.city p.city) in
      omega (arith, rises, f.bounds here.city p.city))
      (λ l.
      let rises = f.rises gap _ (rw (gap_is n place_of (λ v. v.y) here p h t) at l) (f.tall here.city p.city) in
      omega (arith, rises, f.bounds_y here.city p.city))
      beyond

-- a part is left out where no city of its box comes before the last of the kept: it changes nothing
pub kept_without_part : (dist : ℕ → ℕ → ℕ) (n : ℕ) (place_of : ℕ → Point) (c : ℕ) {bounds : Bounds} (first : Candidate)
    (ps : List CityPoint) (kept : List Candidate) {last : Candidate} {enter : Bool}
    → ((p : CityPoint) → IsPlaced n place_of p → IsInBox bounds p → IsFrom dist c first p) → All (IsPlaced n place_of)
    ps
    → All (IsInBox bounds) ps → Climbing rank kept → 1 ≤ length kept → last ≡ last_of kept
    → IsTrue enter ↔ (rank first < rank last) → enter ≡ false → kept ≡ with_cities dist c ps kept
kept_without_part dist n place_of c {bounds} first ps kept {last} {enter} from placed within up room is test off =
    let out = rw is at (before_false test off) in
    sym (with_cities-out dist c ps kept up room
    (λ k d l. let one = from (get_or ps k d) (placed k d l) (within k d l) in omega (arith, one, out)))

-- ---- all cities of a row

count_more : (p i : ℕ) → i ≢ p → cond (nat_lt p i) (i - 1) i + 1 ≡ cond (nat_lt p (suc i)) (suc i - 1) (suc i)
count_more p i ne = grind (arith, nat_tests)

count_same : (p i : ℕ) → i ≡ p → cond (nat_lt p i) (i - 1) i ≡ cond (nat_lt p (suc i)) (suc i - 1) (suc i)
count_same p i e = grind (arith, nat_tests)

count_whole : (p k n : ℕ) → k < n → k ≤ cond (nat_lt p n) (n - 1) n
count_whole p k n l = grind (arith, nat_tests)

module _ (dist : ℕ → ℕ → ℕ) (limit : (a b : ℕ) → dist a b ≤ DISTANCE_LIMIT) (n : ℕ) (place_of : ℕ → Point)
    (row : List CityPoint) (o : IsRow n place_of row) (few : n ≤ CITY_LIMIT) where
  abbrev Before : ℕ → ℕ → ℕ → Type 0
  Before p j q = (q < j) × (q ≢ p)

  -- of the places of the row, at most p holds city c, and p does if it is one of them
  abbrev HasAlone : ℕ → ℕ → Type 0
  HasAlone c p = (q : ℕ) → q < length row → (q ≡ p → placed_city row q ≡ c) × (placed_city row q ≡ c → q ≡ p)

  keeps_first : (c p k j : ℕ) → HasAlone c p → j ≤ length row →
      KeepsFirst dist c k (cond (nat_lt p j) (j - 1) j) (IsAt row (Before p j))
      (with_cities dist c (take j row) (replicate k empty_slot))
  keeps_first c p k zero alone lj =
      KeepsFirst-count dist c k _ _ _ _ (same_twice (nat_lt p 0) 0)
      (KeepsFirst-none dist c k (IsAt row (Before p 0))
      (λ b s. let w = s.2 in let high : s.0 < 0 = w.0 in omega arith))
  keeps_first c p k (suc i) alone lj =
      let kept : List Candidate = with_cities dist c (take i row) (replicate k empty_slot) in
      let h = keeps_first c p k i alone (omega arith) in
      let li : i < length row = omega arith in
      let more = with_cities-more dist c row i nowhere (replicate k empty_slot) li in
      subst (KeepsFirst dist c k _ (IsAt row (Before p (suc i)))) (sym more)
      (⊎_elim
      (λ e.
      subst (KeepsFirst dist c k _ (IsAt row (Before p (suc i))))
      (sym (with_city-same dist c (get_or row i nowhere) kept ((alone i li).0 e)))
      (KeepsFirst-count dist c k _ _ _ kept (count_same p i e)
      (KeepsFirst-same dist c k _ (IsAt row (Before p i)) (IsAt row (Before p (suc i))) kept h
      (λ a s. (s.0, s.1, omega (arith, s.2), s.3)) (λ a s. (s.0, s.1, omega (arith, s.2), s.3)))))
      (λ ne.
      let other : placed_city row i ≢ c = λ e. ne ((alone i li).1 e) in
      let size = kept_length h in
      let there : with_city dist c (get_or row i nowhere) kept ≡ take k
      (insert_by rank (candidate dist c (placed_city row i)) kept) =
      with_city-other dist c (get_or row i nowhere) kept other
      ∙ ap (λ v. take v (insert_by rank (candidate dist c (placed_city row i)) kept)) size in
      subst (KeepsFirst dist c k _ (IsAt row (Before p (suc i)))) (sym there)
      (with_place o limit few c k _ _ i (Before p i) (Before p (suc i)) kept h (count_more p i ne) li (omega arith)
      (omega arith) (omega arith) (omega arith)))
      (cases_eq i p))

  near_at : (c p k : ℕ) → HasAlone c p → k < n →
      IsNear dist n k c (cities_kept (with_cities dist c row (replicate k empty_slot)))
  near_at c p k alone kn =
      let all = take_all (length row) row (omega arith) in
      let kept = subst (λ v. KeepsFirst dist c k (cond (nat_lt p (length row)) (length row - 1) (length row))
      (IsAt row (Before p (length row))) (with_cities dist c v (replicate k empty_slot))) all
      (keeps_first c p k (length row) alone (omega arith)) in
      IsNear-from_kept dist n c k _ (IsAt row (Before p (length row))) _ kept (omega (arith, few))
      (count_whole p k (length row) (omega (arith, o.count)))
      (λ b city ne.
      let w = o.whole b city in
      (w.0, w.1, (w.1, λ e. ne (sym w.2 ∙ (alone w.0 w.1).0 e)), w.2))
      (λ b s.
      let w = s.2 in
      (subst (IsCity n) s.3 (o.each s.0 nowhere s.1).0, λ same. w.1 ((alone s.0 s.1).1 (s.3 ∙ same))))

  alone_at : (p : ℕ) → p < length row → HasAlone (placed_city row p) p
  alone_at p lp q lq = (λ e. ap (placed_city row) e, λ e. one_place o q p lq lp e)

  alone_nowhere : (c : ℕ) → (IsCity n c → ⊥) → HasAlone c (length row)
  alone_nowhere c out q lq =
      (λ e. absurd (omega (arith, e, lq)), λ e. absurd (out (subst (IsCity n) e (o.each q nowhere lq).0)))

  -- the list of a city, which may be one of the row or not
  pub IsNear-from_row : (c k : ℕ) → k < n →
      IsNear dist n k c (cities_kept (with_cities dist c row (replicate k empty_slot)))
  IsNear-from_row c k kn =
      ⊎_elim (λ low. near_at c (length row) k (alone_nowhere c (λ city. omega (arith, city.0, low))) kn)
      (λ some.
      ⊎_elim (λ high. near_at c (length row) k (alone_nowhere c (λ city. omega (arith, city.1, high))) kn)
      (λ within.
      let w = o.whole c (omega (arith, some), omega (arith, within)) in
      near_at c w.0 k (subst (λ v. HasAlone v w.0) w.2 (alone_at w.0 w.1)) kn)
      (cases_lt n c))
      (cases_lt c 1)

-- ---- the greater of two gaps, cut off
pub one_of_max : (gap x y a b : ℕ) → gap ≤ max x y → x ≤ a → y ≤ b → (gap ≤ a) ⊎ (gap ≤ b)
one_of_max gap x y a b h l m = ⊎_elim (λ lt. inr (omega arith)) (λ le. inl (omega arith)) (cases_lt x y)

-- ---- the parts of a cut

pub all_front : {X : Type 0} (P : X → Type 0) (xs ys : List X) → All P (xs ++ ys) → All P xs
all_front P [] ys h = All-nil P
all_front P (x ∷ xs) ys h = All-cons P x xs (All-head P x (xs ++ ys) h) (all_front P xs ys (All-tail P x (xs ++ ys) h))

pub all_back : {X : Type 0} (P : X → Type 0) (xs ys : List X) → All P (xs ++ ys) → All P ys
all_back P [] ys h = h
all_back P (x ∷ xs) ys h = all_back P xs ys (All-tail P x (xs ++ ys) h)

-- what stands in either of two boxes stands in a box round both
pub joined_within : (lower upper whole : Bounds) (xs ys : List CityPoint)
    → ((p : CityPoint) → IsInBox lower p → IsInBox whole p) → ((p : CityPoint) → IsInBox upper p → IsInBox whole p)
    → All (IsInBox lower) xs → All (IsInBox upper) ys → All (IsInBox whole) (xs ++ ys)
joined_within lower upper whole xs ys first second lows highs =
    All-append (IsInBox whole) xs ys (All-weaker (IsInBox lower) (IsInBox whole) first xs lows)
    (All-weaker (IsInBox upper) (IsInBox whole) second ys highs)

-- both halves were seen, in either order
module _ (dist : ℕ → ℕ → ℕ) (c : ℕ) (lower upper tree : Tree) (first mid last : List Candidate) where
  pub seen_both : entries_of tree ≡ entries_of lower ++ entries_of upper →
      mid ≡ with_cities dist c (entries_of lower) first → last ≡ with_cities dist c (entries_of upper) mid →
      last ≡ with_cities dist c (entries_of tree) first
  seen_both cut h k =
      k ∙ ap (with_cities dist c (entries_of upper)) h
      ∙ sym (ap (λ v. with_cities dist c v first) cut
      ∙ with_cities-append dist c (entries_of lower) (entries_of upper) first)

  pub seen_both_back : All IsSmall (entries_of lower) → All IsSmall (entries_of upper) →
      entries_of tree ≡ entries_of lower ++ entries_of upper → mid ≡ with_cities dist c (entries_of upper) first →
      last ≡ with_cities dist c (entries_of lower) mid → last ≡ with_cities dist c (entries_of tree) first
  seen_both_back ls us cut h k =
      k ∙ ap (with_cities dist c (entries_of lower)) h
      ∙ with_cities-swap dist c (entries_of lower) (entries_of upper) first ls us
      ∙ sym (ap (λ v. with_cities dist c v first) cut
      ∙ with_cities-append dist c (entries_of lower) (entries_of upper) first)

pub placed_small : (n : ℕ) (place_of : ℕ → Point) (ps : List CityPoint) → n ≤ CITY_LIMIT → All (IsPlaced n place_of) ps
    →
    All IsSmall ps
placed_small n place_of ps few all = λ k d l. let e = all k d l in omega (arith, e.0.1)

pub part_smaller : (tree lower upper s : Tree) (t : ℕ) → parts_of tree ≡ t →
    parts_of tree ≡ parts_of lower + parts_of upper + 1 → (s ≡ lower) ⊎ (s ≡ upper) → parts_of s < t
part_smaller tree lower upper s t is cut part =
    ⊎_elim (λ e. let same = ap parts_of e in omega arith) (λ e. let same = ap parts_of e in omega arith) part
