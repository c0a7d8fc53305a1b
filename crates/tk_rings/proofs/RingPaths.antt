-- The paths between the copies of the depot on a ring.
use Rattle.std.proofs.Common.{◌≡◌, ℕ, ◌+◌, ◌<◌, ◌≤◌, Bool, true, false, cond, ltb, leb, ◌&&◌, List, [], ◌∷◌}
use Rattle.std.proofs.Common.{◌++◌, length, refl, sym, ap, ◌∙◌, subst, arith, append_assoc, append-nil, length-append}
use Rattle.std.specs.Prelude.{map}
use Rattle.std.specs.List.{All, concat, sum_by}
use Rattle.std.proofs.lemmas.Bool.{ltb-true, ltb-false, lt-ltb, leb-true}
use Rattle.std.proofs.lemmas.List.{map-append}
use Rattle.std.proofs.lemmas.List.Elements.{All-cons, All-head, All-nil, All-tail}
use Rattle.std.proofs.lemmas.List.Sums.{sum_by-append, sum_by-cons}
use Rattle.tk_tour.specs.Tour.{IsRotation, occurrences, walk}
use Rattle.tk_tour.proofs.DistinctCycles.{occurrences-append}
use Rattle.tk_tour.proofs.Tours.{occurrences-nil, occurrences-other}
use Rattle.tk_rings.specs.Capacities.{demand_in, is_copy, loads_of}
use Rattle.tk_rings.specs.Rings.{copy, whole, join, is_closed}
use Rattle.tk_rings.specs.RingRoutes.{behind_copy, paths_from}
use Rattle.tk_rings.specs.StretchLaws.{View, one, more, view, st-append, and_head, and_tail}
use Rattle.tk_rings.specs.declared.stretch.Stretch.{Stretch}
use Rattle.tk_rings.proofs.RingNodes.{walk-through}

-- cases by whether an element is a copy of the depot
pub by_copy : (P : Bool → Type 0) (k c : ℕ) → (k < c → P true) → (c ≤ k → P false) → P (ltb k c)
by_copy P k c is_high is_low = on (ltb k c) refl
  where
    on : (t : Bool) → ltb k c ≡ t → P t
    on true e = is_high (ltb-true k c e)
    on false e = is_low (ltb-false k c e)

-- a ring from behind its first copy on
pub record Begun (k : ℕ) (ring : List ℕ) : Type 0 where
  pub rest : List ℕ
  pub copy : ℕ
  pub high : k < copy
  pub on : IsRotation ring (copy ∷ rest)
  pub is : behind_copy k [] ring ≡ rest ++ copy ∷ []

begun_from : (k : ℕ) (ring before cs : List ℕ) → ring ≡ before ++ cs → 1 ≤ occurrences (k + 1) cs →
    behind_copy k before cs ≡ behind_copy k [] ring → Begun k ring
begun_from k ring before [] e some same = absurd (omega (arith, some, occurrences-nil (k + 1)))
begun_from k ring before (c ∷ cs) e some same =
    by_copy (λ t. cond t (cs ++ before ++ c ∷ []) (behind_copy k (before ++ c ∷ []) cs) ≡ behind_copy k [] ring →
    Begun k ring) k c
    (λ high at. record {
      rest = cs ++ before;
      copy = c;
      high = high;
      on = record { front = before; back = c ∷ cs; before = e; after = refl };
      is = sym at;
    })
    (λ low at. begun_from k ring (before ++ c ∷ []) cs (e ∙ sym (append_assoc before (c ∷ []) cs))
    (omega (arith, some, occurrences-other (k + 1) c cs (λ h. absurd (omega (arith, h, low))))) at)
    same

pub begun_of : (k : ℕ) (ring : List ℕ) → 1 ≤ occurrences (k + 1) ring → Begun k ring
begun_of k ring some = begun_from k ring [] ring refl some refl

module _ (k last : ℕ) (high : k < last) where
  abbrev paths : List ℕ → List ℕ → List (List ℕ)
  paths path cs = paths_from k path (cs ++ last ∷ [])

  ends : (path : List ℕ) → paths path [] ≡ path ∷ []
  ends path = ap (λ t. cond t (path ∷ []) []) (lt-ltb k last high)

  -- a customer occurs on the paths as often as on the ring
  pub occurrences-paths : (x : ℕ) (path cs : List ℕ) → x ≤ k →
      occurrences x (concat (paths path cs)) ≡ occurrences x path + occurrences x cs
  occurrences-paths x path [] le =
      omega (arith, ap (λ v. occurrences x (concat v)) (ends path), occurrences-append x path [], occurrences-nil x)
  occurrences-paths x path (c ∷ cs) le =
      by_copy (λ t. occurrences x (concat (cond t (path ∷ paths [] cs) (paths (path ++ c ∷ []) cs)))
      ≡ occurrences x path + occurrences x (c ∷ cs)) k c
      (λ lt. omega (
        arith,
        occurrences-append x path (concat (paths [] cs)),
        occurrences-paths x [] cs le,
        occurrences-nil x,
        occurrences-other x c cs (λ h. absurd (omega (arith, h, lt, le))),
      ))
      (λ low. omega (
        arith,
        occurrences-paths x (path ++ c ∷ []) cs le,
        occurrences-append x path (c ∷ []),
        occurrences-append x (c ∷ []) cs,
      ))

  -- and a copy does not
  pub copies-paths : (x : ℕ) (path cs : List ℕ) → k < x → occurrences x (concat (paths path cs)) ≡ occurrences x path
  copies-paths x path [] lt =
      omega (arith, ap (λ v. occurrences x (concat v)) (ends path), occurrences-append x path [], occurrences-nil x)
  copies-paths x path (c ∷ cs) lt =
      by_copy (λ t. occurrences x (concat (cond t (path ∷ paths [] cs) (paths (path ++ c ∷ []) cs)))
      ≡ occurrences x path) k c
      (λ here. omega (
        arith,
        occurrences-append x path (concat (paths [] cs)),
        copies-paths x [] cs lt,
        occurrences-nil x,
      ))
      (λ low. omega (
        arith,
        copies-paths x (path ++ c ∷ []) cs lt,
        occurrences-append x path (c ∷ []),
        occurrences-other x c [] (λ h. absurd (omega (arith, h, low, lt))),
        occurrences-nil x,
      ))

  -- the customers and the copies, of which each ends a path
  pub length-paths : (path cs : List ℕ) →
      length (concat (paths path cs)) + length (paths path cs) ≡ length path + (length cs + 1)
  length-paths path [] =
      omega (
        arith,
        ap (λ v. length (concat v)) (ends path),
        ap (λ (v : List (List ℕ)). length v) (ends path),
        length-append path [],
      )
  length-paths path (c ∷ cs) =
      by_copy (λ t. length (concat (cond t (path ∷ paths [] cs) (paths (path ++ c ∷ []) cs)))
      + length (cond t (path ∷ paths [] cs) (paths (path ++ c ∷ []) cs)) ≡ length path + (length (c ∷ cs) + 1)) k c
      (λ here. omega (arith, length-append path (concat (paths [] cs)), length-paths [] cs))
      (λ low. omega (arith, length-paths (path ++ c ∷ []) cs, length-append path (c ∷ [])))

  -- the length of the ring, over the nodes of its elements, is the sum over the paths
  pub walk-paths : (d : ℕ → ℕ → ℕ) (depot : ℕ) (node : ℕ → ℕ) (path cs : List ℕ) →
      All (λ c. k < c → node c ≡ depot) cs →
      walk d depot (map node (path ++ cs) ++ depot ∷ [])
      ≡ sum_by (λ (p : List ℕ). walk d depot (map node p ++ depot ∷ [])) (paths path cs)
  walk-paths d depot node path [] at =
      ap (λ v. walk d depot (map node v ++ depot ∷ [])) (append-nil path)
      ∙ omega (
        arith,
        sum_by-cons (λ (p : List ℕ). walk d depot (map node p ++ depot ∷ [])) path [],
        ap (sum_by (λ (p : List ℕ). walk d depot (map node p ++ depot ∷ []))) (ends path),
      )
  walk-paths d depot node path (c ∷ cs) at =
      by_copy (λ t. walk d depot (map node (path ++ c ∷ cs) ++ depot ∷ [])
      ≡ sum_by (λ (p : List ℕ). walk d depot (map node p ++ depot ∷ []))
      (cond t (path ∷ paths [] cs) (paths (path ++ c ∷ []) cs))) k c
      (λ here.
      let rest = map node cs ++ depot ∷ [] in
      let cut : map node (path ++ c ∷ cs) ++ depot ∷ [] ≡ map node path ++ depot ∷ rest =
      ap (λ v. v ++ depot ∷ []) (map-append node path (c ∷ cs))
      ∙ append_assoc (map node path) (node c ∷ map node cs) (depot ∷ [])
      ∙ ap (λ v. map node path ++ v ∷ rest)
      (All-head (λ x. k < x → node x ≡ depot) c cs at here) in
      omega (
        arith,
        ap (walk d depot) cut,
        walk-through d depot (map node path) depot rest,
        walk-paths d depot node [] cs (All-tail (λ x. k < x → node x ≡ depot) c cs at),
        sum_by-cons (λ (p : List ℕ). walk d depot (map node p ++ depot ∷ [])) path (paths [] cs),
      ))
      (λ low.
      ap (λ v. walk d depot (map node v ++ depot ∷ [])) (sym (append_assoc path (c ∷ []) cs))
      ∙ walk-paths d depot node (path ++ c ∷ []) cs (All-tail (λ x. k < x → node x ≡ depot) c cs at))

-- the loads of the paths, on a ring that fits
module _ (q : ℕ) (demands : List ℕ) (last : ℕ) (high : length demands < last) where
  abbrev st : List ℕ → Stretch
  st xs = loads_of q demands xs

  abbrev load : List ℕ → ℕ
  load path = sum_by (demand_in demands) path

  data Parted : Stretch → Type 0 where
    at_copy : (h : ℕ) (i : Bool) (t : ℕ) → Parted (record { parted = true; head = h; tail = t; fits = i })

  parted-copy : {s : Stretch} → View s → Parted (join q s copy)
  parted-copy (one a) = at_copy (a + 0) true 0
  parted-copy (more h i t) = at_copy h (i && leb (t + 0) q && true) 0

  ends_parted : (cs : List ℕ) → Parted (st (cs ++ last ∷ []))
  ends_parted cs =
      subst Parted
      (sym (st-append q (demand_in demands) (is_copy demands) cs (last ∷ [])
      ∙ ap (λ b. join q (st cs) (join q (cond b copy (whole (demand_in demands last))) (whole 0)))
      (lt-ltb (length demands) last high)))
      (parted-copy (view q (demand_in demands) (is_copy demands) cs))

  behind : {t : Stretch} → Parted t → (join q copy t).fits ≡ true → (t.fits ≡ true) × (t.head ≤ q)
  behind (at_copy h i t) e =
      let le = leb-true (0 + h) q (and_tail true (leb (0 + h) q) (and_head (true && leb (0 + h) q) i e)) in
      (and_tail (true && leb (0 + h) q) i e, omega (arith, le))

  plain_on : {t : Stretch} → Parted t → (d : ℕ) → ((join q (whole d) t).head ≡ d + t.head)
      × ((join q (whole d) t).fits ≡ t.fits)
  plain_on (at_copy h i t) d = (refl, refl)

  pub light-paths : (path cs : List ℕ) → load path + (st (cs ++ last ∷ [])).head ≤ q →
      (st (cs ++ last ∷ [])).fits ≡ true →
      All (λ (p : List ℕ). load p ≤ q) (paths_from (length demands) path (cs ++ last ∷ []))
  light-paths path [] le fit =
      subst (λ (v : List (List ℕ)). All (λ (p : List ℕ). load p ≤ q) v) (sym (ends (length demands) last high path))
      (All-cons (λ (p : List ℕ). load p ≤ q) path [] (omega (arith, le)) (All-nil (λ (p : List ℕ). load p ≤ q)))
  light-paths path (c ∷ cs) le fit =
      by_copy (λ t.
      load path + (join q (cond t copy (whole (demand_in demands c))) (st (cs ++ last ∷ []))).head ≤ q →
      (join q (cond t copy (whole (demand_in demands c))) (st (cs ++ last ∷ []))).fits ≡ true →
      All (λ (p : List ℕ). load p ≤ q)
      (cond t (path ∷ paths_from (length demands) [] (cs ++ last ∷ []))
      (paths_from (length demands) (path ++ c ∷ []) (cs ++ last ∷ [])))) (length demands) c
      (λ here le fit.
      let after = behind (ends_parted cs) fit in
      All-cons (λ (p : List ℕ). load p ≤ q) path (paths_from (length demands) [] (cs ++ last ∷ []))
      (omega (arith, le))
      (light-paths [] cs (omega (arith, after.1)) after.0))
      (λ low le fit.
      let on = plain_on (ends_parted cs) (demand_in demands c) in
      light-paths (path ++ c ∷ []) cs
      (omega (
        arith,
        le,
        on.0,
        sum_by-append (demand_in demands) path (c ∷ []),
        sum_by-cons (demand_in demands) c [],
      )) (sym on.1 ∙ fit))
      le fit

  pub light-ring : (cs : List ℕ) → is_closed q (st (cs ++ last ∷ [])) ≡ true →
      All (λ (p : List ℕ). load p ≤ q) (paths_from (length demands) [] (cs ++ last ∷ []))
  light-ring cs closed = on (ends_parted cs) refl
    where
      on : {s : Stretch} → Parted s → s ≡ st (cs ++ last ∷ []) →
          All (λ (p : List ℕ). load p ≤ q) (paths_from (length demands) [] (cs ++ last ∷ []))
      on (at_copy h i t) e =
          let here = ap (is_closed q) e ∙ closed in
          light-paths [] cs
          (omega (arith, ap (λ z. z.head) e, leb-true (t + h) q (and_tail i (leb (t + h) q) here)))
          (sym (ap (λ z. z.fits) e) ∙ and_head i (leb (t + h) q) here)
