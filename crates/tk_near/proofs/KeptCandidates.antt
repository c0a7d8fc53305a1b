-- The candidates kept, one more city at a time, up to the near list.
use Rattle.std.proofs.Common.{◌≡◌, ◌≢◌, ℕ, zero, suc, ◌+◌, ◌*◌, ◌-◌, ◌<◌, ◌≤◌, ◌⊎◌, ⊎_elim, inl, inr, List, [], ◌∷◌}
use Rattle.std.proofs.Common.{◌++◌, length, take, replicate, refl, sym, ap, ◌∙◌, arith, cond, true, false, Bool, get_or}
use Rattle.std.proofs.Common.{subst}
use Rattle.std.specs.Prelude.{All, nat_lt}
use Rattle.std.proofs.lemmas.Bool.Decides.{nat_tests}
use Rattle.std.proofs.lemmas.Bool.{cases_eq, cases_lt}
use Rattle.std.proofs.lemmas.List.{get_or-map, get_or-take, get_or_default, take_all, take-append-le, length-map}
use Rattle.std.proofs.lemmas.List.{length-take-le, length-replicate, length-append}
use Rattle.std.proofs.lemmas.List.Elements.{All-cons, All-nil, All-weaker, All-append, All-head, All-tail}
use Rattle.std.proofs.lemmas.List.Elements.{All-replicate, Contains-append_right}
use Rattle.std.proofs.lemmas.List.Sorted.{All-permutation, Contains-permutation}
use Rattle.tk_near.specs.declared.candidates.Candidate.{Candidate}
use Rattle.tk_distance.specs.Cities.{IsCity}
use Rattle.tk_near.specs.Near.{IsNear}
use Rattle.tk_near.specs.Keeping.{Rising, Climbing, insert_by, rank, candidate, empty_slot, cities_kept, KeepsFirst}
use Rattle.tk_near.proofs.SortedInsertion.{Rising-insert_by, Climbing-take, length-insert_by, IsPermutation-insert_by}
use Rattle.tk_near.proofs.SortedInsertion.{take-insert_by, insert_by-append}

-- the order of (distance, number) is that of the ranks
pub closer_from_rank : (p q v a : ℕ) → v < 4294967296 → a < 4294967296 → p * 4294967296 + v < q * 4294967296 + a →
    (p < q) ⊎ ((p ≡ q) × (v < a))
closer_from_rank p q v a lv la h =
    ⊎_elim (λ l. inl l) (λ g. inr (omega arith, omega arith)) (cases_lt p q)

pub Rising-at : {X : Type 0} (f : X → ℕ) (xs : List X) (i j : ℕ) (d : X) → Rising f xs → i < j → j < length xs →
    f (get_or xs i d) < f (get_or xs j d)
Rising-at f [] i j d h l m = absurd (omega arith)
Rising-at f (x ∷ xs) i zero d h l m = absurd (omega arith)
Rising-at f (x ∷ xs) zero (suc j) d h l m = h.0 j d (omega arith)
Rising-at f (x ∷ xs) (suc i) (suc j) d h l m = Rising-at f xs i j d h.1 (omega arith) (omega arith)

-- at first all places are open
pub KeepsFirst-none : (dist : ℕ → ℕ → ℕ) (c k : ℕ) (Seen : ℕ → Type 0) → ((b : ℕ) → Seen b → ⊥) →
    KeepsFirst dist c k 0 Seen (replicate k empty_slot)
KeepsFirst-none dist c k Seen none = record {
  whole = [];
  count = refl;
  rising = tt;
  each = All-nil (λ x. (x.distance ≡ dist c x.city) × Seen x.city);
  holds = λ b s. absurd (none b s);
  first = sym (take_all k (replicate k empty_slot) (omega (arith, length-replicate k empty_slot)));
}

-- a city that was not seen
pub KeepsFirst-more : (dist : ℕ → ℕ → ℕ) (c k m : ℕ) (Seen Then : ℕ → Type 0) (kept : List Candidate) (b : ℕ) →
    KeepsFirst dist c k m Seen kept → (Seen b → ⊥) → b < 4294967296 → dist c b < 4294967295 →
    ((a : ℕ) → Seen a → a < 4294967296) → ((a : ℕ) → Seen a → Then a) → Then b →
    ((a : ℕ) → Then a → a ≢ b → Seen a) →
    KeepsFirst dist c k (m + 1) Then (take k (insert_by rank (candidate dist c b) kept))
KeepsFirst-more dist c k m Seen Then kept b h fresh small near bounded keeps now only =
    let x : Candidate = candidate dist c b in
    let apart : All (λ y. rank y ≢ rank x) h.whole = λ j d l e.
    let y = h.each j d l in
    let s : (get_or h.whole j d).city < 4294967296 = bounded _ y.1 in
    let same : (get_or h.whole j d).city ≡ b = omega arith in
    fresh (subst Seen same y.1) in
    let perm = IsPermutation-insert_by rank x h.whole in
    record {
      whole = insert_by rank x h.whole;
      count = length-insert_by rank x h.whole ∙ omega (arith, h.count);
      rising = Rising-insert_by rank x h.whole h.rising apart;
      each = All-permutation (λ x. (x.distance ≡ dist c x.city) × Then x.city) (x ∷ h.whole) _ perm
          (All-cons (λ x. (x.distance ≡ dist c x.city) × Then x.city) x h.whole (refl, now)
          (All-weaker (λ x. (x.distance ≡ dist c x.city) × Seen x.city)
          (λ x. (x.distance ≡ dist c x.city) × Then x.city) (λ y p. (p.0, keeps _ p.1)) h.whole h.each));
      holds = λ a s. Contains-permutation (x ∷ h.whole) _ (candidate dist c a) perm
          (⊎_elim (λ e. (0, omega arith, ap (candidate dist c) (sym e)))
          (λ ne. Contains-append_right (x ∷ []) h.whole (candidate dist c a) (h.holds a (only a s ne))) (cases_eq a b));
      first = ap (λ v. take k (insert_by rank x v)) h.first
          ∙ take-insert_by rank x k (h.whole ++ replicate k empty_slot)
          ∙ ap (take k)
          (insert_by-append rank x h.whole (replicate k empty_slot)
          (All-replicate (λ z. rank x < rank z) k empty_slot (omega arith)));
    }

-- the same cities, said otherwise
pub KeepsFirst-same : (dist : ℕ → ℕ → ℕ) (c k m : ℕ) (Seen Then : ℕ → Type 0) (kept : List Candidate) →
    KeepsFirst dist c k m Seen kept → ((a : ℕ) → Seen a → Then a) → ((a : ℕ) → Then a → Seen a) →
    KeepsFirst dist c k m Then kept
KeepsFirst-same dist c k m Seen Then kept h keeps only = record {
  whole = h.whole;
  count = h.count;
  rising = h.rising;
  each = All-weaker (λ x. (x.distance ≡ dist c x.city) × Seen x.city) (λ x. (x.distance ≡ dist c x.city) × Then x.city)
      (λ y p. (p.0, keeps _ p.1)) h.whole h.each;
  holds = λ b s. h.holds b (only b s);
  first = h.first;
}

-- once all others were seen
pub IsNear-from_kept : (dist : ℕ → ℕ → ℕ) (n c k m : ℕ) (Seen : ℕ → Type 0) (kept : List Candidate) →
    KeepsFirst dist c k m Seen kept → n < 4294967296 → k ≤ m → ((b : ℕ) → IsCity n b → b ≢ c → Seen b) →
    ((b : ℕ) → Seen b → IsCity n b × (b ≢ c)) → IsNear dist n k c (cities_kept kept)
IsNear-from_kept dist n c k m Seen kept h small enough all only =
    let d : Candidate = record { distance = 0; city = 0 } in
    let full : kept ≡ take k h.whole = h.first
    ∙ take-append-le k h.whole (replicate k empty_slot) (omega (arith, h.count)) in
    let len : length (take k h.whole) ≡ k = length-take-le k h.whole (omega (arith, h.count)) in
    let entry : (j : ℕ) → j < k → get_or (cities_kept kept) j 0 ≡ (get_or h.whole j d).city = λ j l.
    let lj : j < length (take k h.whole) = omega (arith, len) in
    rw full (get_or-map (λ x. x.city) (take k h.whole) j d 0 lj
    ∙ ap (λ (x : Candidate). x.city) (get_or-take k h.whole j d l)) in
    let within : (j : ℕ) → j < k → j < length h.whole = λ j l. omega (arith, h.count) in
    record {
      count = length-map kept (λ x. x.city) ∙ ap length full ∙ len;
      each = λ j l.
          let y = h.each j d (within j l) in
          let here = entry j l in
          let city = only _ y.1 in
          rw here record {
            member = (
              city.0,
              city.1,
              λ i li e.
                  let u = h.each i d (within i (omega arith)) in
                  let there = entry i (omega arith) in
                  let same : (get_or h.whole i d).city ≡ (get_or h.whole j d).city = sym there ∙ e in
                  let dists : (get_or h.whole i d).distance ≡ (get_or h.whole j d).distance = u.0
                  ∙ ap (dist c) same ∙ sym y.0 in
                  let up = Rising-at rank h.whole i j d h.rising li (within j l) in
                  omega arith,
            );
            before = λ a p ne.
                let at = h.holds a (all a p.0 p.1) in
                let li : at.0 < length h.whole = at.1 in
                let is : get_or h.whole at.0 d ≡ candidate dist c a =
                get_or_default h.whole at.0 d (candidate dist c a) li ∙ at.2 in
                let found : (get_or h.whole at.0 d).city ≡ a = ap (λ (x : Candidate). x.city) is in
                let far : (get_or h.whole at.0 d).distance ≡ dist c a = ap (λ (x : Candidate). x.distance) is in
                ⊎_elim
                (λ before. absurd (p.2 at.0 before (entry at.0 (omega arith) ∙ found)))
                (λ behind. ⊎_elim
                (λ after.
                let up = Rising-at rank h.whole j at.0 d h.rising after li in
                closer_from_rank (dist c (get_or h.whole j d).city) (dist c a) (get_or h.whole j d).city a (omega arith)
                (omega arith) (omega arith))
                (λ beside.
                let same : at.0 ≡ j = omega arith in
                absurd (ne (sym found ∙ ap (λ v. (get_or h.whole v d).city) same)))
                (cases_lt j at.0))
                (cases_lt at.0 j);
          };
    }

-- the places are all there, in order
pub kept_length : {dist : ℕ → ℕ → ℕ} {c k m : ℕ} {Seen : ℕ → Type 0} {kept : List Candidate} →
    KeepsFirst dist c k m Seen kept → length kept ≡ k
kept_length {dist} {c} {k} h =
    ap length h.first
    ∙ length-take-le k (h.whole ++ replicate k empty_slot)
    (omega (arith, length-append h.whole (replicate k empty_slot), length-replicate k empty_slot))

Climbing-append : {X : Type 0} (f : X → ℕ) (xs zs : List X) → Rising f xs → Climbing f zs →
    All (λ x. All (λ z. f x ≤ f z) zs) xs → Climbing f (xs ++ zs)
Climbing-append f [] zs h g a = g
Climbing-append f (x ∷ xs) zs h g a = (
  All-append (λ y. f x ≤ f y) xs zs (All-weaker (λ y. f x < f y) (λ y. f x ≤ f y) (λ y l. omega arith) xs h.0)
      (All-head (λ x. All (λ z. f x ≤ f z) zs) x xs a),
  Climbing-append f xs zs h.1 g (All-tail (λ x. All (λ z. f x ≤ f z) zs) x xs a),
)

pub Climbing-replicate : {X : Type 0} (f : X → ℕ) (k : ℕ) (x : X) → Climbing f (replicate k x)
Climbing-replicate f zero x = tt
Climbing-replicate f (suc k) x = (All-replicate (λ y. f x ≤ f y) k x (omega arith), Climbing-replicate f k x)

-- where each candidate comes before the open places
pub kept_climbing : {dist : ℕ → ℕ → ℕ} {c k m : ℕ} {Seen : ℕ → Type 0} {kept : List Candidate} →
    ((b : ℕ) → dist c b < 4294967295) → ((b : ℕ) → Seen b → b < 4294967296) → KeepsFirst dist c k m Seen kept →
    Climbing rank kept
kept_climbing {dist} {c} {k} {m} {Seen} near small h =
    rw h.first
    (Climbing-take rank k (h.whole ++ replicate k empty_slot)
    (Climbing-append rank h.whole (replicate k empty_slot) h.rising (Climbing-replicate rank k empty_slot)
    (All-weaker (λ x. (x.distance ≡ dist c x.city) × Seen x.city)
    (λ x. All (λ z. rank x ≤ rank z) (replicate k empty_slot))
    (λ y p. All-replicate (λ z. rank y ≤ rank z) k empty_slot (omega (arith, near y.city, small y.city p.1)))
    h.whole h.each)))

pub KeepsFirst-count : (dist : ℕ → ℕ → ℕ) (c k m n : ℕ) (Seen : ℕ → Type 0) (kept : List Candidate) → m ≡ n →
    KeepsFirst dist c k m Seen kept → KeepsFirst dist c k n Seen kept
KeepsFirst-count dist c k m n Seen kept e h = subst (λ v. KeepsFirst dist c k v Seen kept) e h

pub same_twice : (t : Bool) (n : ℕ) → n ≡ cond t n n
same_twice t n = elim t as (λ v. n ≡ cond v n n) [ true ↦ refl | false ↦ refl ]

-- a scan of all cities but c: how many lie below b
pub count_others : (c b : ℕ) → 1 ≤ c → 1 ≤ b → b ≢ c →
    cond (nat_lt c b) (b - 2) (b - 1) + 1 ≡ cond (nat_lt c (b + 1)) (b + 1 - 2) (b + 1 - 1)
count_others c b m l ne = grind (arith, nat_tests)

pub count_self : (c b : ℕ) → 1 ≤ c → b ≡ c →
    cond (nat_lt c b) (b - 2) (b - 1) ≡ cond (nat_lt c (b + 1)) (b + 1 - 2) (b + 1 - 1)
count_self c b m e = grind (arith, nat_tests)

-- at the end of a scan of n cities, there are at least n - 1
pub count_most : (c n k : ℕ) → k < n → k ≤ cond (nat_lt c (n + 1)) (n + 1 - 2) (n + 1 - 1)
count_most c n k l = grind (arith, nat_tests)
