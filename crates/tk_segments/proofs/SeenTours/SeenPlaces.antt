-- The array position of each position of the sequence, and how a swap of two cities changes the sequence.
use Rattle.std.proofs.Common.{◌≡◌, ◌≢◌, ℕ, Bool, true, false, ◌+◌, ◌-◌, ◌<◌, ◌≤◌, ⊎_elim, List, [], ◌∷◌, length}
use Rattle.std.proofs.Common.{drop, set, refl, sym, ap, ◌∙◌, arith, get_or}
use Rattle.std.specs.Prelude.{reverse, if◌then◌else◌}
use Rattle.std.proofs.lemmas.Bool.{cases_lt, cases_eq}
use Rattle.std.proofs.lemmas.List.{length-append, length-reverse, length-take-le, length-drop}
use Rattle.std.proofs.lemmas.List.{length-set, get_or-take, get_or-drop, get_or-reverse, get_or_append_left}
use Rattle.std.proofs.lemmas.List.{get_or-append_right, get_or-set_same, get_or-set_other, ext_get_or}
use Rattle.tk_tour.proofs.DistinctCycles.{HoldsOnce}
use Rattle.tk_tour.proofs.Tours.{places_differ}
use Rattle.tk_segments.specs.Segments.{stretch, shown_by, shown, segment_size, shown_place, IsWithin}
use Rattle.tk_segments.specs.declared.segment.Segment.{Segment}

-- each of the segments is a range of an array of n positions
pub data AreWithin (n : ℕ) : List Segment → Type 0 where
  none : AreWithin n []
  more : {r : Segment} {rs : List Segment} → IsWithin n r → AreWithin n rs → AreWithin n (r ∷ rs)

length-stretch : (n : ℕ) (order : List ℕ) (r : Segment) → IsWithin n r → n ≤ length order →
    length (stretch r.low r.high order) ≡ segment_size r
length-stretch n order r h le =
    length-take-le (r.high - r.low) (drop r.low order) (omega (arith, length-drop r.low order, h))

length-turned_if : (b : Bool) (xs : List ℕ) → length (if b then reverse xs else xs) ≡ length xs
length-turned_if true xs = length-reverse xs
length-turned_if false xs = refl

pub length-shown_by : (n : ℕ) (order : List ℕ) (r : Segment) → IsWithin n r → n ≤ length order →
    length (shown_by order r) ≡ segment_size r
length-shown_by n order r h le = length-turned_if r.back (stretch r.low r.high order) ∙ length-stretch n order r h le

entry_if : (b : Bool) (order : List ℕ) (lo hi d : ℕ) → lo < hi → hi ≤ length order → d < hi - lo →
    get_or (if b then reverse (stretch lo hi order) else stretch lo hi order) d 0 ≡ get_or order
    (if b then hi - 1 - d else lo + d) 0
entry_if true order lo hi d lt le ld =
    let l : length (stretch lo hi order) ≡ hi - lo =
    length-take-le (hi - lo) (drop lo order) (omega (arith, length-drop lo order)) in
    get_or-reverse (stretch lo hi order) d 0 (omega (arith, l))
    ∙ get_or-take (hi - lo) (drop lo order) (length (stretch lo hi order) - 1 - d) 0 (omega (arith, l))
    ∙ get_or-drop lo order (length (stretch lo hi order) - 1 - d) 0
    ∙ ap (λ v. get_or order v 0) (omega (arith, l))
entry_if false order lo hi d lt le ld =
    get_or-take (hi - lo) (drop lo order) d 0 ld ∙ get_or-drop lo order d 0

-- the entries that a segment shows
pub get_or-shown_by : (n : ℕ) (order : List ℕ) (r : Segment) (d : ℕ) → IsWithin n r → n ≤ length order → d <
    segment_size r →
    get_or (shown_by order r) d 0 ≡ get_or order (shown_place r d) 0
get_or-shown_by n order r d h le ld = entry_if r.back order r.low r.high d h.0 (omega (arith, h)) ld

within_if : (b : Bool) (n lo hi d : ℕ) → lo < hi → hi ≤ n → d < hi - lo → (if b then hi - 1 - d else lo + d) < n
within_if true n lo hi d lt le ld = omega arith
within_if false n lo hi d lt le ld = omega arith

place_within : (n : ℕ) (r : Segment) (d : ℕ) → IsWithin n r → d < segment_size r → shown_place r d < n
place_within n r d h ld = within_if r.back n r.low r.high d h.0 h.1 ld

pub length-shown : (n : ℕ) (one two : List ℕ) (segments : List Segment) → AreWithin n segments → n ≤ length one → n ≤
    length two →
    length (shown one segments) ≡ length (shown two segments)
length-shown n one two _ AreWithin.none l1 l2 = refl
length-shown n one two _ (AreWithin.more {r} {rs} h t) l1 l2 =
    omega (
      arith,
      length-append (shown_by one r) (shown one rs),
      length-append (shown_by two r) (shown two rs),
      length-shown_by n one r h l1,
      length-shown_by n two r h l2,
      length-shown n one two rs t l1 l2,
    )

pub seen_place : (n : ℕ) (some : List ℕ) (segments : List Segment) (v : ℕ) → AreWithin n segments → n ≤ length some →
    v < length (shown some segments) →
    (p : ℕ) × (p < n) × ((order : List ℕ) → n ≤ length order → get_or (shown order segments) v 0 ≡ get_or order p 0)
seen_place n some _ v AreWithin.none l lv = absurd (omega arith)
seen_place n some _ v (AreWithin.more {r} {rs} h t) l lv =
    ⊎_elim
    (λ (z : v < segment_size r). (
      shown_place r v,
      place_within n r v h z,
      (λ order le. get_or_append_left (shown_by order r) (shown order rs) 0 v
          (omega (arith, length-shown_by n order r h le)) ∙ get_or-shown_by n order r v h le z),
    ))
    (λ (z : segment_size r ≤ v).
    let k =
    seen_place n some rs (v - segment_size r) t l
    (omega (arith, length-append (shown_by some r) (shown some rs), length-shown_by n some r h l)) in (
      k.0,
      k.1,
      (λ order le. get_or-append_right (shown_by order r) (shown order rs) (segment_size r) v 0
          (length-shown_by n order r h le) z ∙ k.2 order le),
    ))
    (cases_lt v (segment_size r))

once_at : (xs : List ℕ) (i j : ℕ) → HoldsOnce xs → i < length xs → j < length xs → get_or xs i 0 ≡ get_or xs j 0 → i ≡ j
once_at xs i j once li lj e =
    ⊎_elim (λ (a : i < j). absurd (places_differ xs i j once a lj e))
    (λ (a : j ≤ i). ⊎_elim (λ (b : j < i). absurd (places_differ xs j i once b li (sym e))) (λ (b : i ≤ j). omega arith)
    (cases_lt j i))
    (cases_lt i j)

-- two cities swapped at array positions p and q, which are positions v and w of the sequence
pub record Exchanges (n : ℕ) (some order : List ℕ) (segments : List Segment) (v w p q : ℕ) : Type 0 where
  pub within : AreWithin n segments
  pub sizes : (length order ≡ n) × (length some ≡ n) × (length (shown some segments) ≡ n)
  pub once : HoldsOnce (shown some segments)
  pub apart : (v < n) × (w < n) × (v ≢ w)
  pub p_seen : (p < n) × ((xs : List ℕ) → n ≤ length xs → get_or (shown xs segments) v 0 ≡ get_or xs p 0)
  pub q_seen : (q < n) × ((xs : List ℕ) → n ≤ length xs → get_or (shown xs segments) w 0 ≡ get_or xs q 0)

pub shown-exchanged : (n : ℕ) (some order : List ℕ) (segments : List Segment) (v w p q x y : ℕ) →
    Exchanges n some order segments v w p q →
    shown (set (set order p y) q x) segments ≡ set (set (shown order segments) v y) w x
shown-exchanged n some order segments v w p q x y h =
    let now : List ℕ = set (set order p y) q x in
    let old : List ℕ = shown order segments in
    let l1 : length (set order p y) ≡ n = length-set order p y ∙ h.sizes.0 in
    let l2 : length now ≡ n = length-set (set order p y) q x ∙ l1 in
    let ls : n ≤ length some = omega (arith, h.sizes) in
    let l3 : length (shown now segments) ≡ n = length-shown n now some segments h.within (omega (arith, l2)) ls ∙
    h.sizes.2 in
    let l0 : length old ≡ n = length-shown n order some segments h.within (omega (arith, h.sizes)) ls ∙ h.sizes.2 in
    let l4 : length (set old v y) ≡ n = length-set old v y ∙ l0 in
    let l5 : length (set (set old v y) w x) ≡ n = length-set (set old v y) w x ∙ l4 in
    let lo : n ≤ length order = omega (arith, h.sizes) in
    let ln : n ≤ length now = omega (arith, l2) in
    let same : (i j a b : ℕ) → i < n → j < n → get_or (shown some segments) i 0 ≡ get_or some a 0 →
    get_or (shown some segments) j 0 ≡ get_or some b 0 → a ≡ b → i ≡ j = λ i j a b li lj e f g.
    once_at (shown some segments) i j h.once (omega (arith, h.sizes)) (omega (arith, h.sizes))
    (e ∙ ap (λ u. get_or some u 0) g ∙ sym f) in
    let pq : q ≢ p =
    λ e. h.apart.2 (same v w p q h.apart.0 h.apart.1 (h.p_seen.1 some ls) (h.q_seen.1 some ls) (sym e)) in
    ext_get_or 0 (shown now segments) (set (set old v y) w x) (l3 ∙ sym l5)
    (λ u lu'.
    let lu : u < n = omega (arith, l3) in
    ⊎_elim
    (λ (e : u ≡ w).
    ap (λ k. get_or (shown now segments) k 0) e ∙ h.q_seen.1 now ln
    ∙ get_or-set_same (set order p y) q x 0 (omega (arith, l1, h.q_seen.0))
    ∙ sym (ap (λ k. get_or (set (set old v y) w x) k 0) e
    ∙ get_or-set_same (set old v y) w x 0 (omega (arith, l4, h.apart.1))))
    (λ (nw : u ≢ w).
    ⊎_elim
    (λ (e : u ≡ v).
    ap (λ k. get_or (shown now segments) k 0) e ∙ h.p_seen.1 now ln
    ∙ get_or-set_other (set order p y) q p x 0 (λ g. pq (sym g))
    ∙ get_or-set_same order p y 0 (omega (arith, h.sizes, h.p_seen.0))
    ∙ sym (get_or-set_other (set old v y) w u x 0 nw ∙ ap (λ k. get_or (set old v y) k 0) e
    ∙ get_or-set_same old v y 0 (omega (arith, l0, h.apart.0))))
    (λ (nv : u ≢ v).
    let k = seen_place n some segments u h.within ls (omega (arith, h.sizes)) in
    let kq : k.0 ≢ q = λ e. nw (same u w k.0 q lu h.apart.1 (k.2 some ls) (h.q_seen.1 some ls) e) in
    let kp : k.0 ≢ p = λ e. nv (same u v k.0 p lu h.apart.0 (k.2 some ls) (h.p_seen.1 some ls) e) in
    k.2 now ln ∙ get_or-set_other (set order p y) q k.0 x 0 kq ∙ get_or-set_other order p k.0 y 0 kp
    ∙ sym (get_or-set_other (set old v y) w u x 0 nw ∙ get_or-set_other old v u y 0 nv ∙ k.2 order lo))
    (cases_eq u v))
    (cases_eq u w))

-- distinct positions of the sequence are distinct array positions
pub seen_apart : (n : ℕ) (some order : List ℕ) (segments : List Segment) (v w p q : ℕ) →
    Exchanges n some order segments v w p q → p ≢ q
seen_apart n some order segments v w p q h =
    let ls : n ≤ length some = omega (arith, h.sizes) in
    λ e. h.apart.2
    (once_at (shown some segments) v w h.once (omega (arith, h.sizes, h.apart.0)) (omega (arith, h.sizes, h.apart.1))
    (h.p_seen.1 some ls ∙ ap (λ u. get_or some u 0) e ∙ sym (h.q_seen.1 some ls)))
