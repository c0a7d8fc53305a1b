-- A reversal of positions of the sequence by swaps of two cities.
use Rattle.std.proofs.Common.{◌≡◌, ℕ, ◌+◌, ◌-◌, ◌<◌, ◌≤◌, ◌/◌, ⊎_elim, List, length, set, refl, sym, ◌∙◌, subst, arith}
use Rattle.std.proofs.Common.{get_or}
use Rattle.std.proofs.lemmas.List.{length-set}
use Rattle.std.proofs.lemmas.Bool.{cases_lt}
use Rattle.tk_tour.specs.Reversal.{reversed_places, IsInverse}
use Rattle.tk_tour.proofs.DistinctCycles.{HoldsOnce}
use Rattle.tk_segments.specs.Segments.{shown}
use Rattle.tk_segments.specs.declared.segment.Segment.{Segment}
use Rattle.tk_segments.proofs.SeenTours.SeenPlaces.{AreWithin, Exchanges, shown-exchanged, seen_apart}
use Rattle.tk_tour.proofs.StoredTours.Reversing.{IsInverse-exchange, Mirroring, Mirroring-more, Mirroring-all}

-- array position p is position v of the sequence
abbrev pub SeenAt : ℕ → List Segment → ℕ → ℕ → Type 0
SeenAt n segments v p = (p < n) × ((xs : List ℕ) → n ≤ length xs → get_or (shown xs segments) v 0 ≡ get_or xs p 0)

-- the state between two swaps: the sequence is partly reversed, and the array of positions is still the inverse of the
-- array
pub record Exchanging (n first count t low high : ℕ) (begin order place : List ℕ) (segments : List Segment) : Type 0
  where
    pub within : AreWithin n segments
    pub sizes : (length order ≡ n) × (length begin ≡ n)
    pub once : HoldsOnce (shown begin segments)
    pub seen : Mirroring n first count t low high (shown begin segments) (shown order segments)
    pub inverse : IsInverse order place

pub Exchanging-more : (n first count t low high low' high' p q x y : ℕ) (begin order place : List ℕ)
    (segments : List Segment) →
    Exchanging n first count t low high begin order place segments → first < n → count ≤ n → t < count / 2 →
    ((high ≡ 0 → high' + 1 ≡ n) × (0 < high → high' + 1 ≡ high)) →
    ((low + 1 ≡ n → low' ≡ 0) × (low + 1 < n → low' ≡ low + 1)) →
    SeenAt n segments low p → SeenAt n segments high' q → x ≡ get_or order p 0 → y ≡ get_or order q 0 →
    Exchanging n first count (t + 1) low' high' begin (set (set order p y) q x)
    (set (set place (y - 1) p) (x - 1) q) segments
Exchanging-more n first count t low high low' high' p q x y begin order place segments h lf lc lt eh el sp sq ex ey =
    let lo : n ≤ length order = omega (arith, h.sizes) in
    let old : List ℕ = shown order segments in
    let ex' : x ≡ get_or old low 0 = ex ∙ sym (sp.1 order lo) in
    let ey' : y ≡ get_or old high' 0 = ey ∙ sym (sq.1 order lo) in
    let step = Mirroring-more n first count t low high low' high' x y (shown begin segments) old h.seen lf lc lt eh
    el ex' ey' in
    let two = step.0 in
    let e : Exchanges n begin order segments low high' p q = record {
      within = h.within;
      sizes = (h.sizes.0, h.sizes.1, h.seen.lengths.0);
      once = h.once;
      apart = (two.low_in, two.high_in, two.apart);
      p_seen = sp;
      q_seen = sq;
    } in
    let now : shown (set (set order p y) q x) segments ≡ set (set old low y) high' x =
    shown-exchanged n begin order segments low high' p q x y e in
    let P : List ℕ → Type 0 = λ v. Mirroring n first count (t + 1) low' high' (shown begin segments) v in
    record {
      within = h.within;
      sizes = (length-set (set order p y) q x ∙ length-set order p y ∙ h.sizes.0, h.sizes.1);
      once = h.once;
      seen = subst P (sym now) step.1;
      inverse = IsInverse-exchange order place p q x y h.inverse (omega (arith, sp.0, h.sizes))
          (omega (arith, sq.0, h.sizes)) (seen_apart n begin order segments low high' p q e) ex ey;
    }

pub Exchanging-all : (n first count t low high : ℕ) (begin order place : List ℕ) (segments : List Segment) →
    Exchanging n first count t low high begin order place segments → first < n → count ≤ n → t ≡ count / 2 →
    shown order segments ≡ reversed_places first count (shown begin segments)
Exchanging-all n first count t low high begin order place segments h lf lc e =
    Mirroring-all n first count t low high (shown begin segments) (shown order segments) h.seen lf lc e

pub Exchanging-none : (n first count high : ℕ) (order place : List ℕ) (segments : List Segment) → AreWithin n segments →
    length order ≡ n → length (shown order segments) ≡ n → HoldsOnce (shown order segments) → IsInverse order place →
    first < n → count ≤ n → (count < n - first → high ≡ first + count) →
    (n - first ≤ count → high + n ≡ first + count) →
    Exchanging n first count 0 first high order order place segments
Exchanging-none n first count high order place segments w l ls once inverse lf lc e1 e2 = record {
  within = w;
  sizes = (l, l);
  once = once;
  seen = record {
    lengths = (ls, ls);
    low_at = (lf, ((λ a. omega arith), (λ a. omega arith)));
    high_at = (
      ⊎_elim (λ (a : count < n - first). omega (arith, e1 a)) (λ (a : n - first ≤ count). omega (arith, e2 a))
          (cases_lt count (n - first)),
      ((λ a. omega (arith, e1 (omega arith))), (λ a. omega (arith, e2 (omega arith)))),
    );
    mirrored = record {
      same_length = refl;
      front = λ k a. absurd (omega arith);
      back = λ k a b. absurd (omega arith);
      middle = λ k a b. refl;
      beyond = λ k a. refl;
    };
  };
  inverse = inverse;
}
