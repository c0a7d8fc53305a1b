-- The near lists with the first k entries of each list.
use Rattle.std.proofs.Common.{◌≡◌, ℕ, ◌+◌, ◌*◌, ◌-◌, ◌<◌, ◌≤◌, ⊎_elim, List, ◌++◌, length, take, drop, sym, ap, ◌∙◌}
use Rattle.std.proofs.Common.{arith, subst, get_or, ◌≢◌}
use Rattle.std.specs.Prelude.{All}
use Rattle.std.proofs.lemmas.Bool.{cases_eq}
use Rattle.std.proofs.lemmas.List.{drop_at, get_or-take, length-append, length-take-le, take-append-drop, take_all}
use Rattle.std.proofs.Math.Nat.{mul-le-mul_right}
use Rattle.tk_distance.specs.Cities.{IsCity}
use Rattle.tk_near.specs.Near.{AreNearest, HasOthers, IsFirst, IsNear, IsNew, IsOther, NearLists, block, near_of}
use Rattle.tk_near.proofs.FlatLists.{product_step, within_front}
use Rattle.tk_near.proofs.InPlane.TreeCandidates.{all_front}

-- the first k of a near list
pub IsNear-shorter : (dist : ℕ → ℕ → ℕ) (n m k c : ℕ) (cities : List ℕ) → k ≤ m → IsNear dist n m c cities →
    IsNear dist n k c (take k cities)
IsNear-shorter dist n m k c cities few near =
    let same : (i : ℕ) → i < k → get_or (take k cities) i 0 ≡ get_or cities i 0 = λ i l. get_or-take k cities i 0 l in
    record {
      count = length-take-le k cities (omega (arith, near.count));
      each = λ j l.
          let first = near.each j (omega arith) in
          subst (IsFirst dist c (λ b. IsCity n b × (b ≢ c) × IsNew (take k cities) j b)) (sym (same j l))
          (record {
            member = (first.member.0, first.member.1, λ i m e. first.member.2 i m (sym (same i (omega arith)) ∙ e));
            before = λ a p ne.
                first.before a (p.0, p.1, λ i m e. p.2 i m (same i (omega arith) ∙ e)) ne;
          });
    }

-- the lists of the cities before c
pub record AreShortened (v : NearLists) (k c : ℕ) (entries : List ℕ) : Type 0 where
  pub count : length entries ≡ (c - 1) * k
  pub each : (b : ℕ) → 1 ≤ b → b < c → block k entries b ≡ take k (near_of v b)

pub AreShortened-more : (v : NearLists) (k c : ℕ) (entries : List ℕ) → k ≤ length (near_of v c) → 1 ≤ c →
    AreShortened v k c entries → AreShortened v k (c + 1) (entries ++ take k (near_of v c))
AreShortened-more v k c entries room one h =
    let row : List ℕ = take k (near_of v c) in
    let size : length row ≡ k = length-take-le k (near_of v c) room in
    let step = product_step c k one in
    let next : c + 1 - 1 ≡ c = omega arith in
    record {
      count = length-append entries row ∙ omega (arith, h.count, size, step) ∙ sym (ap (λ a. a * k) next);
      each = λ b low high. ⊎_elim
          (λ same. subst (λ a. block k (entries ++ row) a ≡ take k (near_of v a)) (sym same)
          (ap (take k) (drop_at entries row ((c - 1) * k) h.count) ∙ take_all k row (omega (arith, size))))
          (λ apart.
          let up : b * k ≤ (c - 1) * k = mul-le-mul_right k (omega arith) in
          within_front k ((b - 1) * k) entries row (omega (arith, product_step b k low, h.count))
          ∙ h.each b low (omega arith))
          (cases_eq b c);
    }

-- the lists of all cities
module _ (v : NearLists) (k : ℕ) (few : k ≤ v.width) (entries : List ℕ) (all : AreShortened v k (v.size + 1) entries)
  where
    abbrev pub short : NearLists
    short = record { size = v.size; width = k; entries = entries }

    pub shortened_list : (c : ℕ) → IsCity v.size c → near_of short c ≡ take k (near_of v c)
    shortened_list c city = all.each c city.0 (omega (arith, city.1))

    pub shortened_others : HasOthers v → HasOthers short
    shortened_others h = record {
      few = h.few;
      narrow = omega (arith, h.narrow);
      count = all.count ∙ ap (λ n. n * k) (omega arith);
      each = λ c city. subst (All (IsOther v.size c)) (sym (shortened_list c city))
          (all_front (IsOther v.size c) (take k (near_of v c)) (drop k (near_of v c))
          (subst (All (IsOther v.size c)) (sym (take-append-drop k (near_of v c))) (h.each c city)));
    }

    pub shortened_nearest : (dist : ℕ → ℕ → ℕ) → AreNearest dist v → AreNearest dist short
    shortened_nearest dist h = record {
      count = all.count ∙ ap (λ n. n * k) (omega arith);
      each = λ c city. subst (IsNear dist v.size k c) (sym (shortened_list c city))
          (IsNear-shorter dist v.size v.width k c (near_of v c) few (h.each c city));
    }
