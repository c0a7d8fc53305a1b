-- A city that is taken out of a row.
use Rattle.std.proofs.Common.{append_assoc, ◌≡◌, ℕ, ◌<◌, List, [], ◌∷◌, ◌++◌, length, sym, ap, ◌∙◌, get_or}
use Rattle.std.specs.Prelude.{All}
use Rattle.std.specs.List.{swap_remove}
use Rattle.std.proofs.lemmas.List.{get_or_default}
use Rattle.std.proofs.lemmas.List.Elements.{All-tail}
use Rattle.std.proofs.lemmas.List.Sorted.{All-permutation, IsPermutation-append_comm, IsPermutation-swap_remove}
use Rattle.std.proofs.lemmas.List.Sorted.{IsPermutation-append_left, IsPermutation-append_right, IsPermutation-cons}
use Rattle.std.proofs.lemmas.List.Sorted.{IsPermutation-to_front, IsPermutation-trans}
use Rattle.tk_near.specs.declared.plane.city_point.CityPoint.{CityPoint}
use Rattle.tk_near.specs.CityPoint.{placed_city, nowhere}
use Rattle.tk_near.specs.Unvisited.{IsTakenOut}

pub taken_out : (p : CityPoint) (row : List CityPoint) (i : ℕ) (q : CityPoint) →
    (i < length row) × (placed_city row i ≡ p.city) →
    q ≡ get_or row i q → IsTakenOut p row (swap_remove row i q)
taken_out p row i q at is = record {
  taken = q;
  is = ap (λ (v : CityPoint). v.city) (is ∙ get_or_default row i q nowhere at.0) ∙ at.1;
  others = IsPermutation-swap_remove row i q at.0 is;
}

pub taken_behind : (p : CityPoint) (front old new : List CityPoint) → IsTakenOut p old new →
    IsTakenOut p (front ++ old) (front ++ new)
taken_behind p front old new h = record {
  taken = h.taken;
  is = h.is;
  others = IsPermutation-trans (front ++ old) (front ++ h.taken ∷ new) (h.taken ∷ front ++ new)
      (IsPermutation-append_right front old (h.taken ∷ new) h.others)
      (rw (sym (append_assoc front (h.taken ∷ []) new))
      (IsPermutation-append_left new (front ++ h.taken ∷ []) (h.taken ∷ front)
      (IsPermutation-to_front front h.taken)));
}

pub taken_before : (p : CityPoint) (old new back : List CityPoint) → IsTakenOut p old new →
    IsTakenOut p (old ++ back) (new ++ back)
taken_before p old new back h = record {
  taken = h.taken;
  is = h.is;
  others = IsPermutation-append_left back old (h.taken ∷ new) h.others;
}

-- what holds of all cities holds of those that are left
pub All-taken : (P : CityPoint → Type 0) (p : CityPoint) (old new : List CityPoint) → IsTakenOut p old new →
    All P old → All P new
All-taken P p old new h all = All-tail P h.taken new (All-permutation P old (h.taken ∷ new) h.others all)

pub All-swapped : (P : CityPoint → Type 0) (front back : List CityPoint) → All P (front ++ back) → All P (back ++ front)
All-swapped P front back all =
    All-permutation P (front ++ back) (back ++ front) (IsPermutation-append_comm front back) all

pub taken_swapped : (p : CityPoint) (front back front_left back_left : List CityPoint) →
    IsTakenOut p (front ++ back) (front_left ++ back_left) → IsTakenOut p (back ++ front) (back_left ++ front_left)
taken_swapped p front back front_left back_left h = record {
  taken = h.taken;
  is = h.is;
  others = IsPermutation-trans (back ++ front) (front ++ back) (h.taken ∷ back_left ++ front_left)
      (IsPermutation-append_comm back front)
      (IsPermutation-trans (front ++ back) (h.taken ∷ front_left ++ back_left) (h.taken ∷ back_left ++ front_left)
      h.others
      (IsPermutation-cons h.taken (front_left ++ back_left) (back_left ++ front_left)
      (IsPermutation-append_comm front_left back_left)));
}
