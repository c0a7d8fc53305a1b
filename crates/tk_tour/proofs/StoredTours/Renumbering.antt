-- Cities in a new order, and the array of positions, to which their new positions are written one after another.
use Rattle.std.proofs.Common.{◌≡◌, ◌≢◌, ℕ, ◌+◌, ◌-◌, ◌<◌, ◌≤◌, ◌⊎◌, ⊎_elim, inl, inr, List, length, set, sym, ap, ◌∙◌}
use Rattle.std.proofs.Common.{arith, get_or}
use Rattle.std.proofs.lemmas.List.{length-set, get_or-set_same, get_or-set_other}
use Rattle.std.proofs.lemmas.Bool.{cases_lt, cases_eq}
use Rattle.tk_tour.specs.Reversal.{IsInverse}
use Rattle.tk_tour.specs.Tour.{IsTour}
use Rattle.tk_tour.proofs.Tours.{HoldsOnce-tour, city_in_range, places_differ}

-- the positions before k and those from `last` on have been written; each city occurs once
pub record Renumbering (order place : List ℕ) (k last : ℕ) : Type 0 where
  pub size : length place ≡ length order
  pub cities : (i : ℕ) → i < length order → (0 < get_or order i 0) × (get_or order i 0 ≤ length order)
  pub apart : (i j : ℕ) → i < length order → j < length order → get_or order i 0 ≡ get_or order j 0 → i ≡ j
  pub reported : (i : ℕ) → i < length order → (i < k) ⊎ (last ≤ i) → get_or place (get_or order i 0 - 1) 0 ≡ i

-- no position of a tour has been written yet
pub Renumbering-none : (xs place : List ℕ) → IsTour (length xs) xs → length place ≡ length xs →
    Renumbering xs place 0 (length xs)
Renumbering-none xs place tour l =
    let once = HoldsOnce-tour (length xs) xs tour in
    record {
      size = l;
      cities = λ i li. city_in_range (length xs) xs i tour li;
      apart = λ i j li lj e.
          ⊎_elim (λ (a : i < j). absurd (places_differ xs i j once a lj e))
          (λ (a : j ≤ i). ⊎_elim (λ (b : j < i). absurd (places_differ xs j i once b li (sym e)))
          (λ (b : i ≤ j). omega (arith, a, b)) (cases_lt j i))
          (cases_lt i j);
      reported = λ i li side. absurd (omega arith);
    }

pub Renumbering-more : (order place : List ℕ) (k last : ℕ) → Renumbering order place k last → k < length order →
    Renumbering order (set place (get_or order k 0 - 1) k) (k + 1) last
Renumbering-more order place k last h lt =
    let at = h.cities k lt in
    record {
      size = length-set place (get_or order k 0 - 1) k ∙ h.size;
      cities = h.cities;
      apart = h.apart;
      reported = λ i li side.
          ⊎_elim
          (λ (e : i ≡ k). ap (λ v. get_or (set place (get_or order k 0 - 1) k) (get_or order v 0 - 1) 0) e
          ∙ get_or-set_same place (get_or order k 0 - 1) k 0 (omega (arith, h.size, at)) ∙ sym e)
          (λ (ne : i ≢ k).
          let other : get_or order i 0 - 1 ≢ get_or order k 0 - 1 =
          λ e. ne (h.apart i k li lt (omega (arith, e, at, h.cities i li))) in
          let before : (i < k) ⊎ (last ≤ i) =
          ⊎_elim (λ (a : i < k + 1). inl (omega (arith, a, ne))) (λ (b : last ≤ i). inr b) side in
          get_or-set_other place (get_or order k 0 - 1) (get_or order i 0 - 1) k 0 other ∙ h.reported i li before)
          (cases_eq i k);
    }

-- all positions have been written
pub Renumbering-all : (order place : List ℕ) (k last : ℕ) → Renumbering order place k last → last ≤ k →
    IsInverse order place
Renumbering-all order place k last h le = (
  h.size,
  λ i li. let at = h.cities i li in (
    at.0,
    at.1,
    h.reported i li (⊎_elim (λ (a : i < k). inl a) (λ (b : k ≤ i). inr (omega (arith, b, le))) (cases_lt i k)),
  ),
)
