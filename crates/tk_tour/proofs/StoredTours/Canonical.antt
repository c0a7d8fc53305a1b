-- A tour that begins with city 1 and the smaller of its neighbours.
use Rattle.std.proofs.Common.{◌≡◌, ℕ, ◌+◌, ◌-◌, ◌<◌, ◌≤◌, ⊎_elim, inl, inr, List, length, sym, ap, ◌∙◌, subst}
use Rattle.std.proofs.Common.{arith, get_or}
use Rattle.std.specs.Prelude.{reverse}
use Rattle.std.proofs.lemmas.Bool.{cases_lt}
use Rattle.std.proofs.lemmas.List.{length-reverse, reverse-reverse, get_or-reverse}
use Rattle.tk_tour.specs.Tour.{IsTour, IsSizedTour, IsRotation, next_city, prev_city}
use Rattle.tk_tour.specs.Reversal.{begun_at}
use Rattle.tk_tour.specs.Printed.{IsPrintedForm}
use Rattle.tk_tour.proofs.Cycle.{IsRotation-reverse}
use Rattle.tk_tour.proofs.Tours.{HoldsOnce-tour, next_city-inside, next_city-end}
use Rattle.tk_tour.proofs.StoredTours.Places.{IsRotation-begun_at, get_or-begun_at}
use Rattle.tk_tour.proofs.StoredTours.Cuts.{IsTour-reverse, next_city-reverse}

begun_first : (xs : List ℕ) (k c : ℕ) → k < length xs → get_or xs k 0 ≡ c → get_or (begun_at k xs) 0 0 ≡ c
begun_first xs k c lt e =
    get_or-begun_at xs k 0 k 0 (omega arith) (omega arith) (omega arith) ∙ e

begun_second : (xs : List ℕ) (k c : ℕ) → IsTour (length xs) xs → 2 ≤ length xs → k < length xs → get_or xs k 0 ≡ c →
    get_or (begun_at k xs) 1 0 ≡ next_city xs c
begun_second xs k c tour big lt e =
    let n : ℕ = length xs in
    let once = HoldsOnce-tour n xs tour in
    ⊎_elim
    (λ (more : k + 1 < n).
    get_or-begun_at xs k 1 (k + 1) 0 (omega arith) (omega arith) (omega arith)
    ∙ sym (next_city-inside xs k once more) ∙ ap (next_city xs) e)
    (λ (end : n ≤ k + 1).
    let last : k + 1 ≡ n = omega arith in
    get_or-begun_at xs k 1 0 0 (omega arith) (omega arith) (omega arith)
    ∙ sym (next_city-end xs k once last) ∙ ap (next_city xs) e)
    (cases_lt (k + 1) n)

pub IsPrintedForm-ahead : (xs : List ℕ) (k : ℕ) → IsSizedTour xs → k < length xs → get_or xs k 0 ≡ 1 →
    next_city xs 1 ≤ prev_city xs 1 → IsPrintedForm xs (begun_at k xs)
IsPrintedForm-ahead xs k sized lt e le = record {
  cycle = inl (IsRotation-begun_at k xs);
  first = begun_first xs k 1 lt e;
  second = begun_second xs k 1 sized.2 sized.0 lt e ∙ omega arith;
}

pub IsPrintedForm-back : (xs : List ℕ) (k : ℕ) → IsSizedTour xs → k < length xs → get_or xs k 0 ≡ 1 →
    prev_city xs 1 < next_city xs 1 → IsPrintedForm xs (begun_at (length xs - 1 - k) (reverse xs))
IsPrintedForm-back xs k sized lt e less =
    let n : ℕ = length xs in
    let ys : List ℕ = reverse xs in
    let j : ℕ = n - 1 - k in
    let l : length ys ≡ n = length-reverse xs in
    let tour : IsTour (length ys) ys = subst (λ v. IsTour v ys) (sym l) (IsTour-reverse n xs sized.2) in
    let f : get_or ys j 0 ≡ 1 = get_or-reverse xs j 0 (omega arith) ∙ ap (λ v. get_or xs v 0) (omega arith) ∙ e in
    let turned : IsRotation xs (reverse (begun_at j ys)) =
    rw (reverse-reverse xs) at (IsRotation-reverse {xs = ys} {ys = begun_at j ys} (IsRotation-begun_at j ys)) in
    record {
      cycle = inr turned;
      first = begun_first ys j 1 (omega arith) f;
      second = begun_second ys j 1 tour (omega (arith, l, sized.0)) (omega arith) f
          ∙ next_city-reverse n 1 xs sized.2 (omega arith, omega (arith, sized.0)) ∙ omega arith;
    }
