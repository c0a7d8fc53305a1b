-- A ring by the demands of its customers, and a capacity.
use Rattle.std.specs.Prelude.{◌≡◌, ℕ, ◌-◌, ◌≤◌, Bool, true, ◌↔◌, nat_lt, List, length, reverse, slice_index_or}
use Rattle.std.specs.Prelude.{if◌then◌else◌}
use Rattle.std.proofs.Common.{arith, sym, ◌∙◌}
use Rattle.tk_distance.specs.Holding.{IsDistinct}
use Rattle.tk_tour.specs.Tour.{next_city, prev_city}
use Rattle.tk_descent.specs.Offers.{Makes}
use Rattle.tk_descent.specs.declared.offer.Offer.{Offer}
use Rattle.tk_descent.proofs.MovesOnTours.Cities.{made_cities}
use Rattle.tk_rings.specs.After.{after}
use Rattle.tk_rings.specs.AfterLaws.{after_is}
use Rattle.tk_rings.specs.Rings.{fits, stretch_of}
use Rattle.tk_rings.specs.StretchLaws.{fits-cycle}
use Rattle.tk_rings.specs.declared.stretch.Stretch.{Stretch}

-- the customers are 1, 2, .. with these demands, and each other city is a copy of the depot
abbrev pub demand_in : List ℕ → ℕ → ℕ
demand_in demands c = slice_index_or demands (c - 1) 0

abbrev pub is_copy : List ℕ → ℕ → Bool
is_copy demands c = nat_lt (length demands) c

abbrev pub loads_of : ℕ → List ℕ → List ℕ → Stretch
loads_of q demands cities = stretch_of q (demand_in demands) (is_copy demands) cities

-- a ring of at least three elements, each of whose paths without a copy has at most the capacity
abbrev pub IsFitting : ℕ → List ℕ → List ℕ → Type 0
IsFitting q demands ring = (3 ≤ length ring) × (fits q (demand_in demands) (is_copy demands) ring ≡ true)

-- the ring after the move of an offer fits
abbrev pub is_allowed : ℕ → List ℕ → List ℕ → Offer → Bool
is_allowed q demands ring o = fits q (demand_in demands) (is_copy demands) (after ring o)

-- the ring as it is seen forward or backward
abbrev pub way : Bool → List ℕ → List ℕ
way forward ring = if forward then ring else reverse ring

abbrev pub step_on : Bool → List ℕ → ℕ → ℕ
step_on forward ring c = if forward then next_city ring c else prev_city ring c

pub is_exact : (q : ℕ) (demands : List ℕ) (o : Offer) (C D : List ℕ) → IsDistinct C → IsFitting q demands C →
    Makes 3 o C D → (is_allowed q demands C o ≡ true) ↔ IsFitting q demands D
is_exact q demands o C D dis fit made =
    let same = fits-cycle q (demand_in demands) (is_copy demands) D (after C o) (after_is C D dis fit.0 o made) in
    let size = (made_cities 3 o C D made).0 in
    (λ e. (omega (arith, fit.0, size), sym same ∙ e), λ e. same ∙ e.1)
