-- Rings of customers and copies of the depot. A ring fits if each path on it without a copy has at most the capacity.
--     stretch_of q load is_depot cities      a list of cities, by its loads
--     fits q load is_depot ring      whether a ring fits
use Rattle.std.specs.Prelude.{ℕ, ◌+◌, ◌^◌, ◌<◌, Bool, true, false, ◌&&◌, nat_le, List, [], ◌∷◌, if◌then◌else◌}
use Rattle.tk_rings.specs.declared.stretch.Stretch.{Stretch}

-- a stretch without a copy, of this load
abbrev pub whole : ℕ → Stretch
whole load = record { parted = false; head = load; tail = load; fits = true }

-- a copy of the depot
abbrev pub copy : Stretch
copy = record { parted = true; head = 0; tail = 0; fits = true }

-- two stretches, the one after the other
abbrev pub join : ℕ → Stretch → Stretch → Stretch
join q a b =
    if a.parted
    then (if b.parted
    then record { parted = true; head = a.head; tail = b.tail; fits = a.fits && nat_le (a.tail + b.head) q && b.fits }
    else record { parted = true; head = a.head; tail = a.tail + b.head; fits = a.fits })
    else (if b.parted
    then record { parted = true; head = a.head + b.head; tail = b.tail; fits = b.fits }
    else whole (a.head + b.head))

-- the stretch the other way round
abbrev pub turned : Stretch → Stretch
turned s = record { parted = s.parted; head = s.tail; tail = s.head; fits = s.fits }

-- whether it fits as a ring
abbrev pub is_closed : ℕ → Stretch → Bool
is_closed q s = if s.parted then s.fits && nat_le (s.tail + s.head) q else nat_le s.head q

-- a list of cities
abbrev pub stretch_of : ℕ → (ℕ → ℕ) → (ℕ → Bool) → List ℕ → Stretch
stretch_of q load is_depot [] = whole 0
stretch_of q load is_depot (c ∷ cs) =
    join q (if is_depot c then copy else whole (load c)) (stretch_of q load is_depot cs)

-- whether a ring fits
abbrev pub fits : ℕ → (ℕ → ℕ) → (ℕ → Bool) → List ℕ → Bool
fits q load is_depot ring = is_closed q (stretch_of q load is_depot ring)

-- loads that can be added in 64 bits
abbrev pub IsLight : Stretch → Type 0
IsLight s = (s.head < 2 ^ 62) × (s.tail < 2 ^ 62)
