-- The loads of paths of a ring.
--     HasLoads q demands ring walk s      the path of a walk has these loads
--     WasClosed q s a r      the ring of three stretches fits
use Rattle.std.specs.Prelude.{◌≡◌, ℕ, Bool, true, List, ◌++◌, ◌⊎◌}
use Rattle.tk_tour.specs.Tour.{IsPath, IsRotation}
use Rattle.tk_rings.specs.Capacities.{loads_of, way}
use Rattle.tk_rings.specs.Rings.{is_closed, join, turned}
use Rattle.tk_rings.specs.declared.stretch.Stretch.{Stretch}
use Rattle.tk_rings.specs.declared.walk.Walk.{Walk}

-- a path of the ring, walked in a direction, has these loads
pub record HasLoads (q : ℕ) (demands ring : List ℕ) (walk : Walk) (s : Stretch) : Type 0 where
  pub path : List ℕ
  pub rest : List ℕ
  pub on : IsRotation (way walk.forward ring) (path ++ rest)
  pub ends : IsPath walk.from path walk.to
  pub loads : s ≡ loads_of q demands path

-- each path of the ring from one element to another, in this direction, has these loads
abbrev pub AreLoadsOf : ℕ → List ℕ → List ℕ → ℕ → ℕ → Bool → Stretch → Type 0
AreLoadsOf q demands ring from to forward s =
    (path rest : List ℕ) → IsRotation (way forward ring) (path ++ rest) → IsPath from path to →
    s ≡ loads_of q demands path

-- the ring of a segment, or of the segment turned round, and two stretches fits
abbrev pub WasClosed : ℕ → Stretch → Stretch → Stretch → Type 0
WasClosed q s a r =
    (is_closed q (join q (join q s a) r) ≡ true) ⊎ (is_closed q (join q (join q (turned s) a) r) ≡ true)
