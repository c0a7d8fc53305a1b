-- Near lists in an array.
use Rattle.std.proofs.Common.{◌≡◌, ℕ, ◌-◌, List, min, sym, ap, ◌∙◌, subst}
use Rattle.tk_near.specs.Near.{AreNearest, NearLists}
use Rattle.tk_for_c.specs.Arrays.{AreNearIn}

-- near lists of this size and width, given by their entries
pub near_same : (distance : ℕ → ℕ → ℕ) (n k : ℕ) (v : NearLists) (out : List ℕ) → v.size ≡ n → v.width ≡ min k (n - 1) →
    out ≡ v.entries → AreNearest distance v → AreNearIn n distance k out
near_same distance n k v out size width entries near =
    let same : v ≡ record { size = n; width = min k (n - 1); entries = out } =
    ap (λ (s : ℕ). record { size = s; width = v.width; entries = v.entries }) size
    ∙ ap (λ (w : ℕ). record { size = n; width = w; entries = v.entries }) width
    ∙ ap (λ (l : List ℕ). record { size = n; width = min k (n - 1); entries = l }) (sym entries) in
    subst (AreNearest distance) same near
