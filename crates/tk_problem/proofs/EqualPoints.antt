-- Lists whose points are all equal.
use Rattle.std.proofs.Common.{◌≡◌, ℕ, zero, suc, map, replicate, refl, ap, ◌∷◌}

pub map-replicate : {A B : Type 0} (f : A → B) (n : ℕ) (x : A) → map f (replicate n x) ≡ replicate n (f x)
map-replicate f zero x = refl
map-replicate f (suc n) x = ap (λ xs. f x ∷ xs) (map-replicate f n x)
