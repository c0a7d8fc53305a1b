-- Routes of which none is empty.
use Rattle.std.proofs.Common.{◌≡◌, ℕ, ◌≤◌, List, [], ◌∷◌, length, cond, refl, ap, arith}
use Rattle.tk_routes.specs.RouteVerdicts.{filled_of}
use Rattle.tk_rings.proofs.RingPaths.{by_copy}

fewer_filled : (routes : List (List ℕ)) → length (filled_of routes) ≤ length routes
fewer_filled [] = omega arith
fewer_filled (r ∷ rs) =
    by_copy (λ t. length (cond t (r ∷ filled_of rs) (filled_of rs)) ≤ length (r ∷ rs)) 0 (length r)
    (λ lt. omega (arith, fewer_filled rs)) (λ le. omega (arith, fewer_filled rs))

-- if as many have a customer as there are, they are all
pub filled_all : (routes : List (List ℕ)) → length (filled_of routes) ≡ length routes → filled_of routes ≡ routes
filled_all [] e = refl
filled_all (r ∷ rs) e =
    by_copy (λ t. length (cond t (r ∷ filled_of rs) (filled_of rs)) ≡ length (r ∷ rs) →
    cond t (r ∷ filled_of rs) (filled_of rs) ≡ r ∷ rs) 0 (length r)
    (λ lt h. ap (λ v. r ∷ v) (filled_all rs (omega (arith, h))))
    (λ le h. absurd (omega (arith, h, fewer_filled rs))) e
