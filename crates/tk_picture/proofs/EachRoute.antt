-- What is put for each route, in the order of the routes, whose numbers are counted.
use Rattle.std.proofs.Common.{◌≡◌, ℕ, ◌+◌, ◌<◌, List, [], ◌∷◌, Vec, Global, length, take, get_or, sym, subst, arith}
use Rattle.std.specs.Prelude.{map, flat_map}
use Rattle.std.specs.List.{concat}
use Rattle.tk_writers.specs.Pens.{Puts}
use Rattle.tk_writers.specs.declared.output.pen.Pen.{Pen}
use Rattle.tk_writers.specs.declared.output.sink.Sink.{Ghosts}
use Rattle.tk_writers.proofs.Pieces.Putting.{Puts-then}
use Rattle.tk_routes.specs.RouteVerdicts.{AreServedOnce}
use Rattle.tk_routes.proofs.RouteSteps.{route_served}
use Rattle.tk_picture.specs.Drawings.{each_filled}
use Rattle.tk_picture.proofs.RoutePaths.{filled_more}

-- the first n routes are put, and counted
pub record ArePut {W X : Type 0} (sink : Ghosts W) (p q : Pen W) (f : ℕ → List ℕ → X) (put : X → List ℕ)
    (routes : List (Vec ℕ Global)) (n number : ℕ) : Type 0 where
  pub count : number ≡ n
  pub text : Puts sink p q (flat_map put (each_filled f 1 (map (λ r. r.items) (take n routes))))

-- and one route more
pub put_one_more : {W X : Type 0} {sink : Ghosts W} {p q r : Pen W} {f : ℕ → List ℕ → X} {put : X → List ℕ}
    {routes : List (Vec ℕ Global)} {n number : ℕ} {item : Vec ℕ Global} {route : List ℕ}
    → n < length routes → item ≡ get_or routes n item → route ≡ item.items → ArePut sink p q f put routes n number
    → Puts sink q r (flat_map put (each_filled f (number + 1) (route ∷ [])))
    → ArePut sink p r f put routes (n + 1) (number + 1)
put_one_more {W} {X} {sink} {p} {q} {r} {f} {put} {routes} {n} {number} {item} {route} within is same before here =
    let next : number + 1 ≡ n + 1 = omega (arith, before.count) in
    record {
      count = next;
      text = subst (Puts _ _ _)
          (sym (filled_more f put (λ r. r.items) routes n (number + 1) item route within is same next))
          (Puts-then before.text here);
    }

-- the customers of one route, where each is served once
pub served_at : {m : ℕ} {item : Vec ℕ Global} {route : List ℕ} (routes : List (Vec ℕ Global)) (n : ℕ)
    → n < length routes → item ≡ get_or routes n item → route ≡ item.items
    → AreServedOnce m (concat (map (λ r. r.items) routes)) → AreServedOnce m route
served_at {m} {item} {route} routes n within is same once =
    route_served (λ r. r.items) m routes n item route within is same once
