-- The first of the cheapest savings routes, when one more comes.
use Rattle.std.proofs.Common.{◌<◌, ◌≤◌, List, [], ◌∷◌, ◌++◌, refl, sym, ap, ◌∙◌, subst, arith, append_assoc}
use Rattle.std.specs.List.{All}
use Rattle.std.proofs.lemmas.List.Elements.{All-append, All-cons, All-nil}
use Rattle.tk_routes.specs.Instance.{Instance}
use Rattle.tk_routes.specs.Routes.{routes_cost}
use Rattle.tk_route_search.specs.Ladder.{IsFirstCheapest, Savings}

-- they are the only ones
pub cheapest_of_one : (i : Instance) (s : Savings) → IsFirstCheapest i (s ∷ []) s
cheapest_of_one i s = record { before = []; behind = []; stands = refl; dearer = All-nil _; least = All-nil _ }

-- they are cheaper
pub cheapest_replaced : (i : Instance) (tried : List Savings) (old new : Savings) → IsFirstCheapest i tried old →
    routes_cost i new.routes < routes_cost i old.routes → IsFirstCheapest i (tried ++ new ∷ []) new
cheapest_replaced i tried old new f less =
    let Dearer : Savings → Type 0 = λ other. routes_cost i new.routes < routes_cost i other.routes in
    let front : All Dearer f.before = λ k d lt. omega (arith, less, f.dearer k d lt) in
    let back : All Dearer f.behind = λ k d lt. omega (arith, less, f.least k d lt) in
    let all : All Dearer (f.before ++ old ∷ f.behind) =
    All-append Dearer f.before (old ∷ f.behind) front (All-cons Dearer old f.behind less back) in
    record {
      before = tried;
      behind = [];
      stands = refl;
      dearer = subst (All Dearer) (sym f.stands) all;
      least = All-nil _;
    }

-- they are not
pub cheapest_kept : (i : Instance) (tried : List Savings) (old new : Savings) → IsFirstCheapest i tried old →
    routes_cost i old.routes ≤ routes_cost i new.routes → IsFirstCheapest i (tried ++ new ∷ []) old
cheapest_kept i tried old new f le =
    let Least : Savings → Type 0 = λ other. routes_cost i old.routes ≤ routes_cost i other.routes in
    record {
      before = f.before;
      behind = f.behind ++ new ∷ [];
      stands = ap (λ v. v ++ new ∷ []) f.stands ∙ append_assoc f.before (old ∷ f.behind) (new ∷ []);
      dearer = f.dearer;
      least = All-append Least f.behind (new ∷ []) f.least (All-cons Least new [] le (All-nil _));
    }
