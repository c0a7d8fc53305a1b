use Rattle.std.proofs.Common.{rules, ◌≡◌, List, Bool, false, [], replicate, sym, ◌∙◌, subst}
use Rattle.tk_routes.specs.Serving.{AreServed}
use Rattle.tk_routes.proofs.ServedCustomers.{AreServed-none}
use Rattle.tk_routes.proofs.checking.check.check_routes.Goals as goal

pub serve_all-requires : goal.serve_all-requires
serve_all-requires c =
    let fresh : c.in_ok-served.served.items ≡ replicate c.customers.result false = search rules in
    subst (λ (v : List Bool). AreServed v []) (sym (c.deref_mut.ensures.value ∙ fresh))
    (AreServed-none c.customers.result)
