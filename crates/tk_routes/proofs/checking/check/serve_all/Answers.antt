use Rattle.std.proofs.Common.{take, drop, ◌+◌}
use Rattle.std.specs.Prelude.{map}
use Rattle.tk_routes.proofs.CutLists.{length-before}
use Rattle.tk_routes.proofs.FirstFaults.{fault_in, served_route}
use Rattle.tk_routes.proofs.checking.check.serve_all.Goals as goal

pub returns-in-Some : goal.returns-in-Some
returns-in-Some c =
    let n = c.loop-k in
    let routes = c.args.routes.now in
    fault_in (λ r. r.items) routes n.k c.index-routes-k.result c.deref.result.now c.loop-k-test.true c.index-routes-k.is
    c.deref.ensures.value _ _ c.in-Some.fault n.auto.served
    (c.in-Some.ensures (map (λ r. r.items) (take n.k routes)) (map (λ r. r.items) (drop (n.k + 1) routes))
    (length-before (λ r. r.items) routes n.k c.loop-k-test.true) n.invariant)

pub loop-k-preserved : goal.loop-k-preserved
loop-k-preserved c =
    let n = c.loop-k in
    let routes = c.args.routes.now in
    served_route (λ r. r.items) routes n.k c.index-routes-k.result c.deref.result.now c.loop-k-test.true
    c.index-routes-k.is c.deref.ensures.value _
    (c.in_default.ensures (map (λ r. r.items) (take n.k routes)) (map (λ r. r.items) (drop (n.k + 1) routes))
    (length-before (λ r. r.items) routes n.k c.loop-k-test.true) n.invariant)
