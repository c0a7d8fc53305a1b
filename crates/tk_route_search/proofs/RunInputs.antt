-- The input of the search of each run.
use Rattle.std.proofs.Common.{◌≡◌, ℕ, List, length, refl, arith, ap, ◌∙◌}
use Rattle.tk_distance.specs.declared.metric.Metric.{Ghosts}
use Rattle.tk_near.specs.Near.{NearLists}
use Rattle.tk_rings.specs.RingRoutes.{demands_of, ring_distance}
use Rattle.tk_ring_search.specs.Given.{Given, given_of}
use Rattle.tk_ring_search.specs.declared.trials.terms.RingTerms.{RingTerms}
use Rattle.tk_route_search.specs.Tasks.{RouteTask, AreCandidates, IsInput, IsRing, copies_in, given_for}

-- it is that of the task
pub given_is : {M : Type 0} (m : Ghosts M) (terms : RingTerms M) (task : RouteTask) (copies : ℕ) (near : NearLists) →
    m.distance terms.metric.now ≡ ring_distance task.instance copies → terms.near.now ≡ near →
    terms.vehicles.capacity ≡ task.instance.capacity → terms.vehicles.demands.now ≡ demands_of task.instance →
    terms.or_segment ≡ task.or_segment → terms.sweep ≡ task.sweep → terms.trials ≡ task.trials →
    given_of m terms ≡ given_for task copies near
given_is m terms task copies near distance lists capacity demands segment sweep trials =
    let begun : Given = given_of m terms in
    let one : Given = record begun { distance = ring_distance task.instance copies } in
    let two : Given = record one { near = near } in
    let three : Given = record two { capacity = task.instance.capacity } in
    let four : Given = record three { demands = demands_of task.instance } in
    let five : Given = record four { or_segment = task.or_segment } in
    let six : Given = record five { sweep = task.sweep } in
    ap (λ v. record begun { distance = v }) distance
    ∙ ap (λ (v : NearLists). record one { near = v }) lists
    ∙ ap (λ v. record two { capacity = v }) capacity
    ∙ ap (λ v. record three { demands = v }) demands
    ∙ ap (λ v. record four { or_segment = v }) segment
    ∙ ap (λ v. record five { sweep = v }) sweep
    ∙ ap (λ v. record six { trials = v }) trials

-- it is one from the ring
pub input_is : (task : RouteTask) (ring : List ℕ) (near : NearLists) → IsRing task.instance (length ring) ring →
    AreCandidates task (copies_in task.instance ring) near →
    IsInput task ring (given_for task (copies_in task.instance ring) near)
input_is task ring near stands are = record {
  stands = stands;
  lists = are.size ∙ omega (arith, stands.copies);
  capacity = refl;
  demands = refl;
  or_segment = refl;
  sweep = refl;
  trials = refl;
}
