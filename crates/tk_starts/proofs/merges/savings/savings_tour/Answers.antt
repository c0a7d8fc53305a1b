use Rattle.std.proofs.Common.{rules, ◌≡◌, ℕ, List, [], ◌∷◌, ◌++◌, replicate, sym, ap, ◌∙◌, subst}
use Rattle.std.specs.List.{flat_map}
use Rattle.std.proofs.lemmas.List.{take_all}
use Rattle.tk_tour.specs.Tour.{IsTour}
use Rattle.tk_starts.proofs.Merging.Parts.HubApart.{tour_made}
use Rattle.tk_starts.proofs.merges.savings.savings_tour.Goals as goal

pub returns-clause-lists : goal.returns-clause-lists
returns-clause-lists g c =
    let v : c.in_ok-loads.loads.items ≡ replicate c.size.result 0 = search rules in
    let e : c.deref.result.now ≡ replicate (g.M.Metric.size_of c.args.metric.now) 0 = c.deref.ensures.value
    ∙ (v ∙ ap (λ (n : ℕ). replicate n 0) c.size.ensures) in
    tour_made _ _ _ c.deref.result.now _ _ (λ x. x.items) c.deref-list-items.result.now c.in_ok-lists.lists.items
    c.loop-list.list-index e c.deref-list-items.ensures.value c.loop-list-test.false c.in_ok-lists.ensures.lists
    c.loop-list.invariant

pub returns-clause-tour : goal.returns-clause-tour
returns-clause-tour g c =
    let e : c.loop-list.tour.items ≡ 1 ∷ flat_map (λ x. x.items) c.in_ok-lists.lists.items =
    c.loop-list.invariant ∙ ap (λ (x : List ℕ). 1 ∷ x)
    (ap (flat_map (λ x. x.items))
    (take_all c.loop-list.list-index c.deref-list-items.result.now c.loop-list-test.false
    ∙ c.deref-list-items.ensures.value)) in
    subst (λ (x : List ℕ). IsTour (g.M.Metric.size_of c.args.metric.now) x) (sym e) c.in_ok-lists.ensures.once

pub loop-list-init : goal.loop-list-init
loop-list-init g c = c.in_ok-push.ensures.items ∙ ap (λ xs. xs ++ 1 ∷ []) c.new-tour.ensures.items
