use Rattle.std.proofs.Common.{◌≡◌, ◌<◌, ℕ, List, [], Vec, Global, length, get_or, set, sym, ap, ◌∙◌, arith}
use Rattle.std.specs.Prelude.{map}
use Rattle.std.specs.Vec.{with_items}
use Rattle.std.proofs.lemmas.List.{get_or-map, map-set, length-map, with_items_is}
use Rattle.tk_routes.specs.Instance.{customer_of}
use Rattle.tk_routes.proofs.CutLists.{mapped_on}
use Rattle.tk_routes.proofs.solving.merging.number_all.Goals as goal

pub loop-list-preserved : goal.loop-list-preserved
loop-list-preserved c =
    let n = c.loop-list in
    let items = λ (r : Vec ℕ Global). r.items in
    let v = get_or n.lists n.list-index c.list-item.result in
    let new = c.number_customers.new.nodes in
    let within : n.list-index < length n.lists = omega arith in
    let inside : n.list-index < length (map items c.args.lists.now) =
    omega (arith, length-map c.args.lists.now items) in
    let size : length new ≡ v.len = c.number_customers.auto.nodes ∙ c.deref_mut.ensures.len in
    let mapped : new ≡ map (customer_of c.args.depot) (get_or (map items n.lists) n.list-index []) =
    c.number_customers.ensures ∙ ap (map (customer_of c.args.depot)) (c.deref_mut.ensures.value
    ∙ sym (get_or-map items n.lists n.list-index c.list-item.result [] within)) in
    map-set items n.lists n.list-index (with_items v new)
    ∙ ap (λ (u : List ℕ). set (map items n.lists) n.list-index u) (with_items_is v new size)
    ∙ mapped_on (map (customer_of c.args.depot)) (map items n.lists) (map items c.args.lists.now) n.list-index new []
    inside n.invariant mapped
