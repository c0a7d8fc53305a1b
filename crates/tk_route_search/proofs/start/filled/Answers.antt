use Rattle.std.proofs.Common.{◌≡◌, ℕ, ◌+◌, true, false, List, [], ◌∷◌, ◌++◌, Vec, Global, length, take}
use Rattle.std.proofs.Common.{nat_lt, sym, ap, ◌∙◌, arith}
use Rattle.std.specs.Prelude.{if◌then◌else◌}
use Rattle.std.proofs.lemmas.List.{map-append, map-id, append-nil}
use Rattle.std.proofs.lemmas.List.Elements.{filter-append}
use Rattle.std.proofs.lemmas.Slice.Zip.{AllZip-map}
use Rattle.tk_lists.specs.Solution.{lists_of}
use Rattle.tk_routes.specs.RouteVerdicts.{filled_of}
use Rattle.tk_routes.proofs.CutLists.{map-take_more}
use Rattle.tk_route_search.proofs.start.filled.Goals.{then-not-is_empty+in_ok-clone+in_ok-push, else-not-is_empty}
use Rattle.tk_route_search.proofs.start.filled.Goals as goal

-- one more route, which is empty or not
filled_more : (before : List (List ℕ)) (route : List ℕ) →
    filled_of (before ++ route ∷ []) ≡ filled_of before ++ (if nat_lt 0 (length route) then route ∷ [] else [])
filled_more before route = filter-append (λ (r : List ℕ). nat_lt 0 (length r)) before (route ∷ [])

pub loop-route-preserved : goal.loop-route-preserved
loop-route-preserved c =
    let items : Vec ℕ Global → List ℕ = λ r. r.items in
    let k = c.loop-route.route-index in
    let route : List ℕ = c.route-item.result.items in
    let more : lists_of (take (k + 1) c.args.routes.now) ≡ lists_of (take k c.args.routes.now) ++ route ∷ [] =
    map-take_more items c.args.routes.now k c.route-item.result c.loop-route-test.true c.route-item.is in
    let all : filled_of (lists_of (take (k + 1) c.args.routes.now))
    ≡ filled_of (lists_of (take k c.args.routes.now)) ++ (if nat_lt 0 (length route) then route ∷ [] else []) =
    ap filled_of more ∙ filled_more (lists_of (take k c.args.routes.now)) route in
    elim c.if-not-is_empty.branch [
      | then-not-is_empty+in_ok-clone+in_ok-push w ↦
          let copy : w.in_ok-clone.field-0.items ≡ route =
          AllZip-map (λ v. v) route w.in_ok-clone.field-0.items w.in_ok-clone.ensures.cases.0 ∙ map-id route in
          let some : nat_lt 0 (length route) ≡ true =
          grind (arith, c.is_empty.ensures, w.if-not-is_empty.true, c.route-item.result.ok.0) in
          ap (λ v. lists_of v.items) w.copies-is ∙ ap lists_of w.in_ok-push.ensures.items
          ∙ map-append items c.loop-route.copies.items (w.in_ok-clone.field-0 ∷ [])
          ∙ ap (λ v. v ++ w.in_ok-clone.field-0.items ∷ []) c.loop-route.invariant
          ∙ ap (λ v. filled_of (lists_of (take k c.args.routes.now)) ++ v ∷ []) copy
          ∙ sym (all ∙ ap (λ b. filled_of (lists_of (take k c.args.routes.now)) ++ (if b then route ∷ [] else [])) some)
      | else-not-is_empty w ↦
          let none : nat_lt 0 (length route) ≡ false =
          grind (arith, c.is_empty.ensures, w.if-not-is_empty.false, c.route-item.result.ok.0) in
          ap (λ v. lists_of v.items) w.copies-is ∙ c.loop-route.invariant
          ∙ sym (all
          ∙ ap (λ b. filled_of (lists_of (take k c.args.routes.now)) ++ (if b then route ∷ [] else [])) none
          ∙ append-nil (filled_of (lists_of (take k c.args.routes.now))))
    ]
