use Rattle.std.proofs.Common.{◌≡◌, ◌+◌, ◌-◌, ◌∙◌, length, take, drop, get_or, ap, subst, arith, List, ℕ, ◌≤◌, sym}
use Rattle.std.proofs.Common.{Vec, Global}
use Rattle.std.specs.Prelude.{map}
use Rattle.std.proofs.lemmas.List.{length-map, take_all, get_or_default}
use Rattle.tk_routes.specs.ImprovedRoutes.{IsTurned, customer_at}
use Rattle.tk_routes.proofs.Improving.ReadOffs.{behind_first, place_inside, IsReadOff-ahead, IsReadOff-back}
use Rattle.tk_routes.proofs.solving.one_route.read_off.Goals as goal
use Rattle.tk_routes.proofs.solving.one_route.read_off.Goals.{then-index, else-index}

pub overflow_sub-place : goal.overflow_sub-place
overflow_sub-place c =
    (place_inside (length c.args.route.now + 1) c.args.cycle.now c.loop-place.place-index c.requires.tour (omega arith)
    c.requires.depot c.loop-place-test.true).0

pub bounds-route-place : goal.bounds-route-place
bounds-route-place c =
    let within = place_inside (length c.args.route.now + 1) c.args.cycle.now c.loop-place.place-index c.requires.tour
    (omega arith) c.requires.depot c.loop-place-test.true in
    omega (arith, within.0, within.1, c.requires.some)

pub returns : goal.returns
returns c =
    let cycle = c.args.cycle.now in
    let places = take (length cycle - 1) (drop 1 cycle) in
    let begins = behind_first cycle (omega (arith, c.requires.tour.0)) c.requires.depot in
    let all : c.loop-place.customers.items ≡ map (customer_at c.args.route.now) places =
    c.loop-place.invariant ∙ ap (map (customer_at c.args.route.now))
    (take_all c.loop-place.place-index places (omega (arith, c.loop-place-test.false))) in
    let xs : List ℕ = c.loop-place.customers.items in
    let size : length xs ≡ length places = ap length all ∙ length-map places (customer_at c.args.route.now) in
    let whole : length cycle ≡ length places + 1 = ap length begins ∙ omega arith in
    let some : 1 ≤ length xs = omega (arith, size, whole, c.requires.tour.0, c.requires.some) in
    let count : c.len.result ≡ length xs = omega (arith, c.len.ensures, c.loop-place.customers.ok) in
    let first : c.index.result.now ≡ get_or xs 0 0 = c.index.ensures
    ∙ get_or_default xs 0 c.index.result.now 0 (omega (arith, some)) in
    let end : c.len.result - 1 ≡ length xs - 1 = omega (arith, count) in
    let last : c.index-2.result.now ≡ get_or xs (length xs - 1) 0 =
    c.index-2.ensures ∙ get_or_default xs (c.len.result - 1) c.index-2.result.now 0 (omega (arith, some, count))
    ∙ ap (λ v. get_or xs v 0) end in
    elim c.if-index.branch [
      | then-index w ↦
          IsReadOff-back c.args.route.now cycle places xs c.if-index.customers.items begins all
          (ap (λ (v : Vec ℕ Global). v.items) w.customers-is ∙ w.reverse.ensures.items) some
          (omega (arith, first, last, w.if-index.true))
      | else-index w ↦
          IsReadOff-ahead c.args.route.now cycle places c.if-index.customers.items begins
          (ap (λ (v : Vec ℕ Global). v.items) w.customers-is ∙ all)
          (subst (λ (v : List ℕ). IsTurned v) (sym (ap (λ (v : Vec ℕ Global). v.items) w.customers-is))
          (omega (arith, first, last, w.if-index.false)))
    ]
