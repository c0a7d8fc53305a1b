use Rattle.std.proofs.Common.{◌≡◌, ◌*◌, ◌∙◌, ap, arith, ℕ}
use Rattle.std.proofs.lemmas.Int.{ints}
use Rattle.tk_distance.specs.Distance.{gap}
use Rattle.tk_distance.proofs.exact.fine.square_between.Goals as goal

square_of-same : (r a g : ℕ) → r ≡ a * a → a ≡ g → r ≡ g * g
square_of-same r a g is same = is ∙ ap (λ x. x * x) same

pub returns-clause-value : goal.returns-clause-value
returns-clause-value c =
    let x : c.squared.result ≡ gap c.args.p.x c.args.q.x * gap c.args.p.x c.args.q.x =
    square_of-same _ _ _ c.squared.ensures.value (omega (arith, ints)) in
    let y : c.squared-2.result ≡ gap c.args.p.y c.args.q.y * gap c.args.p.y c.args.q.y =
    square_of-same _ _ _ c.squared-2.ensures.value (omega (arith, ints)) in
    cc

pub overflow_sub-p : goal.overflow_sub-p
overflow_sub-p c = omega (arith, ints)

pub overflow_sub-q : goal.overflow_sub-q
overflow_sub-q c = omega (arith, ints)

pub squared-requires : goal.squared-requires
squared-requires c = omega (arith, ints)

pub squared-requires-2 : goal.squared-requires-2
squared-requires-2 c = omega (arith, ints)

pub overflow_add-result : goal.overflow_add-result
overflow_add-result c = omega arith

pub returns-clause-bound : goal.returns-clause-bound
returns-clause-bound c = omega arith
