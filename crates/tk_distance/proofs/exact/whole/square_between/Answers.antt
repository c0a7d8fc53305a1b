use Rattle.std.proofs.Common.{ℕ, ◌≡◌, arith}
use Rattle.std.proofs.lemmas.Int.{ints}
use Rattle.tk_distance.specs.Distance.{square_sum, gap}
use Rattle.tk_distance.proofs.exact.whole.square_between.Goals as goal

squares-same : (s a b x y : ℕ) → s ≡ square_sum a b → a ≡ x → b ≡ y → s ≡ square_sum x y
squares-same s a b x y is first second = cc

pub returns-clause-value : goal.returns-clause-value
returns-clause-value c =
    squares-same _ _ _ (gap c.args.p.x c.args.q.x) (gap c.args.p.y c.args.q.y) c.square_of.ensures.value
    (omega (arith, ints, c.apart.ensures.value)) (omega (arith, ints, c.apart-2.ensures.value))
