use Rattle.std.proofs.Common.{eqb, ◌||◌, ◌∙◌, ap, sym, get_or}
use Rattle.tk_starts.proofs.Merging.Pairs.PairsFound.{holds-next}
use Rattle.tk_starts.proofs.merges.pairs.is_near.Goals as goal

pub loop-city-preserved : goal.loop-city-preserved
loop-city-preserved c =
    ap (λ v. v || eqb (get_or c.of-city-items.result.now c.loop-city.city-index 0) c.args.d) c.loop-city.invariant
    ∙ sym (holds-next c.of-city-items.result.now c.loop-city.city-index c.args.d c.loop-city-test.true)
