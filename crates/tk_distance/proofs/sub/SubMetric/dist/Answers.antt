use Rattle.std.proofs.Common.{arith, rules, w64, SFits, ◌-◌, ◌∙◌}
use Rattle.std.proofs.lemmas.Int.{to_z-of_z}
use Rattle.tk_distance.proofs.sub.SubMetric.dist.Goals as goal

pub dist-requires-clause-a : goal.dist-requires-clause-a
dist-requires-clause-a g c = c.args.self.now.known (c.args.a - 1) 0 (omega (arith, c.requires.a))

pub dist-requires-clause-b : goal.dist-requires-clause-b
dist-requires-clause-b g c = c.args.self.now.known (c.args.b - 1) 0 (omega (arith, c.requires.b))

pub returns : goal.returns
returns g c =
    let fits : SFits w64 c.dist.result = search rules in
    to_z-of_z w64 c.dist.result fits ∙ c.dist.ensures
