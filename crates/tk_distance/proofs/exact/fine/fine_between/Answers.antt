use Rattle.std.proofs.lemmas.Grind.{common_steps}
use Rattle.std.proofs.Common.{rules, arith}
use Rattle.tk_distance.specs.Laws.Planes.{IsDistanceOf-limit}
use Rattle.tk_distance.proofs.exact.fine.fine_between.Goals as goal

pub returns-clause-limit : goal.returns-clause-limit
returns-clause-limit c = IsDistanceOf-limit c.args.kind c.args.p c.args.q _ c.requires.p_near c.requires.q_near
    (search rules)

pub returns-in-Euc2d-clause-distance : goal.returns-in-Euc2d-clause-distance
returns-in-Euc2d-clause-distance c = grind (arith, common_steps)

pub returns-in-Euc2d-clause-limit : goal.returns-in-Euc2d-clause-limit
returns-in-Euc2d-clause-limit c = IsDistanceOf-limit c.args.kind c.args.p c.args.q _ c.requires.p_near c.requires.q_near
    (returns-in-Euc2d-clause-distance c)
