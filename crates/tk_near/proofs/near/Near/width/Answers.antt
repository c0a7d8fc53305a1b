use Rattle.std.proofs.Common.{ap}
use Rattle.tk_near.specs.Near.{NearLists}
use Rattle.tk_near.proofs.near.Near.width.Goals as goal

pub returns-clause-value : goal.returns-clause-value
returns-clause-value c = ap (λ (v : NearLists). v.width) c.self.view_is

pub returns-clause-limit : goal.returns-clause-limit
returns-clause-limit c = c.self.invariant.narrow
