use Rattle.std.proofs.Common.{◌*◌, ◌∙◌, ap, length}
use Rattle.tk_near.specs.Near.{NearLists}
use Rattle.tk_near.proofs.near.Near.entries.Goals as goal

pub returns-clause-value : goal.returns-clause-value
returns-clause-value c = c.deref.ensures.value ∙ ap (λ (v : NearLists). v.entries) c.self.view_is

pub returns-clause-count : goal.returns-clause-count
returns-clause-count c =
    ap length c.deref.ensures.value ∙ c.self.invariant.count
    ∙ ap (λ (v : NearLists). v.size * v.width) c.self.view_is
