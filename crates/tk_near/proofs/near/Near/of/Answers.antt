use Rattle.std.proofs.Common.{◌≡◌, ◌+◌, ◌-◌, ◌*◌, ◌∙◌, ap, arith, drop, subst, sym, take}
use Rattle.std.specs.Prelude.{All}
use Rattle.tk_near.specs.Near.{HasOthers, IsOther, NearLists, near_of}
use Rattle.tk_near.proofs.near.Near.of.Goals as goal

pub returns-clause-value : goal.returns-clause-value
returns-clause-value c =
    let w = c.self.inside.width in
    let from = (c.args.c - 1) * w in
    let count : from + w - from ≡ w = omega arith in
    ap (λ n. take n (drop from c.deref.result.now)) count
    ∙ ap (λ entries. take w (drop from entries)) c.deref.ensures.value
    ∙ ap (λ (v : NearLists). near_of v c.args.c) c.self.view_is

pub returns-clause-others : goal.returns-clause-others
returns-clause-others c =
    let has : HasOthers c.args.self.now = subst HasOthers c.self.view_is c.self.invariant in
    subst (All (IsOther c.args.self.now.size c.args.c)) (sym (returns-clause-value c)) (has.each c.args.c c.requires)
