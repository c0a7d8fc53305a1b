use Rattle.std.proofs.Common.{◌<◌, drop, length, sym, ap, ◌∙◌, arith, subst}
use Rattle.tk_problem.proofs.WeightLines.{places_last, places_more}
use Rattle.tk_problem.proofs.weight_order.WeightCursor.advance.Goals as goal

pub returns-then-self : goal.returns-then-self
returns-then-self c =
    let s = c.self.inside in
    let more = subst (λ ps. 0 < length ps) (sym c.self.view_is) c.requires in
    c.self-then-self.view_is
    ∙ c.from_line.ensures
    ∙ places_last s.format s.n s.line s.item s.end c.if-self.true c.self.invariant.3 more
    ∙ ap (drop 1) c.self.view_is

pub returns-else-self : goal.returns-else-self
returns-else-self c =
    let s = c.self.inside in
    ap (drop 1) (sym (places_more s.format s.n s.line s.item s.end (omega (arith, c.if-self.false))) ∙ c.self.view_is)
