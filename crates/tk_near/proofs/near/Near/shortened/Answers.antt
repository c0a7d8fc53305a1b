use Rattle.std.proofs.Common.{◌≡◌, ◌+◌, ◌≤◌, ◌∙◌, ℕ, arith, ap, length, subst, sym, take, ◌++◌}
use Rattle.tk_near.specs.Near.{AreNearest, NearLists, near_of}
use Rattle.tk_near.proofs.ShorterLists.{AreShortened, AreShortened-more, shortened_nearest, shortened_others}
use Rattle.tk_near.proofs.near.Near.shortened.Goals as goal

pub loop-c-preserved : goal.loop-c-preserved
loop-c-preserved c =
    let v : NearLists = c.args.self.now in
    let k : ℕ = c.args.width in
    let room : k ≤ length (near_of v c.loop-c.c) =
    omega (arith, ap length c.of.ensures.value, c.of.ensures.count, c.requires) in
    rw (c.in_ok-extend_from_slice.ensures.items ∙ ap (λ row. c.loop-c.entries.items ++ take k row) c.of.ensures.value)
    (AreShortened-more v k c.loop-c.c c.loop-c.entries.items room c.loop-c.auto.c c.loop-c.invariant)

abbrev view_of : goal.After-loop-c → NearLists
view_of c = record { size = c.self.inside.size; width = c.self.inside.width; entries = c.self.inside.entries.items }

narrow : (c : goal.After-loop-c) → c.args.width ≤ (view_of c).width
narrow c = subst (λ (v : NearLists). c.args.width ≤ v.width) (sym c.self.view_is) c.requires

whole : (c : goal.After-loop-c) → AreShortened (view_of c) c.args.width ((view_of c).size + 1) c.loop-c.entries.items
whole c =
    let end : c.loop-c.c ≡ c.self.inside.size + 1 = omega (arith, c.loop-c.auto.c-end) in
    subst (λ n. AreShortened (view_of c) c.args.width n c.loop-c.entries.items) end
    (subst (λ v. AreShortened v c.args.width c.loop-c.c c.loop-c.entries.items) (sym c.self.view_is) c.loop-c.invariant)

pub invariant_of-result : goal.invariant_of-result
invariant_of-result c =
    shortened_others (view_of c) c.args.width (narrow c) c.loop-c.entries.items (whole c) c.self.invariant

pub returns-clause-nearest : goal.returns-clause-nearest
returns-clause-nearest c dist near =
    shortened_nearest (view_of c) c.args.width (narrow c) c.loop-c.entries.items (whole c) dist
    (subst (AreNearest dist) (sym c.self.view_is) near)
