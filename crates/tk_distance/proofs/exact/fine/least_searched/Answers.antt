use Rattle.std.proofs.Common.{◌≡◌, ℕ, ◌+◌, ◌*◌, ◌<◌, ◌≤◌, arith, subst, sym}
use Rattle.std.proofs.lemmas.Nat.{mul-le}
use Rattle.tk_distance.proofs.ExactRoots.RootLemmas.{from_not_lt}
use Rattle.std.proofs.lemmas.Grind.{div_ceil_times}
use Rattle.std.specs.Int.{div_ceil}
use Rattle.tk_problem.specs.Places.{scale}
use Rattle.tk_distance.proofs.ExactRoots.Covering.{least_from_root, root_up_small}
use Rattle.tk_distance.proofs.exact.fine.least_searched.Goals as goal

quotient_small : (square parts q : ℕ) → 1 ≤ parts → q ≡ div_ceil square parts →
    square ≤ 8000000000000000000000000000000000000 → q ≤ 8000000000000000000000000000000000000
quotient_small square parts q one is small =
    let a = div_ceil_times square parts (omega arith) in
    let top : q * parts < square + parts = subst (λ (x : ℕ). x * parts < square + parts) (sym is) a.1 in
    from_not_lt 8000000000000000000000000000000000000 q (λ lt.
    let more = mul-le 8000000000000000000000000000000000001 parts q parts lt (omega arith) in omega (arith, more, top))

pub overflow_cast-result : goal.overflow_cast-result
overflow_cast-result c =
    let b = div_ceil_times c.root_up-root.result scale (omega arith) in
    let q = quotient_small c.args.square c.args.parts c.div_ceil.result c.requires.some c.div_ceil.ensures
    (omega (arith, c.requires.near)) in
    let r = root_up_small c.div_ceil.result c.root_up-root.result q c.root_up-root.ensures in
    omega (arith, b, r, c.div_ceil-2.ensures)

pub returns : goal.returns
returns c =
    let a = div_ceil_times c.args.square c.args.parts (omega (arith, c.requires.some)) in
    let b = div_ceil_times c.root_up-root.result scale (omega arith) in
    least_from_root c.args.parts c.args.square c.div_ceil.result c.root_up-root.result c.div_ceil-2.result
    (subst (λ (q : ℕ). c.args.square ≤ q * c.args.parts) (sym c.div_ceil.ensures) a.0)
    (subst (λ (q : ℕ). q * c.args.parts < c.args.square + c.args.parts) (sym c.div_ceil.ensures) a.1)
    c.root_up-root.ensures
    (subst (λ (d : ℕ). c.root_up-root.result ≤ d * scale) (sym c.div_ceil-2.ensures) b.0)
    (subst (λ (d : ℕ). d * scale < c.root_up-root.result + scale) (sym c.div_ceil-2.ensures) b.1)
