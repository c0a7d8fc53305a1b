use Rattle.std.proofs.Common.{◌≡◌, ℕ, suc, ◌<◌, false, List, Some, arith, ◌∙◌, sym, subst}
use Rattle.std.proofs.lemmas.Result.{err_from_is_err_and}
use Rattle.tk_problem_text.specs.Reader.Nodes.{Named, HasNamed}
use Rattle.tk_lines.specs.Reader.Handlers.{whole}
use Rattle.tk_lines.specs.Pieces.{Fault, first_at}
use Rattle.tk_problem_text.specs.Sections.Rows.{node_tests, is_among}
use Rattle.tk_problem_text.proofs.SectionTokens.Rows.{flag_at, length-flags, named_more, number_in-node, node_tests-new}
use Rattle.tk_problem_text.proofs.SectionTokens.Rows.{node_tests-again}
use Rattle.tk_problem_text.proofs.sections.nodes.Nodes.name.Goals as goal
use Rattle.tk_problem_text.proofs.sections.nodes.Nodes.name.Goals.{After-index}

pub returns-in_err-index-clause-err : goal.returns-in_err-index-clause-err
returns-in_err-index-clause-err c = λ n nodes line has.
    let inside = c.self.inside in
    let v : Named = record { flags = inside.named.items; left = inside.left } in
    let has_inside : HasNamed n v nodes = subst (λ s. HasNamed n s nodes) (sym c.self.view_is) has in
    let size : c.len.result ≡ n = omega (arith, length-flags n v nodes has_inside, inside.named.ok.0, c.len.ensures) in
    let p = err_from_is_err_and c.from_residual.result c.from_residual.ensures.1 in
    rw (p.1, p.2)
    (subst (λ m. first_at line (node_tests m nodes (whole c.args.token.now line)) ≡ Some
    (Fault line c.in_err-index.field-0.0)) size (c.in_err-index.ensures.err nodes line))

-- the node is one of n, and its flag says whether it was named
flagged : (c : After-index) (n : ℕ) (nodes : List ℕ) → HasNamed n c.args.self.now nodes →
    (c.in_ok-index.index < n) × (is_among (suc c.in_ok-index.index) nodes ≡ c.index.result.now)
flagged c n nodes has =
    let inside = c.self.inside in
    let v : Named = record { flags = inside.named.items; left = inside.left } in
    let has_inside : HasNamed n v nodes = subst (λ s. HasNamed n s nodes) (sym c.self.view_is) has in
    let lt : c.in_ok-index.index < n =
    omega (
      arith,
      length-flags n v nodes has_inside,
      inside.named.ok.0,
      c.len.ensures,
      c.in_ok-index.ensures.index,
    ) in (
      lt,
      sym (flag_at n v nodes has_inside c.in_ok-index.index c.index.result.now lt) ∙ sym c.index.ensures,
    )

pub returns-then-index-clause-err : goal.returns-then-index-clause-err
returns-then-index-clause-err c = λ n nodes line has.
    let at = flagged (goal.at.returns-then-index-clause-err c).After-index n nodes has in
    node_tests-again n nodes (whole c.args.token.now line) c.in_ok-index.index line c.in_ok-index.ensures.ok at.0
    (at.1 ∙ c.if-index.true)

pub returns-clause-ok : goal.returns-clause-ok
returns-clause-ok c = λ n nodes line has fewer.
    let inside = c.self.inside in
    let index = c.in_ok-index.index in
    let t = whole c.args.token.now line in
    let v : Named = record { flags = inside.named.items; left = inside.left } in
    let has_inside : HasNamed n v nodes = subst (λ s. HasNamed n s nodes) (sym c.self.view_is) has in
    let at = flagged (goal.at.returns-clause-ok c).After-index n nodes has in
    let new : is_among (suc index) nodes ≡ false = at.1 ∙ c.if-index.false in (
      record {
        within = at.0;
        node = number_in-node n nodes t index line c.in_ok-index.ensures.ok at.0;
        new = new;
        named = rw c.saturating_sub-self-inside.ensures (named_more n v nodes has_inside index at.0 fewer);
      },
      node_tests-new n nodes t index line c.in_ok-index.ensures.ok at.0 new,
    )
