use Rattle.std.proofs.Common.{ℕ, ◌*◌, List, set, None, Some, sym, ap, ◌∙◌}
use Rattle.std.proofs.lemmas.Bool.{eqb-true, eqb-false}
use Rattle.std.proofs.lemmas.Result.{err_from_is_err_and}
use Rattle.tk_words.specs.Lex.{Token}
use Rattle.tk_lines.specs.Reader.Handlers.{whole}
use Rattle.tk_lines.specs.Pieces.{first_at}
use Rattle.tk_problem_text.specs.Reader.Demands.{HasDemands}
use Rattle.tk_problem_text.specs.Sections.Rows.{nodes_in, demand_rows, demand_tests}
use Rattle.tk_problem_text.proofs.SectionTokens.FixedSections.{EndsRow}
use Rattle.tk_problem_text.proofs.SectionTokens.DemandRows.{AtNode, opened, at_node, node_taken, demand_tests-node}
use Rattle.tk_problem_text.proofs.SectionTokens.DemandRows.{fewer_nodes, node_more, demand_tests-load, load_ends_row}
use Rattle.tk_problem_text.proofs.sections.demands.Demands.take.Goals as goal
use Rattle.tk_problem_text.proofs.sections.demands.Demands.take.Goals.{In-None, After-are_all}

wants_node : (c : In-None) (n : ℕ) (toks : List Token) → HasDemands n c.args.self.now toks →
    AtNode n c.self.inside.loads.items c.self.inside.nodes toks
wants_node c n toks has =
    let inside = c.self.inside in
    at_node n inside.loads.items inside.nodes toks
    (opened n inside.loads.items inside.nodes inside.node None c.args.self.now toks c.self.view_is c.in-None.is has)

row_loaded : (c : After-are_all) (n : ℕ) (toks : List Token) (line : ℕ) → HasDemands n c.args.self.now toks →
    let inside = c.self.inside in
    let loads : List ℕ = set inside.loads.items c.in-Some.index c.in_ok-load-in-Some.load in
    EndsRow (HasDemands n) (demand_tests n) (2 * n) inside.nodes.left
    (record { loads = loads; nodes = inside.nodes; node = None }) toks (whole c.args.token.now line)
row_loaded c n toks line has =
    let inside = c.self.inside in
    let here = opened n inside.loads.items inside.nodes inside.node (Some c.in-Some.index) c.args.self.now toks
    c.self.view_is c.in-Some.is has in
    load_ends_row n inside.loads.items inside.nodes toks c.in-Some.index here (whole c.args.token.now line)
    c.in_ok-load-in-Some.load (c.in_ok-load-in-Some.ensures.ok line) c.in_ok-load-in-Some.ensures.value

pub returns-in_err-index-in-None-clause-err : goal.returns-in_err-index-in-None-clause-err
returns-in_err-index-in-None-clause-err c = λ n toks line has.
    let t = whole c.args.token.now line in
    let at = wants_node (goal.at.returns-in_err-index-in-None-clause-err c).In-None n toks has in
    let p = err_from_is_err_and c.from_residual.result c.from_residual.ensures.1 in
    rw (p.1, p.2) (ap (first_at line) (demand_tests-node n toks t at.whole)
    ∙ c.in_err-index-in-None.ensures.err n (nodes_in (demand_rows toks)) line at.named)

pub returns-in_err-load-in-Some-clause-err : goal.returns-in_err-load-in-Some-clause-err
returns-in_err-load-in-Some-clause-err c = λ n toks line has.
    let inside = c.self.inside in
    let t = whole c.args.token.now line in
    let here = opened n inside.loads.items inside.nodes inside.node (Some c.in-Some.index) c.args.self.now toks
    c.self.view_is c.in-Some.is has in
    let p =
    err_from_is_err_and c.from_residual-in_err-load-in-Some.result c.from_residual-in_err-load-in-Some.ensures.1 in
    rw (p.1, p.2) (ap (first_at line) (demand_tests-load n inside.loads.items inside.nodes toks c.in-Some.index here t)
    ∙ c.in_err-load-in-Some.ensures.err line)

pub returns-in_ok-index-in-None-clause-ok : goal.returns-in_ok-index-in-None-clause-ok
returns-in_ok-index-in-None-clause-ok c = λ n toks line has fewer.
    let inside = c.self.inside in
    let t = whole c.args.token.now line in
    let at = wants_node (goal.at.returns-in_ok-index-in-None-clause-ok c).In-None n toks has in
    let next = c.in_ok-index-in-None.ensures.ok n (nodes_in (demand_rows toks)) line at.named
    (fewer_nodes n inside.loads.items inside.nodes toks at fewer) in (
      ap (first_at line) (demand_tests-node n toks t at.whole) ∙ next.1,
      node_taken n inside.loads.items inside.nodes toks at c.name.new.self t c.in_ok-index-in-None.index next.0,
      node_more n inside.loads.items inside.nodes toks at,
    )

pub returns-then-are_all-clause-ok : goal.returns-then-are_all-clause-ok
returns-then-are_all-clause-ok c = λ n toks line has fewer.
    let row = row_loaded (goal.at.returns-then-are_all-clause-ok c).After-are_all n toks line has in
    (row.fine, row.kept, row.last (eqb-true _ 0 (sym c.are_all.ensures ∙ c.if-are_all.true)))

pub returns-else-are_all-clause-ok : goal.returns-else-are_all-clause-ok
returns-else-are_all-clause-ok c = λ n toks line has fewer.
    let row = row_loaded (goal.at.returns-else-are_all-clause-ok c).After-are_all n toks line has in
    (row.fine, row.kept, row.more (eqb-false _ 0 (sym c.are_all.ensures ∙ c.if-are_all.false)))
