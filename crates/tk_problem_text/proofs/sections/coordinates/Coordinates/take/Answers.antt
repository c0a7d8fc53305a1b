use Rattle.std.proofs.Common.{ℕ, ◌*◌, List, length, sym, ap, ◌∙◌}
use Rattle.std.proofs.lemmas.Bool.{eqb-true, eqb-false}
use Rattle.std.proofs.lemmas.Result.{err_from_is_err_and}
use Rattle.tk_problem_text.specs.declared.sections.coordinates.Wanted.TheVariants as wants
use Rattle.tk_words.specs.Decimal.{decimal_of}
use Rattle.tk_words.specs.Lex.{Token}
use Rattle.tk_lines.specs.Reader.Handlers.{whole}
use Rattle.tk_lines.specs.Pieces.{first_at}
use Rattle.tk_problem_text.specs.Reader.Coordinates.{HasPlaces}
use Rattle.tk_problem_text.specs.Sections.Rows.{place_tests, node_tests, coordinate_tests, nodes_in, place_rows}
use Rattle.tk_lines.proofs.Pieces.ReportedFaults.{reported_same}
use Rattle.tk_problem_text.proofs.SectionTokens.FixedSections.{EndsRow}
use Rattle.tk_problem_text.proofs.SectionTokens.Rows.{node_tests-reported}
use Rattle.tk_problem_text.proofs.SectionTokens.PlaceRows.{AtNode, opened, at_node, node_taken, place_tests-node}
use Rattle.tk_problem_text.proofs.SectionTokens.PlaceRows.{fewer_nodes, node_more, place_tests-x, x_more, x_taken}
use Rattle.tk_problem_text.proofs.SectionTokens.PlaceRows.{place_tests-y, y_ends_row, coordinate_tests-ok}
use Rattle.tk_problem_text.proofs.SectionTokens.PlaceRows.{coordinate_tests-err, limited-ok, fits, within_y, on_ok}
use Rattle.tk_problem_text.proofs.sections.coordinates.Coordinates.take.Goals as goal
use Rattle.tk_problem_text.proofs.sections.coordinates.Coordinates.take.Goals.{In-Node, After-are_all}

wants_node : (c : In-Node) (n : ℕ) (toks : List Token) → HasPlaces n c.args.self.now toks →
    AtNode n c.self.inside.places c.self.inside.nodes toks
wants_node c n toks has =
    let inside = c.self.inside in
    at_node n inside.places inside.nodes toks
    (opened n inside.places inside.nodes inside.wanted wants.Node c.args.self.now toks c.self.view_is c.in-Node.is has)

row_placed : (c : After-are_all) (n : ℕ) (toks : List Token) (line : ℕ) → HasPlaces n c.args.self.now toks →
    EndsRow (HasPlaces n) (place_tests n) (3 * n) c.self.inside.nodes.left
    (record { places = c.set.new.self; nodes = c.self.inside.nodes; wanted = wants.Node }) toks
    (whole c.args.token.now line)
row_placed c n toks line has =
    let inside = c.self.inside in
    let x = c.in-Y.x in
    let y = c.in_ok-y-in-Y.y in
    let here = opened n inside.places inside.nodes inside.wanted (wants.Y c.in-Y.index x) c.args.self.now toks
    c.self.view_is c.in-Y.is has in
    let near = within_y (length inside.places) inside.wanted c.in-Y.index x c.in-Y.is c.self.invariant.within in
    let written =
    rw (fits x near, fits y c.in_ok-y-in-Y.ensures.bound) at
    (on_ok c.set.result (sym c.is_err.ensures.value ∙ c.if-is_err.false) c.set.ensures.ok) in
    rw written
    (y_ends_row n inside.places inside.nodes toks c.in-Y.index x here (whole c.args.token.now line) y
    c.in_ok-y-in-Y.ensures.value)

pub returns-in_err-index-in-Node-clause-err : goal.returns-in_err-index-in-Node-clause-err
returns-in_err-index-in-Node-clause-err c = λ n toks line has.
    let t = whole c.args.token.now line in
    let k = c.in_err-index-in-Node.field-0.0 in
    let at = wants_node (goal.at.returns-in_err-index-in-Node-clause-err c).In-Node n toks has in
    let nodes = nodes_in (place_rows toks) in
    let p = err_from_is_err_and c.from_residual.result c.from_residual.ensures.1 in
    rw (p.1, p.2) (reported_same line k (place_tests n toks t) (node_tests n nodes t)
    (place_tests-node n toks t at.whole)
    (node_tests-reported n nodes t line k (c.in_err-index-in-Node.ensures.err n nodes line at.named)))

pub returns-in_err-x-in-X-clause-err : goal.returns-in_err-x-in-X-clause-err
returns-in_err-x-in-X-clause-err c = λ n toks line has.
    let inside = c.self.inside in
    let t = whole c.args.token.now line in
    let k = c.in_err-x-in-X.field-0.0 in
    let here = opened n inside.places inside.nodes inside.wanted (wants.X c.in-X.index) c.args.self.now toks
    c.self.view_is c.in-X.is has in
    let p = err_from_is_err_and c.from_residual-in_err-x-in-X.result c.from_residual-in_err-x-in-X.ensures.1 in
    rw (p.1, p.2)
    (reported_same line k (place_tests n toks t) (coordinate_tests t)
    (place_tests-x n inside.places inside.nodes toks c.in-X.index here t)
    (coordinate_tests-err t line k c.in_err-x-in-X.ensures.value))

pub returns-in_err-y-in-Y-clause-err : goal.returns-in_err-y-in-Y-clause-err
returns-in_err-y-in-Y-clause-err c = λ n toks line has.
    let inside = c.self.inside in
    let t = whole c.args.token.now line in
    let k = c.in_err-y-in-Y.field-0.0 in
    let here = opened n inside.places inside.nodes inside.wanted (wants.Y c.in-Y.index c.in-Y.x) c.args.self.now toks
    c.self.view_is c.in-Y.is has in
    let p = err_from_is_err_and c.from_residual-in_err-y-in-Y.result c.from_residual-in_err-y-in-Y.ensures.1 in
    rw (p.1, p.2)
    (reported_same line k (place_tests n toks t) (coordinate_tests t)
    (place_tests-y n inside.places inside.nodes toks c.in-Y.index c.in-Y.x here t)
    (coordinate_tests-err t line k c.in_err-y-in-Y.ensures.value))

pub returns-in_ok-index-in-Node-clause-ok : goal.returns-in_ok-index-in-Node-clause-ok
returns-in_ok-index-in-Node-clause-ok c = λ n toks line has fewer.
    let inside = c.self.inside in
    let t = whole c.args.token.now line in
    let at = wants_node (goal.at.returns-in_ok-index-in-Node-clause-ok c).In-Node n toks has in
    let nodes = nodes_in (place_rows toks) in
    let next =
    c.in_ok-index-in-Node.ensures.ok n nodes line at.named
    (fewer_nodes n inside.places inside.nodes toks at fewer) in (
      ap (first_at line) (place_tests-node n toks t at.whole) ∙ next.1,
      node_taken n inside.places inside.nodes toks at c.name.new.self t c.in_ok-index-in-Node.index next.0,
      node_more n inside.places inside.nodes toks at,
    )

pub returns-in_ok-x-in-X-clause-ok : goal.returns-in_ok-x-in-X-clause-ok
returns-in_ok-x-in-X-clause-ok c = λ n toks line has fewer.
    let inside = c.self.inside in
    let t = whole c.args.token.now line in
    let x = c.in_ok-x-in-X.x in
    let here = opened n inside.places inside.nodes inside.wanted (wants.X c.in-X.index) c.args.self.now toks
    c.self.view_is c.in-X.is has in
    let value = c.in_ok-x-in-X.ensures.value in (
      ap (first_at line) (place_tests-x n inside.places inside.nodes toks c.in-X.index here t)
          ∙ coordinate_tests-ok t line x value,
      rw (fits x c.in_ok-x-in-X.ensures.bound)
          (x_taken n inside.places inside.nodes toks c.in-X.index here t x (limited-ok (decimal_of t.bytes) x value).0),
      x_more n inside.places inside.nodes toks c.in-X.index here,
    )

pub returns-then-are_all-clause-ok : goal.returns-then-are_all-clause-ok
returns-then-are_all-clause-ok c = λ n toks line has fewer.
    let row = row_placed (goal.at.returns-then-are_all-clause-ok c).After-are_all n toks line has in
    (row.fine, row.kept, row.last (eqb-true _ 0 (sym c.are_all.ensures ∙ c.if-are_all.true)))

pub returns-else-are_all-clause-ok : goal.returns-else-are_all-clause-ok
returns-else-are_all-clause-ok c = λ n toks line has fewer.
    let row = row_placed (goal.at.returns-else-are_all-clause-ok c).After-are_all n toks line has in
    (row.fine, row.kept, row.more (eqb-false _ 0 (sym c.are_all.ensures ∙ c.if-are_all.false)))
