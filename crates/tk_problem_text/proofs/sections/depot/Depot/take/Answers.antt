use Rattle.std.proofs.lemmas.Result.{err_from_is_err_and}
use Rattle.tk_lines.specs.Reader.Handlers.{whole}
use Rattle.tk_problem_text.proofs.SectionTokens.FixedSections.{ready}
use Rattle.tk_problem_text.proofs.SectionTokens.DepotTaken.{has_node, refused_first, takes_behind, refused_behind}
use Rattle.tk_problem_text.proofs.sections.depot.Depot.take.Goals as goal

pub returns-in_err-node-in-None-clause-err : goal.returns-in_err-node-in-None-clause-err
returns-in_err-node-in-None-clause-err c = λ n toks line has.
    let p = err_from_is_err_and c.from_residual.result c.from_residual.ensures.1 in
    rw (p.1, p.2)
    (refused_first n c.args.self.now toks has c.in-None.is (whole c.args.token.now line)
    c.in_err-node-in-None.field-0.0 (c.in_err-node-in-None.ensures.err line))

pub returns-in_ok-node-in-None-clause-ok : goal.returns-in_ok-node-in-None-clause-ok
returns-in_ok-node-in-None-clause-ok c =
    λ n toks line has. has_node n c.args.self.now toks has c.in-None.is (whole c.args.token.now line)
    (ready c.args.token.now line c.requires) c.in_ok-node-in-None.node c.in_ok-node-in-None.ensures.node
    (c.in_ok-node-in-None.ensures.ok line)

pub returns-in-Some-clause-ok : goal.returns-in-Some-clause-ok
returns-in-Some-clause-ok c = λ n toks line has. takes_behind n c.args.self.now toks has c.in-Some.field-0 c.in-Some.is
    (whole c.args.token.now line) c.behind_node.result (λ node. c.behind_node.ensures.ok n c.args.self.now node line)

pub returns-in-Some-clause-err : goal.returns-in-Some-clause-err
returns-in-Some-clause-err c = λ n toks line has. refused_behind n c.args.self.now toks has c.in-Some.field-0
    c.in-Some.is (whole c.args.token.now line) c.behind_node.result (λ node. c.behind_node.ensures.err n node line)
