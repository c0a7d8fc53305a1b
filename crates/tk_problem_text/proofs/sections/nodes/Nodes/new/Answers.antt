use Rattle.std.proofs.Common.{[], false, arith, refl, sym, ◌∙◌}
use Rattle.tk_problem_text.specs.Sections.Rows.{is_among}
use Rattle.tk_problem_text.proofs.SectionTokens.Rows.{table-replicate}
use Rattle.tk_problem_text.proofs.sections.nodes.Nodes.new.Goals as goal

pub returns-in-Ok-clause-ok : goal.returns-in-Ok-clause-ok
returns-in-Ok-clause-ok c = record {
  flags = c.in-Ok.ensures.items_if_clones_equal (λ y h. h)
      ∙ sym (table-replicate (λ c'. is_among c' []) false (λ _. refl) 1 c.args.n);
  left = omega arith;
}
