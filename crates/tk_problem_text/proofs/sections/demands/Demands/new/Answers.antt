use Rattle.std.proofs.Common.{ℕ, [], length, ap, refl, sym, ◌∙◌, arith}
use Rattle.std.proofs.lemmas.List.{length-replicate}
use Rattle.tk_problem_text.specs.Sections.Rows.{demand_rows, row_of}
use Rattle.tk_problem_text.proofs.SectionTokens.Rows.{table-replicate, length-flags}
use Rattle.tk_problem_text.proofs.sections.demands.Demands.new.Goals as goal

pub invariant_of-result : goal.invariant_of-result
invariant_of-result c = record {
  sizes =
      omega (
        arith,
        length-flags c.args.n c.in_ok-new-in-Ok.field-0 [] c.in_ok-new-in-Ok.ensures.ok,
        ap length (c.in-Ok.ensures.items_if_clones_equal (λ y h. h)),
        length-replicate {A = ℕ} c.args.n 0,
      );
  within = tt;
}

pub returns-in_ok-new-in-Ok-clause-ok : goal.returns-in_ok-new-in-Ok-clause-ok
unfolding demand_rows
returns-in_ok-new-in-Ok-clause-ok c = record {
  rows = [];
  part = [];
  are = refl;
  whole = refl;
  loads = c.in-Ok.ensures.items_if_clones_equal (λ y h. h)
      ∙ sym (table-replicate (row_of 0 []) 0 (λ _. refl) 1 c.args.n);
  begun = (refl, c.in_ok-new-in-Ok.ensures.ok);
}
