use Rattle.std.proofs.Common.{[], length, ap, refl, sym, ◌∙◌, arith}
use Rattle.std.proofs.lemmas.List.{length-replicate}
use Rattle.tk_problem.specs.Places.{origin}
use Rattle.tk_problem_text.specs.Sections.Rows.{place_rows, row_of}
use Rattle.tk_problem_text.proofs.SectionTokens.Rows.{table-replicate, length-flags}
use Rattle.tk_problem_text.proofs.sections.coordinates.Coordinates.new.Goals as goal

pub invariant_of-result : goal.invariant_of-result
invariant_of-result c =
    record {
      sizes = omega (
        arith,
        length-flags c.args.n c.in_ok-new-in-Ok.field-0 [] c.in_ok-new-in-Ok.ensures.ok,
        ap length c.in-Ok.ensures,
        length-replicate c.args.n origin,
      );
      within = tt;
    }

pub returns-in_ok-new-in-Ok-clause-ok : goal.returns-in_ok-new-in-Ok-clause-ok
unfolding place_rows
returns-in_ok-new-in-Ok-clause-ok c = record {
  rows = [];
  part = [];
  are = refl;
  whole = refl;
  places = c.in-Ok.ensures ∙ sym (table-replicate (row_of origin []) origin (λ _. refl) 1 c.args.n);
  begun = (refl, c.in_ok-new-in-Ok.ensures.ok);
}
