use Rattle.std.proofs.Common.{◌≡◌, Some, true, subst, sym, ◌∙◌}
use Rattle.std.proofs.lemmas.Result.{IfErr-weaker, IfOk-weaker}
use Rattle.tk_words.specs.declared.fault.TextKind.TheVariants as kinds
use Rattle.tk_lines.specs.Pieces.{Early, Fault}
use Rattle.tk_lines.proofs.Pieces.ReportedFaults.{reported_word}
use Rattle.tk_problem_text.specs.Placed.{placed_format, placed_section}
use Rattle.tk_problem_text.specs.Problem.{problem_format}
use Rattle.tk_problem_text.specs.Reader.PlacedHandler.{IsPlacing}
use Rattle.tk_problem_text.proofs.PlacedPieces.{kept_section}
use Rattle.tk_problem_text.proofs.PlacedSections.{closed_wants, same_section}
use Rattle.tk_problem_text.proofs.SectionTokens.FixedSections.{ends_early}
use Rattle.tk_problem_text.proofs.placed_handler.PlacedHandlerHandler.end_section.Goals as goal

pub returns-in-Open-clause-err : goal.returns-in-Open-clause-err
returns-in-Open-clause-err c = λ before word n toks line wants.
    let taking = subst (IsPlacing c.args.self.now before word n toks) c.in-Open.is wants in
    subst (λ w. placed_section before w n toks (Early line true) ≡ Some (Fault line kinds.Truncated)) (sym taking.0)
    (ends_early taking.2.tokens line)

pub returns-in_default : goal.returns-in_default
returns-in_default c = record {
  ok = λ before word n toks line wants.
      let s = c.args.self.now in
      let taking = closed_wants s before word n toks s.display c.in_default.not-Open wants in
      let same = same_section before word n taking.0 toks (Early line true) in
      IfOk-weaker c.end_section.result _ _ (λ _ ended. (
        record {
          parts = ended.0;
          display = kept_section s.problem.parts before word n toks (Early line true) s.display taking.1.parts
              taking.1.fresh taking.0 taking.2;
        },
        sym same ∙ ended.1,
      )) (c.end_section.ensures.ok before word n toks line taking.1);
  err = λ before word n toks line wants.
      let s = c.args.self.now in
      let taking = closed_wants s before word n toks s.display c.in_default.not-Open wants in
      let same = same_section before word n taking.0 toks (Early line true) in
      IfErr-weaker c.end_section.result _ _ (λ k. reported_word
      (λ k. problem_format.section before word n toks (Early line true) ≡ Some (Fault line k))
      (λ k. placed_format.section before word n toks (Early line true) ≡ Some (Fault line k)) k
      (λ fault. sym same ∙ fault)) (c.end_section.ensures.err before word n toks line taking.1);
}
