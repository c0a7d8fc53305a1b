use Rattle.std.proofs.Common.{[], refl, subst, sym, ◌∙◌}
use Rattle.std.proofs.lemmas.Result.{err_from_is_err_and}
use Rattle.tk_words.specs.Lex.{Token}
use Rattle.tk_lines.specs.Pieces.{After, Fault}
use Rattle.tk_lines.specs.Reader.Handlers.{Goes}
use Rattle.tk_lines.proofs.Pieces.ReportedFaults.{reported_word}
use Rattle.std.proofs.Common.{◌≡◌, List, Some}
use Rattle.tk_problem_text.specs.Placed.{placed_format}
use Rattle.tk_problem_text.specs.Problem.{problem_format}
use Rattle.tk_problem_text.specs.declared.placed_handler.PlacedHandler.{PlacedHandler}
use Rattle.tk_problem_text.specs.Reader.PlacedHandler.{PlacedWants}
use Rattle.tk_problem_text.proofs.PlacedPieces.{reads_word}
use Rattle.tk_problem_text.proofs.PlacedSections.{begins_shown, placed_refused, same_goes, same_section, still_closed}
use Rattle.tk_problem_text.proofs.SectionTokens.FixedSections.{goes}
use Rattle.tk_problem_text.proofs.placed_handler.PlacedHandlerHandler.section.Goals as goal

pub returns-in_err-section-clause-err : goal.returns-in_err-section-clause-err
returns-in_err-section-clause-err c = λ before n holds.
    let word = c.args.word in
    let k = c.in_err-section.field-0.0 in
    let p = err_from_is_err_and c.from_residual.result c.from_residual.ensures.1 in
    rw (p.1, p.2)
    (reported_word
    (λ k. (toks : List Token) (after : After) → problem_format.section before word n toks after ≡ Some (Fault n k))
    (λ k. (toks : List Token) (after : After) → placed_format.section before word n toks after ≡ Some (Fault n k))
    k (placed_refused before word n k) (c.in_err-section.ensures.err before n holds.parts))

pub returns-in_ok-begin_display-clause-ok : goal.returns-in_ok-begin_display-clause-ok
returns-in_ok-begin_display-clause-ok c = λ before n holds.
    let s = c.section.new.self in
    let begun = c.in_ok-section.ensures.ok before n holds.parts in
    let read = sym (c.reads.ensures before begun.0.parts) ∙ c.if-reads.true in
    let is = reads_word before c.args.word read in
    let shown = begins_shown s before c.args.word n is read begun.0 begun.1 in
    subst (λ w. PlacedWants c.begin_display.new.self before w n [] × Goes placed_format before w n []) (sym is)
    (c.in_ok-begin_display.ensures.ok before n begun.0.parts shown, goes shown.tokens)

pub returns-else-reads-clause-ok : goal.returns-else-reads-clause-ok
returns-else-reads-clause-ok c = λ before n holds.
    let word = c.args.word in
    let s : PlacedHandler = record { problem = c.section.new.self; display = c.args.self.now.display } in
    let begun = c.in_ok-section.ensures.ok before n holds.parts in
    let skipped = sym (c.reads.ensures before begun.0.parts) ∙ c.if-reads.false in (
      still_closed s before word n [] c.args.self.now.display skipped begun.0 holds.display,
      same_goes problem_format placed_format before word n (λ toks. refl) (same_section before word n skipped) []
          begun.1,
    )
