use Rattle.std.proofs.Common.{refl, subst, sym}
use Rattle.std.proofs.lemmas.Result.{IfErr-weaker, IfOk-weaker, err_from_is_err_and}
use Rattle.tk_words.specs.declared.keyword.Keyword.TheVariants as words
use Rattle.tk_lines.specs.Reader.Handlers.{HasTakenToken, IsReportedWord, StopsAt, whole}
use Rattle.tk_lines.proofs.Pieces.ReportedFaults.{reported_word}
use Rattle.tk_problem_text.specs.declared.display.Display.TheVariants as displays
use Rattle.tk_problem_text.specs.declared.placed_handler.PlacedHandler.{PlacedHandler}
use Rattle.tk_problem_text.specs.Placed.{placed_format}
use Rattle.tk_problem_text.specs.Problem.{problem_format, size_of}
use Rattle.tk_problem_text.specs.Reader.Coordinates.{HasPlaces}
use Rattle.tk_problem_text.specs.Reader.PlacedHandler.{HasShown, IsPlacing, IsShown, PlacedHolds, PlacedWants}
use Rattle.tk_problem_text.specs.Reader.ProblemHandler.{ProblemHolds, ProblemWants}
use Rattle.tk_problem_text.proofs.PlacedPieces.{kept_section}
use Rattle.tk_problem_text.proofs.PlacedSections.{closed_wants, same_section, same_stop, same_taken, still_closed}
use Rattle.tk_problem_text.proofs.ProblemHandlers.{taken_end, taken_more}
use Rattle.tk_problem_text.proofs.placed_handler.PlacedHandlerHandler.token.Goals as goal

pub returns-in_default : goal.returns-in_default
returns-in_default c = record {
  ok = λ before word n toks line wants.
      let s = c.args.self.now in
      let taking = closed_wants s before word n toks s.display c.in_default.not-Open wants in
      let now : PlacedHandler = record { problem = c.token.new.self; display = s.display } in
      IfOk-weaker c.token.result _ _
      (same_taken problem_format placed_format before word n (λ toks. refl) (same_section before word n taking.0)
      (ProblemHolds now.problem) (PlacedHolds now) (ProblemWants now.problem) (PlacedWants now) toks
      (whole c.args.token.now line)
      (λ ts after holds. record {
        parts = holds;
        display = kept_section s.problem.parts before word n ts after s.display taking.1.parts taking.1.fresh taking.0
            taking.2;
      })
      (λ ts wants. still_closed now before word n ts s.display taking.0 wants taking.2))
      (c.token.ensures.ok before word n toks line taking.1);
  err = λ before word n toks line wants.
      let s = c.args.self.now in
      let taking = closed_wants s before word n toks s.display c.in_default.not-Open wants in
      let t = whole c.args.token.now line in
      IfErr-weaker c.token.result _ _ (λ k. reported_word (StopsAt problem_format before word n toks t)
      (StopsAt placed_format before word n toks t) k
      (same_stop problem_format placed_format before word n (λ toks. refl) (same_section before word n taking.0) toks t
      k)) (c.token.ensures.err before word n toks line taking.1);
}

pub returns-in_err-taken-clause-err : goal.returns-in_err-taken-clause-err
returns-in_err-taken-clause-err c = λ before word n toks line wants.
    let taking = subst (IsPlacing c.args.self.now before word n toks) c.in-Open.is wants in
    let p = err_from_is_err_and c.from_residual.result c.from_residual.ensures.1 in
    let t = whole c.args.token.now line in
    rw (p.1, p.2)
    (subst (λ w. IsReportedWord (StopsAt placed_format before w n toks t) c.in_err-taken.field-0.0) (sym taking.0)
    (c.in_err-taken.ensures.err before n toks line taking.2 taking.3))

pub returns-in-More-clause-ok : goal.returns-in-More-clause-ok
returns-in-More-clause-ok c = λ before word n toks line wants.
    let taking = subst (IsPlacing c.args.self.now before word n toks) c.in-Open.is wants in
    let section = c.take_shown.new.section in
    let now : PlacedHandler = record { problem = c.args.self.now.problem; display = displays.Open section } in
    let t = whole c.args.token.now line in
    subst
    (λ w. HasTakenToken placed_format (PlacedHolds now) (PlacedWants now) before w n toks t c.in_ok-taken.taken)
    (sym taking.0)
    (taken_more placed_format (IsShown before n section) (PlacedHolds now)
    (λ ps w m ts. HasShown before n ts × HasPlaces (size_of before) section ts) (PlacedWants now) before
    words.DisplayDataSection n toks t c.in_ok-taken.taken c.in-More.is (λ ts h. (refl, taking.1, h.0, h.1))
    (c.in_ok-taken.ensures.ok before n toks line taking.2 taking.3))

pub returns-in_default-taken : goal.returns-in_default-taken
returns-in_default-taken c = record {
  ok = λ before word n toks line wants.
      let taking = subst (IsPlacing c.args.self.now before word n toks) c.in-Open.is wants in
      let section = c.take_shown.new.section in
      let now = c.close.new.self in
      let t = whole c.args.token.now line in
      subst
      (λ w. HasTakenToken placed_format (PlacedHolds now) (PlacedWants now) before w n toks t c.in_ok-taken.taken)
      (sym taking.0)
      (taken_end placed_format (IsShown before n section) (PlacedHolds now)
      (λ ps w m ts. HasShown before n ts × HasPlaces (size_of before) section ts) (PlacedWants now) before
      words.DisplayDataSection n toks t c.in_ok-taken.taken c.in_default-taken.not-More
      (λ ps past. c.close.ensures section before n ps refl taking.1 past)
      (c.in_ok-taken.ensures.ok before n toks line taking.2 taking.3));
  err = λ before word n toks line wants. tt;
}
