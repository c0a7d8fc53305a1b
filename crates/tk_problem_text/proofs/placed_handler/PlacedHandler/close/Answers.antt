use Rattle.std.proofs.Common.{refl, ◌∙◌}
use Rattle.tk_problem_text.specs.Problem.{size_of}
use Rattle.tk_problem_text.specs.Sections.Rows.{row_places}
use Rattle.tk_problem_text.proofs.PlacedPieces.{display_read}
use Rattle.tk_problem_text.proofs.placed_handler.PlacedHandler.close.Goals as goal

pub returns : goal.returns
returns c = λ section before n ps is_open parts shown.
    let read = c.closed.ensures section (size_of before) shown.toks (c.replace-display.ensures.value ∙ is_open)
    shown.places shown.all in
    rw (shown.are, read) (record {
      parts = c.note_display.ensures before n shown.toks shown.after parts shown.sized;
      display = display_read c.args.self.now.problem.parts before n shown.toks shown.after
          (row_places (size_of before) shown.toks) parts shown.sized shown.fresh refl;
    })
