use Rattle.tk_problem_text.specs.Placed.{placed_value}
use Rattle.tk_problem_text.specs.Reader.PlacedHandler.{placed_held}
use Rattle.tk_problem_text.proofs.PlacedValues.{enough_placed, places_done, same_placed}
use Rattle.tk_problem_text.proofs.placed_handler.PlacedHandlerHandler.end.Goals as goal

pub returns-clause-complete : goal.returns-clause-complete
returns-clause-complete c = λ before holds none. (
  c.end.ensures.complete before holds.parts none,
  enough_placed c.args.self.now.problem.parts before c.args.self.now.display holds.parts holds.display,
)

pub returns-clause-value : goal.returns-clause-value
returns-clause-value c = λ before holds none.
    let read = c.end.ensures.value before holds.parts none in (
      read.0,
      same_placed (placed_held c.args.self.now) (placed_value before) read.1
          (places_done c.args.self.now.problem.parts before c.args.self.now.display holds.parts holds.display),
    )
