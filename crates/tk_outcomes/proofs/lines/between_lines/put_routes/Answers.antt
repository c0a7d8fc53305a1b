use Rattle.tk_outcomes.proofs.PrintedLines.Labels.{Puts-label}
use Rattle.tk_outcomes.proofs.lines.between_lines.put_routes.Goals as goal

pub returns : goal.returns
returns g c = Puts-label _ _ c.put_labelled.ensures c.put_labelled-2.ensures
