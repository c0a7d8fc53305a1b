use Rattle.std.proofs.Common.{rules}
use Rattle.tk_outcomes.proofs.PrintedLines.Labels.{Writes-short}
use Rattle.tk_outcomes.proofs.PrintedLines.TourLines.{outcome_line_short}
use Rattle.tk_outcomes.proofs.lines.tour_line.write_tour_outcome.Goals as goal

pub returns : goal.returns
returns g c =
    Writes-short g.W.Sink c.args.out.now _ _ _ _ _ _ c.new-pen.ensures.empty c.put_outcome.ensures
    c.end.ensures (search rules) (outcome_line_short c.args.outcome.now)
