use Rattle.std.proofs.Common.{arith, rules}
use Rattle.tk_outcomes.proofs.PrintedLines.Labels.{Writes-short}
use Rattle.tk_engines.proofs.NearLines.{length_near_text}
use Rattle.tk_engines.proofs.engines.near.write_near_lists.Goals as goal

pub returns : goal.returns
returns g c =
    Writes-short g.W.Sink c.args.out.now _ _ _ _ _ _ c.new-pen.ensures.empty c.put_lists.ensures
    c.end.ensures (search rules) (length_near_text c.args.near.now
    (omega (arith, c.size.ensures.value, c.size.ensures.limit))
    (omega (arith, c.width.ensures.value, c.width.ensures.limit)))
