use Rattle.std.proofs.Common.{subst, sym, ◌∙◌}
use Rattle.tk_writers.specs.Pens.{Puts}
use Rattle.tk_writers.proofs.Pieces.Putting.{Puts-then}
use Rattle.tk_outcomes.proofs.PrintedLines.RunLines.{ignored_take}
use Rattle.tk_outcomes.proofs.lines.solve_lines.put_ignored.Goals as goal

pub loop-i-preserved : goal.loop-i-preserved
loop-i-preserved g c =
    subst (Puts _ _ _) (sym (ignored_take c.args.ignored.now c.loop-i.i _ c.loop-i-test.true))
    (Puts-then c.loop-i.invariant
    (Puts-then (Puts-then c.put.ensures
    (subst (Puts _ _ _) (c.as_bytes.ensures.value ∙ c.word.ensures) c.put-in-loop-i.ensures))
    c.put-in-loop-i-2.ensures))
