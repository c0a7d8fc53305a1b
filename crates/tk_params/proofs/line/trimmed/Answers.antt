use Rattle.std.proofs.Common.{◌∙◌, sym, arith}
use Rattle.tk_params.proofs.Words.{trim_less, trim_here, trim_none}
use Rattle.tk_params.proofs.line.trimmed.Goals as goal
use Rattle.tk_params.proofs.line.trimmed.Goals.{then-loop-end-test+else-blank, else-loop-end-test}

pub loop-end-preserved : goal.loop-end-preserved
loop-end-preserved c =
    record {
      within = omega (arith, c.loop-end.invariant.within);
      trimmed = trim_less c.args.bytes.now c.loop-end.end (omega (arith, c.loop-end-test.true))
          (omega (arith, c.loop-end.invariant.within)) (sym c.blank.ensures ∙ c.if-blank.true)
          ∙ c.loop-end.invariant.trimmed;
    }

pub returns : goal.returns
returns c =
    elim c.loop-end-test.branch [
      | then-loop-end-test+else-blank w ↦ sym
          (trim_here c.args.bytes.now c.loop-end.end (omega (arith, w.loop-end-test.true))
          (omega (arith, c.loop-end.invariant.within)) (sym w.blank.ensures ∙ w.if-blank.false))
          ∙ c.loop-end.invariant.trimmed
      | else-loop-end-test w ↦ sym (trim_none c.args.bytes.now c.loop-end.end (omega (arith, w.loop-end-test.false)))
          ∙ c.loop-end.invariant.trimmed
    ]
