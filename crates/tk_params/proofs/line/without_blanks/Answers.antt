use Rattle.std.proofs.Common.{◌∙◌, sym, arith}
use Rattle.tk_words.specs.Lex.{is_blank}
use Rattle.std.proofs.lemmas.List.{take_rest}
use Rattle.tk_params.proofs.Words.{behind_at, run_more}
use Rattle.tk_params.proofs.line.without_blanks.Goals as goal

pub returns-then-not-blank : goal.returns-then-not-blank
returns-then-not-blank c = take_rest c.args.bytes.now c.loop-i.i
    ∙ behind_at is_blank c.args.bytes.now c.loop-i.i c.loop-i.invariant.blanks (omega (arith, c.loop-i-test.true))
    (sym c.blank.ensures ∙ c.if-not-blank.true)

pub loop-i-preserved : goal.loop-i-preserved
loop-i-preserved c =
    record {
      blanks = run_more is_blank c.args.bytes.now c.loop-i.i c.loop-i.invariant.blanks (omega
          (arith, c.loop-i-test.true)) (sym c.blank.ensures ∙ c.if-not-blank.false);
    }
