use Rattle.std.proofs.Common.{◌≡◌, ◌∙◌, [], take, subst, sym, arith}
use Rattle.tk_words.specs.Lex.{behind, is_word_byte}
use Rattle.tk_params.proofs.Words.{front_all, behind_at, front_at, run_more}
use Rattle.tk_params.proofs.line.word_end.Goals as goal

pub returns-then-not-word_byte-clause-word : goal.returns-then-not-word_byte-clause-word
returns-then-not-word_byte-clause-word c =
    front_at is_word_byte c.args.line.now c.loop-i.i c.loop-i.invariant.word (omega (arith, c.loop-i-test.true))
    (sym c.word_byte.ensures ∙ c.if-not-word_byte.true)

pub returns-then-not-word_byte-clause-rest : goal.returns-then-not-word_byte-clause-rest
returns-then-not-word_byte-clause-rest c =
    behind_at is_word_byte c.args.line.now c.loop-i.i c.loop-i.invariant.word (omega (arith, c.loop-i-test.true))
    (sym c.word_byte.ensures ∙ c.if-not-word_byte.true)

pub loop-i-preserved : goal.loop-i-preserved
loop-i-preserved c =
    record {
      word = run_more is_word_byte c.args.line.now c.loop-i.i c.loop-i.invariant.word (omega
          (arith, c.loop-i-test.true)) (sym c.word_byte.ensures ∙ c.if-not-word_byte.false);
    }

pub returns-clause-word : goal.returns-clause-word
returns-clause-word c =
    front_all is_word_byte c.args.line.now
    (subst (λ k. behind is_word_byte (take k c.args.line.now) ≡ [])
    (omega (arith, c.loop-i.auto.i-end, c.loop-i-test.false)) c.loop-i.invariant.word)
