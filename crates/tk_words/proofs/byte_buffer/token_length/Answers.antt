use Rattle.std.proofs.Common.{◌≡◌, ◌||◌, ◌==◌, false, take, sym, ◌∙◌}
use Rattle.std.proofs.lemmas.List.{take_more}
use Rattle.std.proofs.lemmas.List.Elements.{All-push}
use Rattle.tk_words.specs.Lex.{is_blank}
use Rattle.tk_words.proofs.byte_buffer.token_length.Goals as goal

pub loop-i-preserved : goal.loop-i-preserved
loop-i-preserved c =
    rw (take_more c.args.bytes.now c.loop-i.i 0 c.loop-i-test.true)
    (All-push (λ b. (is_blank b || b == 10) ≡ false) (take c.loop-i.i c.args.bytes.now) _ c.loop-i.invariant
    (sym c.blank_or_end.ensures ∙ c.if-blank_or_end.false))
