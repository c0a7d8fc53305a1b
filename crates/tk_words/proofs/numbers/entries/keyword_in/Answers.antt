use Rattle.std.proofs.Common.{sym, ◌∙◌}
use Rattle.tk_words.proofs.NoWord.{other-no_word}
use Rattle.tk_words.proofs.numbers.entries.keyword_in.Goals as goal

pub returns-then-not-begins_word : goal.returns-then-not-begins_word
returns-then-not-begins_word c =
    sym (other-no_word c.args.bytes.now (sym c.begins_word.ensures ∙ c.if-not-begins_word.true))
