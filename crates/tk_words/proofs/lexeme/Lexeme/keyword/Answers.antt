use Rattle.std.proofs.Common.{pos, ap, sym, ◌∙◌}
use Rattle.tk_words.specs.Entry.{without_colon}
use Rattle.tk_words.specs.Words.{keyword_of}
use Rattle.tk_words.proofs.NoWord.{integer-no_word}
use Rattle.tk_words.proofs.NumberLaws.Naturals.{natural-integer}
use Rattle.tk_words.proofs.lexeme.Lexeme.keyword.Goals as goal

pub returns-in-Some : goal.returns-in-Some
returns-in-Some c =
    let bs = c.self.inside.bytes.now in
    let n = c.in-Some.field-0 in
    let known = rw c.in-Some.is at c.self.invariant in
    sym (
    ap (λ l. keyword_of (without_colon l)) (sym c.self.view_is)
    ∙ integer-no_word bs (pos n) (natural-integer bs n known.0)
    )
