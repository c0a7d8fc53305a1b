use Rattle.std.proofs.Common.{Some, to_z, ap, arith, pos, subst, sym, w64, ◌∙◌}
use Rattle.std.proofs.lemmas.Int.{to_z_pos}
use Rattle.tk_words.specs.Entry.{is_eof_word, is_some_word, IsEntry}
use Rattle.tk_words.specs.declared.numbers.entries.Entry.TheVariants as entries
use Rattle.tk_words.proofs.NoWord.{integer-no_word}
use Rattle.tk_words.proofs.NumberLaws.Naturals.{natural-integer}
use Rattle.tk_words.proofs.lexeme.Lexeme.entry.Goals as goal

pub returns-in-Some : goal.returns-in-Some
returns-in-Some c =
    let bs = c.self.inside.bytes.now in
    let n = c.in-Some.number in
    let known = rw c.in-Some.is at c.self.invariant in
    let whole = natural-integer bs n known.0 in
    let no_word = integer-no_word bs (pos n) whole in
    let same = to_z_pos w64 n (omega (arith, known.1)) in
    subst (λ l. IsEntry l (entries.Number (to_z w64 n))) c.self.view_is (
      whole ∙ ap Some (sym same),
      ap is_some_word no_word,
      ap is_eof_word no_word,
    )
