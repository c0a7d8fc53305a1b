use Rattle.std.proofs.Common.{sym, ap, ◌∙◌, rules, SFits, w64, Some, ℤ}
use Rattle.std.proofs.lemmas.Int.{to_z-of_z}
use Rattle.tk_words.specs.Entry.{is_some_word, is_eof_word}
use Rattle.tk_words.proofs.NoWord.{integer-no_word}
use Rattle.tk_words.proofs.numbers.entries.entry_of.Goals as goal

pub returns-in-Some : goal.returns-in-Some
returns-in-Some c =
    let is = sym c.integer.ensures ∙ c.in-Some.is in
    let none = integer-no_word c.args.bytes.now c.in-Some.number is in
    let f : SFits w64 c.in-Some.number = search rules in
    (is ∙ ap (λ (z : ℤ). Some z) (sym (to_z-of_z w64 c.in-Some.number f)), ap is_some_word none, ap is_eof_word none)
