use Rattle.std.proofs.Common.{◌∙◌, ◌∷◌, [], ◌++◌, ap, sym, subst}
use Rattle.tk_words.specs.Texts.{Decides}
use Rattle.tk_params.specs.Params.{spells_eof, params_texts}
use Rattle.tk_params.proofs.ReaderBytes.{eof_ends, missing_at_end, whole_at_end}
use Rattle.tk_params.proofs.reader.ParamReader.feed_byte.Goals as goal

pub returns-then-not-names : goal.returns-then-not-names
returns-then-not-names c = λ before fed.
    let s = c.args.self.now in
    rw c.fault.ensures
    (subst (Decides params_texts (before ++ c.args.byte ∷ []))
    (missing_at_end s (sym c.names.ensures ∙ c.if-not-names.true))
    (eof_ends s before fed c.args.byte
    (ap spells_eof (sym c.deref.ensures.value) ∙ sym c.spelled.ensures ∙ c.if-spelled.true)
    (sym c.word_byte.ensures ∙ c.if-not-word_byte.true)))

pub returns-then-spelled : goal.returns-then-spelled
returns-then-spelled c = λ before fed.
    let s = c.args.self.now in
    let whole = whole_at_end s (sym c.names.ensures ∙ c.if-not-names.false) in (
      subst (Decides params_texts (before ++ c.args.byte ∷ [])) whole.0
          (eof_ends s before fed c.args.byte
          (ap spells_eof (sym c.deref.ensures.value) ∙ sym c.spelled.ensures ∙ c.if-spelled.true)
          (sym c.word_byte.ensures ∙ c.if-not-word_byte.true)),
      whole.1,
    )
