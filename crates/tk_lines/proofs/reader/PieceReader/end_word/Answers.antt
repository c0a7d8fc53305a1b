use Rattle.std.proofs.Common.{◌≡◌, [], refl, sym, ap, ◌∙◌, List, Some, arith}
use Rattle.tk_words.specs.Lex.{Token}
use Rattle.tk_words.specs.Words as words
use Rattle.tk_lines.specs.Pieces.{After, Fault}
use Rattle.tk_lines.specs.declared.line_state.LineState.TheVariants as places
use Rattle.tk_lines.specs.Reader.Places.{DecidesIf}
use Rattle.tk_lines.proofs.KnownStates.{at_place, reported_word}
use Rattle.tk_lines.proofs.LineSteps.{word_unknown, word_eof_ok, word_eof_err, word_section, word_tail}
use Rattle.tk_lines.proofs.reader.PieceReader.end_word.Goals as goal

pub returns-in-None-clause-closed : goal.returns-in-None-clause-closed
returns-in-None-clause-closed g c = λ next before within fed.
    let at = at_place places.Word c.requires.place fed in
    rw c.fault.ensures
    (word_unknown _ _ _ _ _ _ _ within at.0 at.1 (sym (c.in-None.ensures ∙ ap words.keyword_of c.as_slice.ensures)))

pub returns-in-None-end-clause-closed : goal.returns-in-None-end-clause-closed
returns-in-None-end-clause-closed g c = λ next before within fed.
    let at = at_place places.Word c.requires.place fed in
    let value = c.in-None-end.ensures.value at.1.before at.1.holds refl in (
      word_eof_ok _ _ _ _ _ _ _ within at.0 at.1 c.in-Some.word
          (sym (c.in-Some.ensures ∙ ap words.keyword_of c.as_slice.ensures)) (sym c.in-EndsText.ensures)
          value.0 _ value.1,
      c.in-None-end.ensures.complete at.1.before at.1.holds refl,
    )

pub returns-in-Some-end-clause-closed : goal.returns-in-Some-end-clause-closed
returns-in-Some-end-clause-closed g c = λ next before within fed.
    let at = at_place places.Word c.requires.place fed in
    rw c.fault-in-Some-end.ensures
    (reported_word (λ k. g.F.Handler.promise.format.at_end at.1.before ≡ Some k)
    (DecidesIf g.F.Handler.promise.format next before) c.args.self.now.line c.in-Some-end.kind
    (c.in-Some-end.ensures.fault at.1.before at.1.holds)
    (word_eof_err _ _ _ _ _ _ _ within at.0 at.1 c.in-Some.word
    (sym (c.in-Some.ensures ∙ ap words.keyword_of c.as_slice.ensures)) (sym c.in-EndsText.ensures)
    c.in-Some-end.kind))

pub returns-in-Err-clause-closed : goal.returns-in-Err-clause-closed
returns-in-Err-clause-closed g c = λ next before within fed.
    let at = at_place places.Word c.requires.place fed in
    rw c.fault-in-Err.ensures
    (reported_word (λ k. (toks : List Token) (after : After) →
    g.F.Handler.promise.format.section at.1.before c.in-Some.word c.args.self.now.line toks after ≡ Some
    (Fault c.args.self.now.line k))
    (DecidesIf g.F.Handler.promise.format next before) c.args.self.now.line c.in-Err.kind
    (c.in-Err.ensures.err at.1.before c.args.self.now.line at.1.holds)
    (word_section _ _ _ _ _ _ _ within at.0 at.1 c.in-Some.word c.in-Err.kind
    (sym (c.in-Some.ensures ∙ ap words.keyword_of c.as_slice.ensures)) (sym c.in-BeginsSection.ensures)))

pub returns-in-Ok-clause-closed : goal.returns-in-Ok-clause-closed
returns-in-Ok-clause-closed g c = λ next before within fed.
    let at = at_place places.Word c.requires.place fed in
    let taken = c.in-Ok.ensures.ok at.1.before c.args.self.now.line at.1.holds in
    record {
      line = fed.line;
      at = record {
        word = c.in-Some.word;
        before = at.1.before;
        tail = [];
        at = word_tail _ _ _ _ _ _ _ within at.0 at.1 c.in-Some.word
            (sym (c.in-Some.ensures ∙ ap words.keyword_of c.as_slice.ensures));
        section = sym c.in-BeginsSection.ensures;
        wants = taken.0;
        goes = taken.1;
        blank = refl;
      };
    }

pub returns-in-BeginsHeader-clause-closed : goal.returns-in-BeginsHeader-clause-closed
returns-in-BeginsHeader-clause-closed g c = λ next before within fed.
    let at = at_place places.Word c.requires.place fed in
    record {
      line = fed.line;
      at = record {
        before = at.1.before;
        tail = [];
        at = word_tail _ _ _ _ _ _ _ within at.0 at.1 c.in-Some.word
            (sym (c.in-Some.ensures ∙ ap words.keyword_of c.as_slice.ensures));
        header = sym c.in-BeginsHeader.ensures;
        holds = at.1.holds;
        scans = c.clear.ensures;
        short = omega arith;
      };
    }
