use Rattle.std.proofs.Common.{◌++◌, [], List, refl, sym, ap, ◌∙◌, arith}
use Rattle.tk_words.specs.Lex.{Token}
use Rattle.tk_lists.specs.Solution.{Route, Cost}
use Rattle.tk_lists.specs.Reader.SolutionReader.{line_from, rest_of}
use Rattle.tk_lists.specs.declared.solution_reader.LinePlace.TheVariants as places
use Rattle.tk_lines.proofs.Sections.MiddleOfSection.{tokens_of-gap}
use Rattle.tk_lists.proofs.SolutionEnds.{close_stops}
use Rattle.tk_lists.proofs.SolutionSteps.{err_same}
use Rattle.tk_lists.proofs.solution_reader.SolutionReader.feed_line.Goals as goal

pub returns-else-blank-clause-err : goal.returns-else-blank-clause-err
returns-else-blank-clause-err c = λ before toks stands.
    let n = c.args.self.now.line in
    let solid = sym c.blank.ensures ∙ c.if-blank.false in
    err_same before n c.args.byte (line_from n c.clear.new.self [] places.Word) (rest_of c.args.self.now toks)
    (λ bs w. rw (c.in-Start.is, c.clear.ensures, solid) refl) c.feed_word.result
    (c.feed_word.ensures.err before (rw c.in-Start.is at stands).1)

pub returns-then-not-blank-clause-ok : goal.returns-then-not-blank-clause-ok
returns-then-not-blank-clause-ok c = λ before toks stands.
    let at = rw c.in-Gap.is at stands in
    record {
      toks = toks;
      stands = rw (
        c.begin_token.ensures.kept.1,
        c.begin_token.ensures.kept.0,
        c.begin_token.ensures.begun.0,
        c.begin_token.ensures.begun.1,
      ) (at.0, at.1, ((sym c.blank-in-Gap.ensures ∙ c.if-not-blank.true), omega arith));
      same =
          rw (c.in-Gap.is, c.begin_token.ensures.kept.0, c.begin_token.ensures.begun.0, c.begin_token.ensures.begun.1)
          (λ bs w. refl);
    }

pub returns-else-not-blank-clause-ok : goal.returns-else-not-blank-clause-ok
returns-else-not-blank-clause-ok c = λ before toks stands.
    record {
      toks = toks;
      stands = stands;
      same =
          rw c.in-Gap.is
          (λ bs w. ap (λ (ts : List Token). Route (toks ++ ts))
          (tokens_of-gap w c.args.self.now.line c.args.byte bs (sym c.blank-in-Gap.ensures ∙ c.if-not-blank.false)));
    }

pub returns-in-Digits-clause-ok : goal.returns-in-Digits-clause-ok
returns-in-Digits-clause-ok c =
    λ before toks stands. rw c.in-Digits.is (c.feed_digits.ensures.ok before toks (rw c.in-Digits.is at stands))

pub returns-in-Digits-clause-err : goal.returns-in-Digits-clause-err
returns-in-Digits-clause-err c =
    λ before toks stands. rw c.in-Digits.is (c.feed_digits.ensures.err before toks (rw c.in-Digits.is at stands))

pub returns-then-blank-2-clause-ok : goal.returns-then-blank-2-clause-ok
returns-then-blank-2-clause-ok c = λ before toks stands.
    record {
      toks = toks;
      stands = stands;
      same =
          rw c.in-Close.is
          (λ bs w. ap (λ (ts : List Token). Cost (toks ++ ts))
          (tokens_of-gap w c.args.self.now.line c.args.byte bs (sym c.blank-in-Close.ensures ∙ c.if-blank-2.true)));
    }

pub returns-else-blank-2-clause-err : goal.returns-else-blank-2-clause-err
returns-else-blank-2-clause-err c = λ before toks stands.
    rw c.in-Close.is (close_stops c.args.self.now.form before c.args.self.now.held c.args.self.now.line toks c.args.byte
    (sym c.blank-in-Close.ensures ∙ c.if-blank-2.false) (rw c.in-Close.is at stands))
