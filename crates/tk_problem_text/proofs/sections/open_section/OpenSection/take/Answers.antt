use Rattle.std.proofs.Common.{◌≡◌, true, false, refl, subst, sym, ap, ◌∙◌}
use Rattle.tk_words.specs.Entry.{is_keyword, is_some_word}
use Rattle.tk_problem_text.specs.Reader.OpenSections.{IsOpen}
use Rattle.tk_problem_text.proofs.SectionTokens.OpenSections.{not_home, keyword_is, at_keyword, home_take, home_refuse}
use Rattle.tk_problem_text.proofs.sections.open_section.OpenSection.take.Goals as goal

pub returns-in-Home-clause-ok : goal.returns-in-Home-clause-ok
returns-in-Home-clause-ok c = λ before word n toks line is_open.
    home_take c.args.token.now c.requires before n toks line c.in-Home.section c.take.result word
    (subst (IsOpen before word n toks) c.in-Home.is is_open) c.take.new.self c.take.ensures.ok

pub returns-in-Home-clause-err : goal.returns-in-Home-clause-err
returns-in-Home-clause-err c = λ before word n toks line is_open.
    home_refuse c.args.token.now c.requires before n toks line c.in-Home.section c.take.result word
    (subst (IsOpen before word n toks) c.in-Home.is is_open) c.take.ensures.err

pub returns-then-is_some : goal.returns-then-is_some
returns-then-is_some c =
    let is : is_keyword c.args.token.now ≡ true = ap is_some_word (sym c.keyword.ensures)
    ∙ keyword_is c.keyword.result true (sym c.is_some.ensures ∙ c.if-is_some.true) in
    record {
      ok = λ before word n toks line is_open. tt;
      kept = refl;
      err = λ before word n toks line is_open. at_keyword c.args.token.now c.requires before n toks line word
          c.args.self.now (not_home before word n toks c.args.self.now c.in_default.not-Home is_open) is is_open;
    }

pub returns : goal.returns
returns c =
    let number : is_keyword c.args.token.now ≡ false = ap is_some_word (sym c.keyword.ensures)
    ∙ keyword_is c.keyword.result false (sym c.is_some.ensures ∙ c.if-is_some.false) in
    record {
      ok = λ before word n toks line is_open. c.take_number.ensures.ok
          (not_home before word n toks c.args.self.now c.in_default.not-Home is_open) number before word n toks line
          is_open;
      err = λ before word n toks line is_open. c.take_number.ensures.err
          (not_home before word n toks c.args.self.now c.in_default.not-Home is_open) number before word n toks line
          is_open;
      kept = c.take_number.ensures.kept;
    }
