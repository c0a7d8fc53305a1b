use Rattle.std.proofs.Common.{subst, sym, ◌∙◌, true, ◌++◌}
use Rattle.std.proofs.lemmas.Bool.{false≢true}
use Rattle.tk_problem_text.specs.Reader.OpenSections.{IsOpen, IsPast}
use Rattle.tk_lines.specs.Reader.Handlers.{a_section}
use Rattle.tk_lines.specs.Pieces.{Early}
use Rattle.tk_problem_text.proofs.ProblemHandlers.{home_past, early_stop, not_home}
use Rattle.tk_problem_text.proofs.sections.open_section.OpenSection.may_end.Goals as goal

pub returns-in-Home-clause-yes : goal.returns-in-Home-clause-yes
returns-in-Home-clause-yes c = λ some before word n toks line is.
    let past =
    home_past before word n toks c.in-Home.section line (subst (λ s. IsOpen before word n toks s) c.in-Home.is is)
    (sym c.is_some.ensures ∙ some) in (
      subst (λ s. IsPast before word n s (before ++ a_section word n toks (Early line true))) (sym c.in-Home.is)
          past.0,
      past.1,
    )

pub returns-in_default : goal.returns-in_default
returns-in_default c = record {
  yes = λ e before word n toks line is. absurd (false≢true e);
  no = λ e before word n toks line is. early_stop before word n toks c.args.self.now line is
      (not_home c.args.self.now c.in_default.not-Home);
}
