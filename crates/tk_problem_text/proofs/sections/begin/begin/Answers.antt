use Rattle.std.proofs.Common.{List, sym, ◌∙◌, ap, Some}
use Rattle.std.proofs.lemmas.Result.{IfOk-weaker, IfErr-weaker}
use Rattle.tk_lines.specs.Pieces.{Piece}
use Rattle.tk_problem_text.specs.Reader.Parts.{HasParts}
use Rattle.tk_problem_text.proofs.SectionTokens.SectionBegins.{MayBegin, size_is, size_within, known, begun}
use Rattle.tk_problem_text.proofs.SectionTokens.SectionBegins.{reported_word}
use Rattle.tk_problem_text.proofs.sections.begin.begin.Goals as goal
use Rattle.tk_problem_text.proofs.sections.begin.begin.Goals.{In-Some-dimension}

may_begin : (c : In-Some-dimension) (before : List Piece) → HasParts c.args.parts.now before →
    MayBegin c.args.parts.now before c.args.word c.in-Some-problem_type.problem_type c.in-Some-dimension.size
may_begin c before has_parts = record {
  has_parts = has_parts;
  fresh = sym (c.came.ensures before has_parts) ∙ c.in-Some.is ∙ ap Some c.if-came.false;
  typed = c.in-Some-problem_type.is;
  sized = c.in-Some-dimension.is;
}

pub returns-clause-ok : goal.returns-clause-ok
returns-clause-ok c = λ before n has_parts.
    let may = may_begin (goal.at.returns-clause-ok c).In-Some-dimension before has_parts in
    IfOk-weaker c.begin_known.result _ _ (begun may n)
    (c.begin_known.ensures.ok before has_parts may.typed (size_is may) (size_within may).1 (known may))

pub returns-clause-err : goal.returns-clause-err
returns-clause-err c = λ before n has_parts.
    let may = may_begin (goal.at.returns-clause-err c).In-Some-dimension before has_parts in
    IfErr-weaker c.begin_known.result _ _ (reported_word may n)
    (c.begin_known.ensures.err before n has_parts may.typed (size_is may))
