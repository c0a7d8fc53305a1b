use Rattle.std.proofs.lemmas.Int.{to_z-of_z}
use Rattle.std.proofs.Common.{◌≡◌, rules, Some, ap, w64, to_z, of_z, SFits, [], ◌∷◌, ◌++◌, refl, sym, ◌∙◌}
use Rattle.std.proofs.lemmas.Result.{err_from_is_err_and}
use Rattle.tk_words.specs.Lex.{integer}
use Rattle.tk_lines.specs.Reader.Handlers.{whole}
use Rattle.tk_problem_text.proofs.SectionTokens.WeightTokens.{is_last, is_more}
use Rattle.tk_problem_text.proofs.sections.explicit_weights.ExplicitWeights.take.Goals as goal
use Rattle.tk_problem_text.proofs.sections.explicit_weights.ExplicitWeights.take.Goals.{In-Some}

number_is : (c : In-Some) → integer c.args.token.now ≡ Some (to_z w64 (of_z w64 c.in-Some.number))
number_is c =
    let fits : SFits w64 c.in-Some.number = search rules in
    sym c.in-Some.ensures ∙ ap Some (sym (to_z-of_z w64 c.in-Some.number fits))

pub returns-in_err-put-clause-err : goal.returns-in_err-put-clause-err
returns-in_err-put-clause-err c = λ n f toks line has.
    let p = err_from_is_err_and c.from_residual.result c.from_residual.ensures.1 in
    rw (p.1, p.2)
    (c.in_err-put.ensures.err n f toks (whole c.args.token.now line) has
    (number_is (goal.at.returns-in_err-put-clause-err c).In-Some))

pub returns-then-is_done-2-clause-ok : goal.returns-then-is_done-2-clause-ok
returns-then-is_done-2-clause-ok c = λ n f toks line has fewer.
    let t = whole c.args.token.now line in
    let number = number_is (goal.at.returns-then-is_done-2-clause-ok c).In-Some in
    let next = c.in_ok-put.ensures.ok n f toks t has number in (
      next.0,
      next.1,
      is_last n f c.put.new.self (toks ++ t ∷ []) next.1 toks t refl fewer (sym c.is_done-2.ensures
          ∙ c.if-is_done-2.true),
    )

pub returns-clause-ok : goal.returns-clause-ok
returns-clause-ok c = λ n f toks line has fewer.
    let t = whole c.args.token.now line in
    let next = c.in_ok-put.ensures.ok n f toks t has (number_is (goal.at.returns-clause-ok c).In-Some) in (
      next.0,
      next.1,
      is_more n f c.put.new.self (toks ++ t ∷ []) next.1 toks t refl (sym c.is_done-2.ensures
          ∙ c.if-is_done-2.false),
    )
