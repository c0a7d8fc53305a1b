use Rattle.std.proofs.lemmas.Int.{to_z-of_z}
use Rattle.std.proofs.Common.{w64, [], ◌∷◌, ◌++◌, ap, sym, ◌∙◌, subst, Some}
use Rattle.tk_words.specs.Entry.{natural_or_zero}
use Rattle.tk_problem_text.specs.Sections.WeightSection.{weights_in}
use Rattle.tk_problem.specs.WeightsSoFar.{IsSoFar}
use Rattle.tk_problem_text.proofs.SectionTokens.WeightTokens.{more_weights}
use Rattle.tk_problem_text.proofs.sections.explicit_weights.ExplicitWeights.put.Goals as goal

pub returns-clause-ok : goal.returns-clause-ok
returns-clause-ok c = λ n f toks t has is.
    let passed = to_z-of_z w64 c.args.number c.ranges.number in
    let value = ap natural_or_zero (is ∙ ap Some (sym passed ∙ c.in_ok-weight.ensures.is.0)) in (
      c.in_ok-weight.ensures.ok n f toks t has (is ∙ ap Some (sym passed)),
      more_weights n f c.args.self.now toks has c.push.new.self t
          (subst (λ w. IsSoFar c.push.new.self f n (weights_in toks ++ w ∷ [])) (sym value)
          (c.push.ensures f n (weights_in toks) has.so_far)),
    )
