use Rattle.std.proofs.Common.{◌≡◌, true, false, ltb, Some, sym, refl, ◌∙◌}
use Rattle.std.proofs.lemmas.Bool.{le-ltb}
use Rattle.tk_problem.specs.declared.limits.TheConstants.{TABLE_LIMIT}
use denote.Enum.Bare.{sameb}
use Rattle.tk_problem_text.specs.contracts.header_values.ProblemType.{the_type}
use Rattle.tk_problem_text.specs.declared.header_values.ProblemType.{ProblemType}
use Rattle.tk_problem_text.specs.declared.header_values.ProblemType.TheVariants.{Tsp, Cvrp}
use Rattle.tk_problem_text.specs.Problem.{is_cvrp}
use Rattle.tk_problem_text.proofs.sections.begin.begin_loads.Goals as goal

a_cvrp : (p : ProblemType) → sameb the_type p Tsp ≡ false → is_cvrp (Some p) ≡ true
a_cvrp Tsp other = absurd cc
a_cvrp Cvrp other = refl

pub returns-clause-ok : goal.returns-clause-ok
returns-clause-ok c = λ before typed sized.
    let few : ltb TABLE_LIMIT c.args.size ≡ false = le-ltb TABLE_LIMIT c.args.size c.if-size-gt-TABLE_LIMIT.false in
    record {
      tests = λ n. rw (typed, a_cvrp c.args.problem_type (sym c.eq.ensures ∙ c.if-eq.false), sized, few) refl;
      untouched = rw sized (refl, c.in_ok-new.ensures.ok, c.if-size-gt-TABLE_LIMIT.false);
    }
