use Rattle.std.proofs.Common.{◌≡◌, ◌∙◌, None, ap, refl, rules}
use Rattle.std.specs.Prelude.{option_map}
use Rattle.tk_engines.specs.Engine.{WritesNothing}
use Rattle.tk_engines.specs.declared.fault.Fault.TheVariants.{NotForType}
use Rattle.tk_engines.proofs.EngineEnds.{second_reached, second_read}
use Rattle.tk_engines.proofs.SolveEnds.{searched_ends}
use Rattle.tk_engines.proofs.engines.search.search_from.Goals as goal

pub returns-in-Some-clause-ends : goal.returns-in-Some-clause-ends
returns-in-Some-clause-ends g c = λ misfit is.
    record { problem = _; is_problem = refl; misfit = is ∙ ap (option_map NotForType) c.in-Some.is }

pub returns : goal.returns
returns g c =
    let fits : c.args.unfit ≡ None = search rules in
    let searched = c.search_problem.ensures in
    let r = c.search_problem.result in
    record {
      ends = λ misfit is. second_read _ _ _ WritesNothing _ c.in_ok-tour.ensures.ok r
          (searched_ends misfit _ _ _ _ (is ∙ ap (option_map NotForType) fits) r searched.together searched.found
          searched.err);
      unread = second_reached _ _ _ WritesNothing _ refl r
          (searched_ends (λ _. None) _ _ _ _ refl r searched.together searched.found searched.err);
      unwatched = searched.unwatched;
    }

pub returns-in-Some-clause-unwatched : goal.returns-in-Some-clause-unwatched
returns-in-Some-clause-unwatched = search rules
