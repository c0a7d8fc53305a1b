use Rattle.std.proofs.Common.{◌∙◌, ap, subst}
use Rattle.tk_engines.specs.Requested.{SearchIs}
use Rattle.tk_params.specs.SearchOf.{search_is}
use Rattle.tk_for_c.proofs.SearchAnswers.{routes_end}
use Rattle.tk_for_c.proofs.solve_routes.tourkit_solve_routes.Goals as goal
use Rattle.tk_for_c.specs.Searches.{IsInRange, settings_of}
use Rattle.tk_for_c.specs.SolvedRoutes.{AreSolvedBy}

pub returns : goal.returns
returns c =
    let from = c.args.options.now.from_solution in
    let end = routes_end (search_is c.in-Some.settings) from c.args.problem.now c.args.initial.now c.answer_of.result
    c.solved-solved.result c.solved-solved.ensures.ok c.solved-solved.ensures.err c.answer_of.ensures.given
    c.answer_of.ensures.stopped in
    let is = c.in-Some.ensures.some ∙ ap settings_of c.as_search.ensures in
    record {
      given = λ few. let h = end.given few in (
        h.0,
        subst (λ (s : SearchIs). AreSolvedBy s from c.args.problem.now c.args.initial.now h.0) is h.1,
        h.2,
      );
      known = end.known;
      refused = λ two _. end.refused two;
      outside = λ none. absurd (none (subst IsInRange c.as_search.ensures c.in-Some.ensures.fits));
      memory = end.memory;
      message = end.message;
      kept = end.kept;
    }
