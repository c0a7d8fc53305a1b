use Rattle.std.proofs.Common.{arith, sym}
use Rattle.tk_engines.specs.Solve.{settings_task, start_misfit}
use Rattle.tk_params.specs.SearchOf.{search_is}
use Rattle.tk_for_c.proofs.SearchAnswers.{tour_end}
use Rattle.tk_for_c.proofs.search.tourkit_search.Goals as goal

pub returns : goal.returns
returns c =
    let given = c.args.options.now.from_tour in
    let end = tour_end (settings_task given (search_is c.in-Some.settings)) (start_misfit given) given 1 (omega arith)
    c.args.problem.now c.args.initial.now c.answer_of.result c.solved-solved.result c.solved-solved.ensures.ok
    c.solved-solved.ensures.err c.answer_of.ensures.given c.answer_of.ensures.stopped in
    record {
      given = rw (sym c.in-Some.ensures.some) end.given;
      known = end.known;
      refused = λ two _. end.refused two;
      outside = λ none. absurd (none c.in-Some.ensures.fits);
      memory = end.memory;
      message = end.message;
      kept = end.kept;
    }
