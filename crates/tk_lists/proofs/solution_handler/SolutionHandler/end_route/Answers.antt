use Rattle.std.proofs.Common.{refl}
use Rattle.std.proofs.lemmas.List.{map-append}
use Rattle.tk_lists.proofs.SolutionLines.{keeps_route}
use Rattle.tk_lists.proofs.solution_handler.SolutionHandler.end_route.Goals as goal

pub returns-clause-ok : goal.returns-clause-ok
returns-clause-ok c = λ before toks k may. keeps_route c.args.self.now _ before toks k may.priced
    (rw (c.in-Ok.ensures.items, c.replace-route.ensures.value) (map-append _ c.args.self.now.routes.items _))
    (rw c.replace-route.ensures.after c.new.ensures.items) refl refl refl
