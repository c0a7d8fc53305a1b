use Rattle.std.proofs.Common.{ap, Some}
use Rattle.tk_writers.specs.Puts.{Writes}
use Rattle.tk_for_c.proofs.InMemory.{to_memory}
use Rattle.tk_for_c.proofs.EngineStops.{solution_stop, stop_of}
use Rattle.tk_for_c.proofs.check.routes_checked.Goals as goal
use Rattle.tk_for_c.specs.Answers.{NeverClashes}

pub returns-in-Err-clause-err : goal.returns-in-Err-clause-err
returns-in-Err-clause-err c =
    stop_of _ NeverClashes _ _ _ _ _ _ (ap (λ v. Some v.now) c.new-problem.ensures.inner) _
    (Writes to_memory c.new-text.result c.route_check_engine.new.out)
    (λ p v said fits h.
    solution_stop _ NeverClashes _ _ _ p said fits _ _ _ _
    (ap (λ v. Some v.now) c.new-solution.ensures.inner) v (λ f has. has) h)
    (λ p b f read clash. absurd cc) c.in-Err.fault c.in-Err.ensures.ends
