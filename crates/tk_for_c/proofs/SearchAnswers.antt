-- The answers to calls of searches.
use Rattle.std.proofs.Common.{◌≡◌, ◌≤◌, ℕ, ◌+◌, Bool, List, Option, Result, Ok, Err, IfOk, ap, arith, refl}
use Rattle.std.specs.Prelude.{IfErr}
use Rattle.std.specs.Global.{Vec}
use Rattle.tk_text.specs.Problem.{ProblemIs}
use Rattle.tk_text.specs.Solution.{solution_texts}
use Rattle.tk_text.specs.Tour.{tour_texts}
use Rattle.tk_engines.specs.Engine.{Task}
use Rattle.tk_engines.specs.Requested.{SearchIs}
use Rattle.tk_engines.specs.RouteCheck.{without_routing}
use Rattle.tk_solve.specs.Events.{Event}
use Rattle.tk_engines.specs.Solve.{Files, IsInitial}
use Rattle.tk_engines.specs.declared.fault.Fault.{Fault}
use Rattle.tk_for_c.proofs.Refusals.{faulty, right_refusal}
use Rattle.tk_for_c.specs.Answers.{NoFault}
use Rattle.tk_for_c.specs.Outcomes.{fault_answer}
use Rattle.tk_for_c.specs.Searches.{IsEnd, IsSearchRefused, IsStartFault, IsStopped}
use Rattle.tk_for_c.specs.Solved.{IsSolveStop, IsSolvedBy}
use Rattle.tk_for_c.specs.SolvedRoutes.{AreSolvedBy, IsBetweenStop, IsClashOf}
use Rattle.tk_for_c.specs.Texts.{AreWritten}
use Rattle.tk_for_c.specs.declared.answer.Answer.{Answer}

-- how a call ends, by how its search ended
search_end : (first : ℕ) (Solves : Files → Type 0) (Stops : Fault → Type 0) (Refuses : Answer → Type 0)
    (out out' file file' : List ℕ) (answer : Answer)
    → ((v : Fault) → answer.status ≡ 2 → answer ≡ fault_answer first v answer.needed → Stops v → Refuses answer)
    → (r : Result (Vec ℕ × Vec ℕ) Fault)
    → IfOk r (λ t. Solves (record { file = t.0.items; out = t.1.items })) → IfErr r Stops
    → IfOk r (λ t. AreWritten 0 t.1.items out out' t.0.items file file' answer)
    → IfErr r (λ v. IsStopped first v out out' file file' answer)
    → IsEnd Solves Refuses out out' file file' answer
search_end first Solves Stops Refuses out out' file file' answer refuses (Ok t) solves stops written stopped =
    let status : answer.status ≡ 0 = ap (λ (a : Answer). a.status) written.answer_is in
    record {
      given = λ _. (record { file = t.0.items; out = t.1.items }, solves, written);
      known = omega (arith, status);
      refused = λ two. absurd (omega (arith, status, two));
      memory = λ three. absurd (omega (arith, status, three));
      message = λ many. absurd (omega (arith, status, many));
      kept = λ many. absurd (omega (arith, status, many));
    }
search_end first Solves Stops Refuses out out' file file' answer refuses (Err v) solves stops written stopped =
    record {
      given = λ few. absurd (omega (arith, few, stopped.failure.failed));
      known = stopped.failure.known;
      refused = λ two. refuses v two stopped.is stops;
      memory = stopped.failure.memory;
      message = λ _. stopped.message;
      kept = λ _. stopped.kept;
    }

-- the same if the search starts from an initial tour or constructed tours
pub tour_end : (task : (List Event → Type 0) → Task (Option (List ℕ)) (Unit {0}) Files)
    (misfit : ProblemIs → Option Fault) (given : Bool) (first : ℕ) → 1 ≤ first → (problem start : List ℕ)
    {out out' file file' : List ℕ} (answer : Answer) (r : Result (Vec ℕ × Vec ℕ) Fault)
    → IfOk r (λ t. IsSolvedBy task given problem start (record { file = t.0.items; out = t.1.items }))
    → IfErr r (IsSolveStop misfit given problem start)
    → IfOk r (λ t. AreWritten 0 t.1.items out out' t.0.items file file' answer)
    → IfErr r (λ v. IsStopped first v out out' file file' answer)
    → IsEnd (IsSolvedBy task given problem start)
    (IsSearchRefused tour_texts misfit IsInitial given first problem start) out out' file file' answer
tour_end task misfit given first some problem start answer =
    search_end first _ _ _ _ _ _ _ answer (λ v two is. right_refusal misfit _ _ first some problem answer
    (IsStartFault tour_texts given start) NoFault two
    (λ q f h said. (h.0, faulty tour_texts (first + 1) start f answer two refl said h.1)) (λ q f h said. elim h [ ])
    v is)

-- the same for a search between routes
pub routes_end : (s : SearchIs) (given : Bool) (problem start : List ℕ) {out out' file file' : List ℕ}
    (answer : Answer) (r : Result (Vec ℕ × Vec ℕ) Fault)
    → IfOk r (λ t. AreSolvedBy s given problem start (record { file = t.0.items; out = t.1.items }))
    → IfErr r (IsBetweenStop given problem start)
    → IfOk r (λ t. AreWritten 0 t.1.items out out' t.0.items file file' answer)
    → IfErr r (λ v. IsStopped 1 v out out' file file' answer)
    → IsEnd (AreSolvedBy s given problem start)
    (IsSearchRefused solution_texts without_routing IsClashOf given 1 problem start) out out' file file' answer
routes_end s given problem start answer =
    search_end 1 _ _ _ _ _ _ _ answer (λ v two is. right_refusal without_routing _ _ 1 (omega arith) problem answer
    NoFault (IsStartFault solution_texts given start) two
    (λ q f h said. elim h [ ]) (λ q f h said. (h.0, faulty solution_texts 2 start f answer two refl said h.1)) v is)
