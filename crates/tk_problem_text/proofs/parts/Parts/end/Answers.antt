use Rattle.std.proofs.Common.{rules, ◌≡◌, Some, false, subst, ◌∙◌}
use Rattle.std.specs.Prelude.{IfSome, is_none}
use Rattle.tk_words.specs.declared.fault.TextKind.{TextKind}
use Rattle.tk_lines.specs.Reader.Handlers.{IsReportedWord}
use Rattle.tk_problem_text.specs.Problem.{first_kind, weights_ends, routing_ends_of, problem_end}
use Rattle.tk_lines.proofs.Pieces.ReportedFaults.{reported_word}
use Rattle.std.proofs.lemmas.Option.{IfSome_then}
use Rattle.tk_problem_text.proofs.PartEnds.{end_stops, end_goes}
use Rattle.tk_problem_text.proofs.parts.Parts.end.Goals as goal

pub returns-in-Some-clause-fault : goal.returns-in-Some-clause-fault
returns-in-Some-clause-fault c = λ ps k.
    let typed : is_none c.args.self.now.headers.problem_type ≡ false = search rules in
    let sized : is_none c.args.self.now.headers.dimension ≡ false = search rules in
    let P : TextKind → Type 0 = λ x. first_kind (weights_ends ps) ≡ Some x in
    let reported = subst (λ o. IfSome o (IsReportedWord P)) c.in-Some.is (c.weights_end.ensures.fault ps k) in
    reported_word P (λ x. problem_end ps ≡ Some x) c.in-Some.kind
    (end_stops c.args.self.now ps k typed sized c.in-Some.kind) reported

pub returns-in-None-clause-fault : goal.returns-in-None-clause-fault
returns-in-None-clause-fault c = λ ps k.
    let none = c.weights_end.ensures.none ps k c.in-None.is in
    let typed : is_none c.args.self.now.headers.problem_type ≡ false = search rules in
    let sized : is_none c.args.self.now.headers.dimension ≡ false = search rules in
    let P : TextKind → Type 0 = λ x. first_kind (routing_ends_of ps) ≡ Some x in
    IfSome_then c.routing_end.result (c.routing_end.ensures.fault ps k)
    (λ x. reported_word P (λ y. problem_end ps ≡ Some y) x (λ e. end_goes c.args.self.now ps k typed sized none ∙ e))
