use Rattle.std.proofs.Common.{◌≡◌, ◌≤◌, Some, length, true, refl, subst}
use Rattle.std.specs.Prelude.{IfSome}
use Rattle.std.proofs.lemmas.Bool.{lt-ltb}
use Rattle.tk_words.specs.declared.fault.TextKind.{TextKind}
use Rattle.tk_words.specs.declared.fault.TextKind.TheVariants as kinds
use Rattle.tk_words.specs.declared.keyword.Keyword.TheVariants as words
use Rattle.tk_words.specs.Lex.{trim, after_word}
use Rattle.tk_lines.specs.Pieces.{has, first_at, Fault}
use Rattle.tk_problem_text.specs.Problem.{problem_header}
use Rattle.std.proofs.lemmas.Result.{IfOk-weaker, IfErr-weaker}
use Rattle.tk_lines.proofs.Pieces.ReportedFaults.{reported_word}
use Rattle.tk_problem_text.proofs.KeptHeaders.{short}
use Rattle.tk_problem_text.proofs.headers.Headers.take_name.Goals as goal

pub returns-in-None-clause-err : goal.returns-in-None-clause-err
returns-in-None-clause-err c = λ ps v n h s. rw (lt-ltb _ _ (c.name.ensures.long v s c.in-None.is)) refl

pub returns-in-Some-clause-ok : goal.returns-in-Some-clause-ok
returns-in-Some-clause-ok c = λ ps v n h s.
    let name = subst (λ o. IfSome o (λ x. (x.now ≡ trim (after_word v)) × (length x.now ≤ 1024))) c.in-Some.is
    (c.name.ensures.name v s) in
    IfOk-weaker c.keep_name.result _ _ (λ _ p. (p.0, rw (short v c.in-Some.name.now name.0 name.1, p.1) refl))
    (c.keep_name.ensures.ok ps v n h name.0 name.1)

pub returns-in-Some-clause-err : goal.returns-in-Some-clause-err
returns-in-Some-clause-err c = λ ps v n h s.
    let name = subst (λ o. IfSome o (λ x. (x.now ≡ trim (after_word v)) × (length x.now ≤ 1024))) c.in-Some.is
    (c.name.ensures.name v s) in
    let is_short = short v c.in-Some.name.now name.0 name.1 in
    let P : TextKind → Type 0 = λ k. (k ≡ kinds.Repeated) × (has words.Name ps ≡ true) in
    let Q : TextKind → Type 0 = λ k. first_at n (problem_header ps words.Name v) ≡ Some (Fault n k) in
    IfErr-weaker c.keep_name.result _ _ (λ k. reported_word P Q k (λ p. rw (is_short, p.1, p.0) refl))
    (c.keep_name.ensures.err ps h)
