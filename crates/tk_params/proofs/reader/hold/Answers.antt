use Rattle.std.proofs.Common.{◌∙◌, ap, sym, List, ℕ, eqb, length, true, false}
use Rattle.tk_params.proofs.ReaderBytes.{hold_first, hold_more}
use Rattle.tk_params.proofs.reader.hold.Goals as goal

pub returns-then-not-is_empty : goal.returns-then-not-is_empty
returns-then-not-is_empty c = λ pre e. c.in_ok-push.ensures.items
    ∙ hold_more pre c.args.held.now.items c.args.byte e
    (ap (λ (xs : List ℕ). eqb (length xs) 0) (sym c.as_slice.ensures.value) ∙ sym c.is_empty.ensures
    ∙ c.if-not-is_empty.true)

pub returns-then-blank : goal.returns-then-blank
returns-then-blank c =
    λ pre e. hold_first pre c.args.held.now.items c.args.byte true e
    (ap (λ (xs : List ℕ). eqb (length xs) 0) (sym c.as_slice.ensures.value) ∙ sym c.is_empty.ensures
    ∙ c.if-not-is_empty.false) (sym c.blank.ensures ∙ c.if-blank.true)

pub returns : goal.returns
returns c = λ pre e. c.in_ok-push-2.ensures.items
    ∙ hold_first pre c.args.held.now.items c.args.byte false e
    (ap (λ (xs : List ℕ). eqb (length xs) 0) (sym c.as_slice.ensures.value) ∙ sym c.is_empty.ensures
    ∙ c.if-not-is_empty.false) (sym c.blank.ensures ∙ c.if-blank.false)
