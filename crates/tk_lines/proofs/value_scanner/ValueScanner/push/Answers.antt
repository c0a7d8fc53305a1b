use Rattle.std.proofs.Common.{◌∷◌, [], ◌++◌, sym, subst, ◌∙◌}
use Rattle.std.proofs.lemmas.Bool.{ne_eqb}
use Rattle.tk_lines.specs.Reader.ValueScanner.{Scans}
use Rattle.tk_lines.proofs.Headers.HeaderBytes.{before_blank, before_colon, before_first, behind_blank, behind_first}
use Rattle.tk_lines.proofs.Headers.HeaderBytes.{first_blank, first_more, first_full, rest_blank, rest_solid}
use Rattle.tk_lines.proofs.value_scanner.ValueScanner.push.Goals as goal

pub returns-then-blank : goal.returns-then-blank
returns-then-blank c = λ v h. before_blank c.args.self.now v c.args.byte h c.in-Before.is (sym c.blank.ensures
    ∙ c.if-blank.true)

pub returns-then-byte-eq58 : goal.returns-then-byte-eq58
returns-then-byte-eq58 c = λ v h. before_colon c.args.self.now v c.args.byte h c.in-Before.is c.if-byte-eq58.true

pub returns-then-blank-2 : goal.returns-then-blank-2
returns-then-blank-2 c =
    λ v h. behind_blank c.args.self.now v c.args.byte h c.in-Behind.is (sym c.blank-in-Behind.ensures
    ∙ c.if-blank-2.true)

pub returns-then-blank-3 : goal.returns-then-blank-3
returns-then-blank-3 c =
    λ v h. rw c.keep.ensures
    (first_blank c.args.self.now v c.args.byte h c.in-First.is (sym c.blank-in-First.ensures ∙ c.if-blank-3.true))

pub returns-then-is_full : goal.returns-then-is_full
returns-then-is_full c =
    λ v h. rw c.keep.ensures
    (first_full c.args.self.now v c.args.byte h c.in-First.is (sym c.blank-in-First.ensures ∙ c.if-blank-3.false)
    (c.is_full.ensures.full c.if-is_full.true))

pub returns-then-blank-4 : goal.returns-then-blank-4
returns-then-blank-4 c =
    λ v h. rw c.keep-in-Rest.ensures
    (rest_blank c.args.self.now v c.args.byte h c.in-Rest.is (sym c.blank-in-Rest.ensures ∙ c.if-blank-4.true))

pub returns-else-byte-eq58 : goal.returns-else-byte-eq58
returns-else-byte-eq58 c =
    λ v h. subst (λ s. Scans s (v ++ c.args.byte ∷ [])) (sym c.begin.ensures)
    (before_first c.args.self.now v c.args.byte h c.in-Before.is (sym c.blank.ensures ∙ c.if-blank.false)
    (ne_eqb _ _ c.if-byte-eq58.false))

pub returns-else-blank-2 : goal.returns-else-blank-2
returns-else-blank-2 c = λ v h. subst (λ s. Scans s (v ++ c.args.byte ∷ [])) (sym c.begin-in-Behind.ensures)
    (behind_first c.args.self.now v c.args.byte h c.in-Behind.is (sym c.blank-in-Behind.ensures ∙ c.if-blank-2.false))

pub returns-else-is_full : goal.returns-else-is_full
returns-else-is_full c =
    λ v h. rw (c.push.ensures, c.keep.ensures)
    (first_more c.args.self.now v c.args.byte h c.in-First.is (sym c.blank-in-First.ensures ∙ c.if-blank-3.false)
    (c.is_full.ensures.not_full c.if-is_full.false))

pub returns-else-blank-4 : goal.returns-else-blank-4
returns-else-blank-4 c =
    λ v h. rw c.keep-in-Rest.ensures
    (rest_solid c.args.self.now v c.args.byte h c.in-Rest.is (sym c.blank-in-Rest.ensures ∙ c.if-blank-4.false))
