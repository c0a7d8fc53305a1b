use Rattle.std.proofs.Common.{◌≡◌, ◌++◌, refl, Some, true}
use Rattle.tk_lines.specs.Pieces.{Early}
use Rattle.tk_lines.specs.Reader.Places.{DecidesIf}
use Rattle.tk_lines.specs.Reader.Handlers.{StopsAt, a_section, whole}
use Rattle.tk_lines.proofs.KnownStates.{reported_word}
use Rattle.tk_lines.proofs.Sections.SectionSteps.{token_more, token_stops, token_eof_ok, token_eof_err, token_last}
use Rattle.tk_lines.proofs.Endings.MinusOneSteps.{token_ending}
use Rattle.tk_lines.proofs.reader.PieceReader.take_token.Goals as goal

pub returns-in-Err-clause-taken : goal.returns-in-Err-clause-taken
returns-in-Err-clause-taken g c = λ next before within run stands.
    let at = stands.at in
    rw c.fault.ensures
    (reported_word (StopsAt g.F.Handler.promise.format at.before at.word at.first at.toks
    (whole c.args.token.now c.args.self.now.line)) (DecidesIf g.F.Handler.promise.format next before)
    c.args.self.now.line
    c.in-Err.kind (c.in-Err.ensures.err at.before at.word at.first at.toks c.args.self.now.line at.wants)
    (token_stops _ _ _ _ _ _ _ within run at c.in-Err.kind))

pub returns-in-Ok-More-clause-taken : goal.returns-in-Ok-More-clause-taken
returns-in-Ok-More-clause-taken g c = λ next before within run stands.
    let at = stands.at in
    let has =
    rw c.in-Ok-More.field-0-is at
    (c.in-Ok-More.ensures.ok at.before at.word at.first at.toks c.args.self.now.line at.wants) in
    record { line = stands.line; at = token_more _ _ _ _ _ _ _ within run at c.token.new.self has.0 has.1 }

pub returns-in-Ok-Last-clause-taken : goal.returns-in-Ok-Last-clause-taken
returns-in-Ok-Last-clause-taken g c = λ next before within run stands.
    let at = stands.at in
    let has =
    rw c.in-Ok-Last.field-0-is at
    (c.in-Ok-Last.ensures.ok at.before at.word at.first at.toks c.args.self.now.line at.wants) in
    record { line = stands.line; at = token_last _ _ _ _ _ _ _ within run at _ c.token.new.self has.0 has.1 }

pub returns-in-Ok-Ending-clause-taken : goal.returns-in-Ok-Ending-clause-taken
returns-in-Ok-Ending-clause-taken g c = λ next before within run stands.
    let at = stands.at in
    let has =
    rw c.in-Ok-Ending.field-0-is at
    (c.in-Ok-Ending.ensures.ok at.before at.word at.first at.toks c.args.self.now.line at.wants) in
    record { line = stands.line; at = token_ending _ _ _ _ _ _ _ within run at _ c.token.new.self has.0 has.1 }

pub returns-in-None-clause-taken : goal.returns-in-None-clause-taken
returns-in-None-clause-taken g c = λ next before within run stands.
    let at = stands.at in
    let has =
    rw c.in-Ok-Eof.field-0-is at
    (c.in-Ok-Eof.ensures.ok at.before at.word at.first at.toks c.args.self.now.line at.wants) in
    let value = c.in-None.ensures.value _ has.0 refl in (
      token_eof_ok _ _ _ _ _ _ _ within run at has.1 value.0 _ value.1,
      c.in-None.ensures.complete _ has.0 refl,
    )

pub returns-in-Some-clause-taken : goal.returns-in-Some-clause-taken
returns-in-Some-clause-taken g c = λ next before within run stands.
    let at = stands.at in
    let has =
    rw c.in-Ok-Eof.field-0-is at
    (c.in-Ok-Eof.ensures.ok at.before at.word at.first at.toks c.args.self.now.line at.wants) in
    rw c.fault-in-Some.ensures
    (reported_word (λ k. g.F.Handler.promise.format.at_end
    (at.before ++ a_section at.word at.first at.toks (Early c.args.self.now.line true)) ≡ Some k)
    (DecidesIf g.F.Handler.promise.format next before) c.args.self.now.line c.in-Some.kind
    (c.in-Some.ensures.fault _ has.0)
    (token_eof_err _ _ _ _ _ _ _ within run at has.1 c.in-Some.kind))
