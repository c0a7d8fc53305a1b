use Rattle.std.proofs.Common.{◌++◌, ℕ, List, subst, sym, Err, Ok, arith}
use Rattle.tk_lines.specs.declared.line_state.Flow.TheVariants.{Whole}
use Rattle.tk_lines.specs.Reader.Places.{anything, Fed}
use Rattle.tk_lines.specs.Reader.Steps.{HasCome}
use Rattle.tk_lines.proofs.Endings.ReaderEnds.{fed_waits}
use Rattle.tk_lines.proofs.FirstOfBytes.{none_taken, reported_run, whole_run}
use Rattle.tk_words.proofs.FirstBytes.{first_byte, line_short}
use Rattle.tk_lines.proofs.finish.PieceReaderTextReader.feed.Goals as goal

pub returns-in-Err : goal.returns-in-Err
returns-in-Err g c = λ before waits.
    reported_run g.F.Handler.promise c.feed_tokens.new.self before c.args.bytes.now c.in-Err.fault
    (c.in-Err.ensures before waits.fed)

pub returns-in-Ok-Done : goal.returns-in-Ok-Done
returns-in-Ok-Done g c = λ before waits.
    whole_run g.F.Handler.promise c.feed_tokens.new.self before c.args.bytes.now
    (rw c.in-Ok-Done.field-0-is at (c.in-Ok-Done.ensures before waits.fed))

pub returns-in-Ok-Taken : goal.returns-in-Ok-Taken
returns-in-Ok-Taken g c = λ before waits.
    let taken = rw c.in-Ok-Taken.field-0-is at (c.in-Ok-Taken.ensures before waits.fed) in
    (omega (arith, c.in-Ok-Taken.count-test), taken.0, fed_waits taken.1)

pub feed_byte-requires-clause-known : goal.feed_byte-requires-clause-known
feed_byte-requires-clause-known g c =
    let before = c.requires.room.0 in
    let taken = rw c.in-Ok-Taken-eq0.field-0-is at (c.in-Ok-Taken-eq0.ensures before c.requires.room.1.fed) in
    let first = c.in-Ok-Taken-eq0.field-0-0 in
    (before, none_taken _ _ before c.args.bytes.now first c.in-Ok-Taken-eq0.field-0-0-test taken.1)

pub feed_byte-requires-clause-room : goal.feed_byte-requires-clause-room
feed_byte-requires-clause-room g c =
    let before = c.requires.room.0 in
    let taken = rw c.in-Ok-Taken-eq0.field-0-is at (c.in-Ok-Taken-eq0.ensures before c.requires.room.1.fed) in
    let first = c.in-Ok-Taken-eq0.field-0-0 in
    let now = none_taken _ _ before c.args.bytes.now first c.in-Ok-Taken-eq0.field-0-0-test taken.1 in
    omega (arith, now.line, line_short before, c.requires.some, c.requires.room.2)

pub returns-in-Err-feed_byte : goal.returns-in-Err-feed_byte
returns-in-Err-feed_byte g c = λ before waits.
    let taken = rw c.in-Ok-Taken-eq0.field-0-is at (c.in-Ok-Taken-eq0.ensures before waits.fed) in
    let first = c.in-Ok-Taken-eq0.field-0-0 in
    let fed = none_taken _ _ before c.args.bytes.now first c.in-Ok-Taken-eq0.field-0-0-test taken.1 in
    let f = c.in-Err-feed_byte.fault in
    reported_run g.F.Handler.promise c.feed_byte.new.self before c.args.bytes.now f (
      1,
      c.requires.some,
      subst (λ (l : List ℕ). HasCome g.F.Handler.promise anything c.feed_byte.new.self (before ++ l) (Err f))
          (sym (first_byte c.args.bytes.now c.requires.some))
          (c.in-Err-feed_byte.ensures before fed),
    )

pub returns-in-Ok-On : goal.returns-in-Ok-On
returns-in-Ok-On g c = λ before waits.
    let taken = rw c.in-Ok-Taken-eq0.field-0-is at (c.in-Ok-Taken-eq0.ensures before waits.fed) in
    let first = c.in-Ok-Taken-eq0.field-0-0 in
    let fed = none_taken _ _ before c.args.bytes.now first c.in-Ok-Taken-eq0.field-0-0-test taken.1 in
    let now = rw c.in-Ok-On.field-0-is at (c.in-Ok-On.ensures before fed) in (
      omega arith,
      c.requires.some,
      fed_waits
          (subst (λ (l : List ℕ). Fed g.F.Handler.promise anything c.feed_byte.new.self (before ++ l))
          (sym (first_byte c.args.bytes.now c.requires.some)) now),
    )

pub returns-in-Ok-Whole : goal.returns-in-Ok-Whole
returns-in-Ok-Whole g c = λ before waits.
    let taken = rw c.in-Ok-Taken-eq0.field-0-is at (c.in-Ok-Taken-eq0.ensures before waits.fed) in
    let first = c.in-Ok-Taken-eq0.field-0-0 in
    let fed = none_taken _ _ before c.args.bytes.now first c.in-Ok-Taken-eq0.field-0-0-test taken.1 in
    let now = rw c.in-Ok-Whole.field-0-is at (c.in-Ok-Whole.ensures before fed) in
    whole_run g.F.Handler.promise c.feed_byte.new.self before c.args.bytes.now (
      1,
      c.requires.some,
      subst (λ (l : List ℕ). HasCome g.F.Handler.promise anything c.feed_byte.new.self (before ++ l) (Ok Whole))
          (sym (first_byte c.args.bytes.now c.requires.some)) now,
    )
