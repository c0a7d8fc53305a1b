use Rattle.std.proofs.lemmas.Grind.{common_steps}
use Rattle.std.proofs.Common.{◌≡◌, ◌+◌, ◌≤◌, ◌++◌, length, take, arith, subst}
use Rattle.tk_words.proofs.DecidedTexts.{part_size, taken_on, decided_within, reported_within, too_long_at}
use Rattle.tk_words.proofs.sources.reading.feed_piece.Goals as goal

pub returns-in-Err-clause-taken : goal.returns-in-Err-clause-taken
returns-in-Err-clause-taken g c = λ before fed len.
    let start = c.loop-start.start in
    let end = c.min-end.result in
    reported_within before c.args.piece.now start end c.loop-start.invariant.within (omega (arith, c.min-end.ensures))
    g.P.TextReader.texts (omega (arith, len, c.min-end.ensures, c.requires.within, c.requires.limit.0))
    c.in-Err.fault
    (c.in-Err.ensures (before ++ take start c.args.piece.now) (c.loop-start.invariant.fed before fed len))

pub returns-in-Ok-Done-clause-taken : goal.returns-in-Ok-Done-clause-taken
returns-in-Ok-Done-clause-taken g c = λ before fed len.
    let start = c.loop-start.start in
    let end = c.min-end.result in
    let reported =
    rw c.in-Ok-Done.field-0-is at
    (c.in-Ok-Done.ensures (before ++ take start c.args.piece.now)
    (c.loop-start.invariant.fed before fed len)) in (
      decided_within before c.args.piece.now start end c.loop-start.invariant.within
          (omega (arith, c.min-end.ensures)) g.P.TextReader.texts
          (omega (arith, len, c.min-end.ensures, c.requires.within, c.requires.limit.0)) _ reported.0,
      reported.1,
    )

pub loop-start-preserved : goal.loop-start-preserved
loop-start-preserved g c =
    let start = c.loop-start.start in
    let end = c.min-end.result in
    let piece = c.args.piece.now in
    let in_piece : end ≤ length piece = omega (arith, c.min-end.ensures) in
    let taken =
    rw c.in-Ok-Taken.field-0-is at (c.in-Ok-Taken.ensures (c.requires.known.0 ++ take start piece)
    (c.loop-start.invariant.fed c.requires.known.0 c.requires.known.1 c.requires.known.2)) in
    record {
      within = omega (
        arith,
        taken.1,
        part_size c.requires.known.0 piece start end c.loop-start.invariant.within in_piece,
        c.loop-start.invariant.within,
      );
      fed = λ before fed len.
          let taken =
          rw c.in-Ok-Taken.field-0-is at (c.in-Ok-Taken.ensures (before ++ take start piece)
          (c.loop-start.invariant.fed before fed len)) in
          subst (g.P.TextReader.fed c.feed.new.self)
          (taken_on before piece start end c.loop-start.invariant.within in_piece c.in-Ok-Taken.count taken.1) taken.2;
    }

pub returns-in-Err-feed-clause-taken : goal.returns-in-Err-feed-clause-taken
returns-in-Err-feed-clause-taken g c = λ before fed len.
    let end = c.min-end.result in
    let is : c.loop-start.start ≡ end = omega (arith, c.loop-start.invariant.within, c.loop-start-test.false) in
    reported_within before c.args.piece.now end (end + 1) (omega arith)
    (omega (arith, c.min-end.ensures, c.if-end-piece.false))
    g.P.TextReader.texts (omega (arith, len, c.min-end.ensures, c.requires.within, c.requires.limit.0))
    c.in-Err-feed.fault
    (c.in-Err-feed.ensures (before ++ take end c.args.piece.now)
    (rw is at (c.loop-start.invariant.fed before fed len)))

pub returns-in-Ok-Done-feed-clause-taken : goal.returns-in-Ok-Done-feed-clause-taken
returns-in-Ok-Done-feed-clause-taken g c = λ before fed len.
    let end = c.min-end.result in
    let is : c.loop-start.start ≡ end = omega (arith, c.loop-start.invariant.within, c.loop-start-test.false) in
    let reported =
    rw c.in-Ok-Done-feed.field-0-is at
    (c.in-Ok-Done-feed.ensures (before ++ take end c.args.piece.now)
    (rw is at (c.loop-start.invariant.fed before fed len))) in (
      decided_within before c.args.piece.now end (end + 1) (omega arith)
          (omega (arith, c.min-end.ensures, c.if-end-piece.false)) g.P.TextReader.texts
          (omega (arith, len, c.min-end.ensures, c.requires.within, c.requires.limit.0)) _ reported.0,
      reported.1,
    )

pub returns-in-Ok-Taken-feed-clause-taken : goal.returns-in-Ok-Taken-feed-clause-taken
returns-in-Ok-Taken-feed-clause-taken g c = λ before fed len.
    let end = c.min-end.result in
    let piece = c.args.piece.now in
    let is : c.loop-start.start ≡ end = omega (arith, c.loop-start.invariant.within, c.loop-start-test.false) in
    let now = rw is at (c.loop-start.invariant.fed before fed len) in
    let taken = rw c.in-Ok-Taken-feed.field-0-is at (c.in-Ok-Taken-feed.ensures (before ++ take end piece) now) in
    rw (c.too_long-fault.ensures (before ++ take end piece) now, g.met.P.TextReader.too_long_reported _)
    (too_long_at g.P.TextReader.texts before piece end c.in-Ok-Taken-feed.field-0-0
    (omega (arith, c.min-end.ensures, c.if-end-piece.false))
    (omega (arith, len, c.min-end.ensures, c.if-end-piece.false, c.requires.within, c.requires.limit.0))
    taken.0 taken.1 (g.met.P.TextReader.waits _ _ taken.2))

pub feed-requires-clause-room : goal.feed-requires-clause-room
feed-requires-clause-room g c = grind (arith, common_steps)

pub returns-then-end-piece-clause-taken : goal.returns-then-end-piece-clause-taken
returns-then-end-piece-clause-taken g c = grind (arith, common_steps)

pub feed-requires-2-clause-room : goal.feed-requires-2-clause-room
feed-requires-2-clause-room g c = grind (arith, common_steps)
