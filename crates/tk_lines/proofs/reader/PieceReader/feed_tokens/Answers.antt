use Rattle.std.proofs.Common.{ℕ, List, ◌+◌, ◌++◌, take, arith, subst, Ok, Err}
use Rattle.tk_lines.specs.declared.line_state.Flow.TheVariants.{Whole}
use Rattle.tk_lines.specs.Reader.Places.{Fed, anything}
use Rattle.tk_lines.specs.Reader.Steps.{HasCome}
use Rattle.tk_lines.proofs.WholeTokens.{token_run, token_taken, token_stands, token_within, line_within}
use Rattle.tk_lines.proofs.reader.PieceReader.feed_tokens.Goals as goal

pub feed_whole-requires-clause-run : goal.feed_whole-requires-clause-run
feed_whole-requires-clause-run g c =
    let s = c.loop-self.start in
    let token = c.in-Some.token in (
      token_run c.args.bytes.now s c.loop-self.invariant.within token c.in-Some.ensures _ c.len.ensures,
      c.in-Some.ensures.short,
    )

pub feed_whole-requires-clause-room : goal.feed_whole-requires-clause-room
feed_whole-requires-clause-room g c =
    let before = c.requires.0 in
    let s = c.loop-self.start in
    let fed = c.loop-self.invariant.fed before c.requires.1 in
    let inside =
    token_within c.args.bytes.now s c.loop-self.invariant.within c.in-Some.token c.in-Some.ensures _ c.len.ensures in
    omega (arith, fed.line, line_within before c.args.bytes.now s, c.requires.2, inside)

pub feed_whole-requires-clause-known : goal.feed_whole-requires-clause-known
feed_whole-requires-clause-known g c =
    let bytes = c.args.bytes.now in
    let s = c.loop-self.start in
    let before = c.requires.0 in (
      (before ++ take s bytes) ++ c.in-Some.token,
      (token_stands bytes s c.loop-self.invariant.within c.in-Some.token c.in-Some.ensures _ c.len.ensures
          c.loop-self.self before
          c.in-Gap.is (c.loop-self.invariant.fed before c.requires.1)),
    )

pub returns-in-Err : goal.returns-in-Err
returns-in-Err g c = λ before fed.
    let bytes = c.args.bytes.now in
    let s = c.loop-self.start in
    let le = c.loop-self.invariant.within in
    let token = c.in-Some.token in
    let reported =
    c.in-Err.ensures _ (token_stands bytes s le token c.in-Some.ensures _ c.len.ensures c.loop-self.self
    before c.in-Gap.is
    (c.loop-self.invariant.fed before fed)) in (
      s + c.len.result + 1,
      omega (arith, token_within bytes s le token c.in-Some.ensures _ c.len.ensures),
      (subst
          (λ (l : List ℕ). HasCome g.F.Handler.promise anything c.feed_whole.new.self l
          (Err c.in-Err.fault))
          (token_taken bytes s le token c.in-Some.ensures _ c.len.ensures before) reported),
    )

pub returns-in-Ok-Whole : goal.returns-in-Ok-Whole
returns-in-Ok-Whole g c = λ before fed.
    let bytes = c.args.bytes.now in
    let s = c.loop-self.start in
    let le = c.loop-self.invariant.within in
    let token = c.in-Some.token in
    let whole =
    rw c.in-Ok-Whole.field-0-is at
    (c.in-Ok-Whole.ensures _ (token_stands bytes s le token c.in-Some.ensures _ c.len.ensures c.loop-self.self
    before c.in-Gap.is
    (c.loop-self.invariant.fed before fed))) in (
      s + c.len.result + 1,
      omega (arith, token_within bytes s le token c.in-Some.ensures _ c.len.ensures),
      (subst (λ (l : List ℕ). HasCome g.F.Handler.promise anything c.feed_whole.new.self l (Ok Whole))
          (token_taken bytes s le token c.in-Some.ensures _ c.len.ensures before) whole),
    )

pub loop-self-preserved : goal.loop-self-preserved
loop-self-preserved g c =
    let bytes = c.args.bytes.now in
    let s = c.loop-self.start in
    let le = c.loop-self.invariant.within in
    let token = c.in-Some.token in
    record {
      within = omega (arith, token_within bytes s le token c.in-Some.ensures _ c.len.ensures);
      fed = λ before fed.
          (subst (λ (l : List ℕ). Fed g.F.Handler.promise anything c.feed_whole.new.self l)
          (token_taken bytes s le token c.in-Some.ensures _ c.len.ensures before)
          (rw c.in-Ok-On.field-0-is at
          (c.in-Ok-On.ensures _ (token_stands bytes s le token c.in-Some.ensures _ c.len.ensures
          c.loop-self.self before c.in-Gap.is
          (c.loop-self.invariant.fed before fed)))));
    }
