use Rattle.std.proofs.Common.{◌≡◌, ◌≤◌, ◌++◌, [], take, length, Ok, Err, refl, ap, ◌∙◌, arith, rules}
use Rattle.std.specs.Io.KnownBytes.{Consumes, IsAtEnd}
use Rattle.std.proofs.lemmas.List.{length-append, length-take}
use Rattle.std.proofs.KnownBytes.{Consumes-nil, Consumes-trans}
use Rattle.std.proofs.lemmas.Result.{err_from_is_err_and}
use Rattle.tk_words.specs.Texts.{Answers, WantMore}
use Rattle.tk_words.specs.declared.sources.reading.TheConstants.{BUFFER_SIZE}
use Rattle.tk_words.proofs.DecidedTexts.{ended_read, fault_read, value_read, where_read, where_decided}
use Rattle.tk_words.proofs.DecidedTexts.{where_ended, where_cut_off}
use Rattle.tk_words.proofs.sources.reading.read_text.Given.{Over}
use Rattle.tk_words.proofs.sources.reading.read_text.Goals as goal
use Rattle.tk_words.proofs.sources.reading.read_text.Goals.{After-read}

-- what the bytes before a read decide, wants more
wants : (g : Over) (c : After-read g) → WantMore g.P.TextReader.texts c.loop-n.invariant.fed.0
wants g c =
    let i = c.loop-n.invariant.fed in
    record {
      undecided = g.met.P.TextReader.waits _ _ i.1;
      within = omega (arith, i.2, c.limit-limit.ensures.0, c.loop-n.invariant.room);
    }

pub returns-in-Err : goal.returns-in-Err
returns-in-Err g c =
    let i = c.loop-n.invariant.fed in
    let texts = g.P.TextReader.texts in
    let left = g.R.Source.left in
    let want = wants g (goal.at.returns-in-Err g c).After-read in
    record {
      reads = record {
        ok = tt;
        err = rw c.cut_off.ensures.cause (
          c.in-Err.ensures.err,
          where_cut_off texts i.0 want (texts.line_of c.cut_off.result) (left c.args.source.now) (left c.loop-n.source)
              (left c.read.new.self) (c.cut_off.ensures.line i.0 i.1) i.3 c.in-Err.ensures.bytes,
        );
        some_text = tt;
        some_fault = search rules;
        intact = search rules;
      };
    }

pub returns-then-n-eq0 : goal.returns-then-n-eq0
returns-then-n-eq0 g c =
    let i = c.loop-n.invariant.fed in
    let texts = g.P.TextReader.texts in
    let left = g.R.Source.left in
    let want = wants g (goal.at.returns-then-n-eq0 g c).After-read in
    let none : Consumes (left c.loop-n.source) (left c.read.new.self) [] =
    rw c.if-n-eq0.true at c.in-Ok.ensures.bytes.0 in
    let at_end : IsAtEnd (left c.read.new.self) = c.in-Ok.ensures.bytes.1 c.if-n-eq0.true (omega arith) in
    let far = where_read texts i.0 want (left c.args.source.now) (left c.loop-n.source) (left c.read.new.self)
    [] (omega arith) i.3 none in
    let whole : g.R.Source.broken c.read.new.self ≡ g.R.Source.broken c.args.source.now =
    c.in-Ok.ensures.ok ∙ c.loop-n.invariant.broken in
    record {
      reads = ended_read g.R.Source texts g.P.TextReader.view c.args.source.now c.read.new.self whole i.0
          c.finish.result want.within (c.finish.ensures i.0 i.1) far
          (λ a h. where_ended texts i.0 want a (left c.args.source.now) (left c.loop-n.source)
          (left c.read.new.self) h i.3 none at_end);
    }

pub returns-in_err-feed_piece : goal.returns-in_err-feed_piece
returns-in_err-feed_piece g c =
    let i = c.loop-n.invariant.fed in
    let texts = g.P.TextReader.texts in
    let left = g.R.Source.left in
    let piece = take c.in-Ok.n c.read.new.buf in
    let want = wants g (goal.at.returns-in_err-feed_piece g c).After-read in
    let few : length piece ≤ BUFFER_SIZE = omega (arith, length-take c.in-Ok.n c.read.new.buf) in
    let far = where_read texts i.0 want (left c.args.source.now) (left c.loop-n.source) (left c.read.new.self)
    piece few i.3 c.in-Ok.ensures.bytes.0 in
    let p = err_from_is_err_and c.from_residual.result c.from_residual.ensures.1 in
    let f = c.in_err-feed_piece.field-0.0 in
    let whole : g.R.Source.broken c.read.new.self ≡ g.R.Source.broken c.args.source.now =
    c.in-Ok.ensures.ok ∙ c.loop-n.invariant.broken in
    record {
      reads = rw (p.1, p.2)
          (fault_read g.R.Source texts g.P.TextReader.view c.args.source.now c.read.new.self whole
          (Answers texts (i.0 ++ piece)) f far
          (λ e. where_decided texts i.0 want (Err f) (left c.args.source.now) (left c.loop-n.source)
          (left c.read.new.self) piece few i.3 c.in-Ok.ensures.bytes.0 e)
          (λ e. ((i.0 ++ piece) ++ [], e [])) (c.in_err-feed_piece.ensures.taken i.0 i.1 i.2));
    }

pub returns-then-branch : goal.returns-then-branch
returns-then-branch g c =
    let i = c.loop-n.invariant.fed in
    let texts = g.P.TextReader.texts in
    let left = g.R.Source.left in
    let piece = take c.in-Ok.n c.read.new.buf in
    let want = wants g (goal.at.returns-then-branch g c).After-read in
    let few : length piece ≤ BUFFER_SIZE = omega (arith, length-take c.in-Ok.n c.read.new.buf) in
    let reported = rw c.if-branch.true at (c.in_ok-feed_piece.ensures.taken i.0 i.1 i.2) in
    let whole : g.R.Source.broken c.read.new.self ≡ g.R.Source.broken c.args.source.now =
    c.in-Ok.ensures.ok ∙ c.loop-n.invariant.broken in
    record {
      reads = value_read g.R.Source texts g.P.TextReader.view c.args.source.now c.read.new.self whole c.value.result
          (rw c.value.ensures (where_decided texts i.0 want (Ok (g.P.TextReader.held c.feed_piece.new.reader))
          (left c.args.source.now) (left c.loop-n.source) (left c.read.new.self) piece few i.3
          c.in-Ok.ensures.bytes.0 reported.0))
          (rw c.value.ensures ((i.0 ++ piece) ++ [], reported.0 []));
    }

pub loop-n-init : goal.loop-n-init
loop-n-init g c = record {
  room = omega arith;
  broken = refl;
  fed = ([], c.requires, refl, Consumes-nil (g.R.Source.left c.args.source.now));
}

pub finish-requires : goal.finish-requires
finish-requires g c = (c.loop-n.invariant.fed.0, c.loop-n.invariant.fed.1)

pub feed_piece-requires-clause-known : goal.feed_piece-requires-clause-known
feed_piece-requires-clause-known g c =
    (c.loop-n.invariant.fed.0, c.loop-n.invariant.fed.1, c.loop-n.invariant.fed.2)

pub value-requires : goal.value-requires
value-requires g c =
    let i = c.loop-n.invariant.fed in
    (rw c.if-branch.true at (c.in_ok-feed_piece.ensures.taken i.0 i.1 i.2)).1

pub loop-n-preserved : goal.loop-n-preserved
loop-n-preserved g c =
    let i = c.loop-n.invariant.fed in
    let left = g.R.Source.left in
    let piece = take c.in-Ok.n c.read.new.buf in
    let on = rw c.if-branch.false at (c.in_ok-feed_piece.ensures.taken i.0 i.1 i.2) in
    let count : length piece ≡ c.in-Ok.n = omega (arith, length-take c.in-Ok.n c.read.new.buf, c.in-Ok.ensures.bound) in
    record {
      room = omega (arith, count, c.in_ok-feed_piece.ensures.room (ap Ok c.if-branch.false));
      broken = c.in-Ok.ensures.ok ∙ c.loop-n.invariant.broken;
      fed = (
        i.0 ++ piece,
        on.0,
        omega (arith, count, length-append i.0 piece, i.2),
        Consumes-trans (left c.args.source.now) (left c.loop-n.source) (left c.read.new.self) i.0 piece i.3
            c.in-Ok.ensures.bytes.0,
      );
    }
