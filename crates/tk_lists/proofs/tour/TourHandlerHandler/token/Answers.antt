use Rattle.std.proofs.Common.{◌≡◌, ◌∙◌, refl, ap, subst, length, ℤ, SFits, w64, to_z, of_z, rules}
use Rattle.std.proofs.lemmas.Int.{to_z-of_z}
use Rattle.std.proofs.lemmas.Result.{IfOk-weaker, IfErr-weaker}
use Rattle.tk_words.specs.declared.fault.TextKind.TheVariants as kinds
use Rattle.tk_words.specs.MinusOne.{is_minus_one}
use Rattle.tk_lines.specs.Reader.Handlers.{whole, StopsAt}
use Rattle.tk_lists.specs.Tour.{tour_format}
use Rattle.tk_lists.specs.Reader.TourHandler.{IsNext, IsOut}
use Rattle.tk_lists.proofs.Tours.{token_ending, token_eof, word_stops, other_stops, out_stops, token_more, minus_is}
use Rattle.tk_lists.proofs.Tours.{minus_not}
use Rattle.tk_lines.proofs.Pieces.ReportedFaults.{reported_word}
use Rattle.tk_lists.proofs.tour.TourHandlerHandler.token.Goals as goal

pub returns-then-number-clause-ok : goal.returns-then-number-clause-ok
returns-then-number-clause-ok c = λ before word n toks line w. token_ending c.args.self.now c.args.self.now before word
    n toks w refl c.args.token.now line c.requires refl
    (let f : SFits w64 c.in-Number.number = search rules in ap is_minus_one c.in-Number.ensures.0
    ∙ minus_is c.in-Number.number f c.if-number.true)

pub returns-in-Eof-clause-ok : goal.returns-in-Eof-clause-ok
returns-in-Eof-clause-ok c = λ before word n toks line w.
    let e = c.in-Eof.ensures in
    token_eof c.args.self.now c.args.self.now before word n toks w refl c.args.token.now line c.requires refl e.0 e.2

pub returns-in-Word-clause-err : goal.returns-in-Word-clause-err
returns-in-Word-clause-err c = λ before word n toks line w.
    let e = c.in-Word.ensures in
    word_stops c.args.self.now c.args.self.now before word n toks w refl c.args.token.now line c.requires e.0 e.1 e.2

pub returns-in-Other-clause-err : goal.returns-in-Other-clause-err
returns-in-Other-clause-err c = λ before word n toks line w.
    let e = c.in-Other.ensures in
    other_stops c.args.self.now c.args.self.now before word n toks w refl c.args.token.now line c.requires e.0 e.1 e.2

pub returns-else-number-clause-ok : goal.returns-else-number-clause-ok
returns-else-number-clause-ok c = λ before word n toks line w.
    let z = c.in-Number.number in
    let f : SFits w64 z = search rules in
    let e = c.in-Number.ensures in
    let goes = minus_not z c.if-number.false in
    IfOk-weaker c.number.result
    _ _ (λ t p. rw p.0
    (token_more c.args.self.now c.number.new.self before word n toks w c.number.ensures.seen c.args.token.now line
    c.requires z e.0 goes e.1 e.2 p.1
    (subst (λ (x : ℤ). IsNext x c.args.self.now.cities.items c.number.new.self.cities.items) (to_z-of_z w64 z f)
    p.2))) c.number.ensures.ok

pub returns-else-number-clause-err : goal.returns-else-number-clause-err
returns-else-number-clause-err c = λ before word n toks line w.
    let z = c.in-Number.number in
    let f : SFits w64 z = search rules in
    let e = c.in-Number.ensures in
    let goes = minus_not z c.if-number.false in
    let count = length c.args.self.now.cities.items in
    IfErr-weaker c.number.result
    _ _ (λ k h. reported_word (λ k. (k ≡ kinds.OutOfLimit) × IsOut (to_z w64 (of_z w64 z)) count)
    (StopsAt tour_format before word n toks (whole c.args.token.now line)) k
    (λ p. rw p.0
    (out_stops c.args.self.now c.args.self.now before word n toks w refl c.args.token.now line c.requires z e.0 goes
    e.1 e.2 (subst (λ (x : ℤ). IsOut x count) (to_z-of_z w64 z f) p.1))) h) c.number.ensures.err
