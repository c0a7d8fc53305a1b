use Rattle.std.proofs.Common.{◌≡◌, ◌∷◌, ◌++◌, ◌+◌, [], ℕ, true, Some, Err, refl, sym, ap, subst}
use Rattle.std.proofs.lemmas.Bool.{ne_eqb}
use Rattle.tk_words.specs.Texts.{Decides}
use Rattle.tk_lines.specs.Pieces.{Fault}
use Rattle.tk_lists.specs.Solution.{line_stop, solution_texts}
use Rattle.tk_lists.specs.Reader.SolutionReader.{FedLines, LineStopsAt, rest_of}
use Rattle.tk_lists.specs.declared.solution_reader.LinePlace.TheVariants as places
use Rattle.tk_lists.specs.declared.solution_reader.SolutionReader.{SolutionReader}
use Rattle.tk_lines.proofs.KnownStates.{reported_word}
use Rattle.tk_lists.proofs.SolutionTexts.{fed_byte, fed_LF, byte_stops, LF_stops}
use Rattle.tk_lists.proofs.solution_reader.SolutionReader.feed_byte.Goals as goal

pub returns-in-Ok : goal.returns-in-Ok
returns-in-Ok c = λ before fed.
    fed_byte c.args.self.now c.feed_line.new.self before fed c.args.byte (ne_eqb _ _ c.if-byte-ne10.true)
    c.feed_line.ensures.line (c.in-Ok.ensures.ok fed.before fed.toks fed.stands)

pub returns-in-Err : goal.returns-in-Err
returns-in-Err c = λ before fed.
    let s = c.args.self.now in
    let b = c.args.byte in
    let k = c.in-Err.kind in
    rw (c.fault.ensures, c.feed_line.ensures.line)
    (reported_word (LineStopsAt fed.before s.line b (rest_of s fed.toks)) (Decides solution_texts (before ++ b ∷ []))
    s.line k (c.in-Err.ensures.err fed.before fed.toks fed.stands)
    (byte_stops s before fed k b (ne_eqb _ _ c.if-byte-ne10.true)))

pub returns-in-Err-end_line : goal.returns-in-Err-end_line
returns-in-Err-end_line c = λ before fed.
    let s = c.args.self.now in
    let b = c.args.byte in
    let k = c.in-Err-end_line.kind in
    rw (c.fault-in-Err-end_line.ensures, c.end_line.ensures.line)
    (reported_word (λ k. line_stop fed.before s.line true (rest_of s fed.toks [] true) ≡ Some (Fault s.line k))
    (Decides solution_texts (before ++ b ∷ [])) s.line k (c.in-Err-end_line.ensures.err fed.before fed.toks fed.stands)
    (λ h. subst (λ (x : ℕ). Decides solution_texts (before ++ x ∷ []) (Err (record { line = s.line; kind = k })))
    (sym c.if-byte-ne10.false) (LF_stops s before fed k h)))

pub returns : goal.returns
returns c = λ before fed.
    let t : SolutionReader =
    record {
      line = c.end_line.new.self.line + 1;
      place = places.Start;
      held = c.end_line.new.self.held;
      form = c.end_line.new.self.form;
    } in
    subst (λ (x : ℕ). FedLines t (before ++ x ∷ [])) (sym c.if-byte-ne10.false)
    (fed_LF c.args.self.now t before fed (ap (λ (n : ℕ). n + 1) c.end_line.ensures.line) refl
    (c.in-Ok-end_line.ensures.ok fed.before fed.toks fed.stands))
