-- A reader of a solution text, byte by byte.
use Rattle.std.proofs.Common.{◌≡◌, ℕ, ◌+◌, true, false, eqb, List, [], ◌∷◌, ◌++◌, map, Some, None, Ok, Err, refl, sym}
use Rattle.std.proofs.Common.{ap, ◌∙◌, append_assoc}
use Rattle.std.proofs.lemmas.List.{append-nil}
use Rattle.tk_words.specs.declared.fault.TextKind.{TextKind}
use Rattle.tk_words.specs.declared.fault.TextKind.TheVariants as kinds
use Rattle.tk_words.specs.declared.keyword.Keyword.TheVariants as words
use Rattle.tk_lists.specs.declared.solution_handler.SolutionHandler.{SolutionHandler}
use Rattle.tk_lists.specs.declared.solution_reader.LinePlace.TheVariants as places
use Rattle.tk_lists.specs.declared.solution_reader.SolutionReader.{SolutionReader}
use Rattle.tk_words.specs.Texts.{Decides, DecidesEnded}
use Rattle.tk_words.specs.Lex.{LF, lines}
use Rattle.tk_lines.specs.Pieces.{Fault}
use Rattle.tk_lists.specs.Solution.{has_cost, line_stop, solution_at_end, judge_lines, solution_decided, solution_texts}
use Rattle.tk_lists.specs.Reader.SolutionReader.{StandsOnLine, Went, LineStopsAt, HasEndedLine, FedLines, SolutionWaits}
use Rattle.tk_lists.specs.Reader.SolutionReader.{rest_of, from}
use Rattle.tk_lines.proofs.Sections.SectionEnds.{first_line}
use Rattle.tk_lines.proofs.LineSteps.{line_behind-byte, line_behind-LF}
use Rattle.tk_lists.proofs.SolutionPlaces.{from_byte, from_stops, from_LF, from_LF_stops, from_end, from_end_stops}
use Rattle.tk_lists.proofs.SolutionPlaces.{from_open, waits}

-- before the first byte
pub fed_none : (s : SolutionReader) → s.line ≡ 1 → s.place ≡ places.Start → StandsOnLine s [] [] → FedLines s []
unfolding solution_decided judge_lines from
fed_none s first start stands = record {
  line = first;
  before = [];
  toks = [];
  stands = stands;
  same = λ e more. let k = first_line e 1 more in rw (first, start, k.is) refl;
}

-- where nothing is decided yet
fed_open : (s : SolutionReader) (bs : List ℕ) → FedLines s bs → solution_decided false bs ≡ None
fed_open s bs fed =
    ap (solution_decided false) (sym (append-nil bs)) ∙ fed.same false []
    ∙ from_open fed.before (rest_of s fed.toks) s.line
    (waits s.form fed.before s.held s.line fed.toks s.place fed.stands)

pub fed_waits : (s : SolutionReader) (bs : List ℕ) → FedLines s bs → SolutionWaits s bs
fed_waits s bs fed = record { fed = fed; undecided = fed_open s bs fed }

module _ (s t : SolutionReader) (bs : List ℕ) (fed : FedLines s bs) where
  pub fed_byte : (b : ℕ) → eqb b LF ≡ false → t.line ≡ s.line → Went fed.before b (rest_of s fed.toks) t →
      FedLines t (bs ++ b ∷ [])
  fed_byte b other line went = record {
    line = line ∙ fed.line ∙ sym (line_behind-byte bs b other);
    before = fed.before;
    toks = went.toks;
    stands = went.stands;
    same = λ e more. ap (solution_decided e) (append_assoc bs (b ∷ []) more) ∙ fed.same e (b ∷ more)
        ∙ from_byte fed.before (rest_of s fed.toks) s.line (rest_of t went.toks) e b more other went.same
        ∙ ap (λ (n : ℕ). from fed.before (rest_of t went.toks) (lines e n more)) (sym line);
  }

  pub fed_LF : t.line ≡ s.line + 1 → t.place ≡ places.Start →
      HasEndedLine fed.before s.line (rest_of s fed.toks [] true) t.form → FedLines t (bs ++ LF ∷ [])
  fed_LF line start ended = record {
    line = line ∙ ap (λ (n : ℕ). n + 1) fed.line ∙ sym (line_behind-LF bs);
    before = fed.before ++ rest_of s fed.toks [] true ∷ [];
    toks = [];
    stands = rw start (refl, ended.keeps);
    same = λ e more. ap (solution_decided e) (append_assoc bs (LF ∷ []) more) ∙ fed.same e (LF ∷ more)
        ∙ from_LF fed.before (rest_of s fed.toks) s.line e more ended.fine ∙ rw (line, start) refl;
  }

module _ (s : SolutionReader) (bs : List ℕ) (fed : FedLines s bs) (k : TextKind) where
  pub byte_stops : (b : ℕ) → eqb b LF ≡ false → LineStopsAt fed.before s.line b (rest_of s fed.toks) k →
      Decides solution_texts (bs ++ b ∷ []) (Err (record { line = s.line; kind = k }))
  byte_stops b other stops e more =
      ap (solution_decided e) (append_assoc bs (b ∷ []) more) ∙ fed.same e (b ∷ more)
      ∙ from_stops fed.before (rest_of s fed.toks) s.line e b more k other stops

  pub LF_stops : line_stop fed.before s.line true (rest_of s fed.toks [] true) ≡ Some (Fault s.line k) →
      Decides solution_texts (bs ++ LF ∷ []) (Err (record { line = s.line; kind = k }))
  LF_stops stop e more =
      ap (solution_decided e) (append_assoc bs (LF ∷ []) more) ∙ fed.same e (LF ∷ more)
      ∙ from_LF_stops fed.before (rest_of s fed.toks) s.line e more k stop

  pub end_stops : line_stop fed.before s.line true (rest_of s fed.toks [] true) ≡ Some (Fault s.line k) →
      DecidesEnded solution_texts bs (Err (record { line = s.line; kind = k }))
  end_stops stop = ap (solution_decided true) (sym (append-nil bs)) ∙ fed.same true []
      ∙ from_end_stops fed.before (rest_of s fed.toks) s.line k stop

module _ (s : SolutionReader) (bs : List ℕ) (fed : FedLines s bs) (t : SolutionHandler)
    (ended : HasEndedLine fed.before s.line (rest_of s fed.toks [] true) t) where
  at_the_end : solution_decided true bs ≡ solution_at_end (fed.before ++ rest_of s fed.toks [] true ∷ []) s.line true
  at_the_end = ap (solution_decided true) (sym (append-nil bs)) ∙ fed.same true []
      ∙ from_end fed.before (rest_of s fed.toks) s.line ended.fine

  pub end_missing : t.priced ≡ false →
      DecidesEnded solution_texts bs (Err (record { line = s.line; kind = kinds.Missing words.Cost }))
  end_missing unpriced =
      let none : has_cost (fed.before ++ rest_of s fed.toks [] true ∷ []) ≡ false = sym ended.keeps.priced ∙ unpriced in
      at_the_end ∙ rw none refl

  pub end_whole : t.priced ≡ true → DecidesEnded solution_texts bs (Ok (map (λ r. r.items) t.routes.items, t.cost))
  end_whole priced =
      let some : has_cost (fed.before ++ rest_of s fed.toks [] true ∷ []) ≡ true = sym ended.keeps.priced ∙ priced in
      at_the_end ∙ rw (some, ended.keeps.routes, ended.keeps.cost) refl
