-- A parameter reader, byte by byte.
use Rattle.std.proofs.Common.{◌≡◌, ◌≢◌, ℕ, suc, ◌+◌, ◌<◌, Bool, true, false, eqb, List, [], ◌∷◌, ◌++◌, length, Option}
use Rattle.std.proofs.Common.{Some, cond}
use Rattle.std.proofs.Common.{◌≤◌, get_or, take, Result, None, Ok, Err, refl, sym, ap, subst, ◌∙◌, append_assoc, arith}
use Rattle.std.proofs.lemmas.Bool.{eqb-true, ne_eqb}
use Rattle.std.proofs.lemmas.List.{append-nil, length-append}
use Rattle.tk_lines.proofs.MiddleOfLine.{prepend-nil}
use Rattle.tk_lines.proofs.LineSteps.{line_behind-byte, line_behind-LF}
use Rattle.tk_lines.proofs.Headers.ByteRuns.{behind-all, behind-on}
use Rattle.tk_lines.specs.Reader.ValueScanner.{IsEmpty}
use Rattle.std.specs.Option.{IsSome, ok_or}
use Rattle.std.specs.Prelude.{is_some, option_map, unwrap_or}
use Rattle.tk_words.specs.declared.sources.text_reader.FeedResult.{FeedResult}
use Rattle.tk_words.specs.declared.sources.text_reader.FeedResult.TheVariants.{Taken, Done}
use Rattle.tk_words.specs.Taking as Taking
use Rattle.tk_words.specs.Taking.{HasEnded}
use Rattle.tk_words.proofs.FirstBytes.{first_byte, first_decides, first_reported}
use Rattle.tk_words.specs.Texts.{Decides, line_behind}
use Rattle.tk_params.specs.Requested.{ParamsAre, requested, requested_of, file_in}
use Rattle.tk_params.specs.declared.key.Key.TheVariants as keys
use Rattle.tk_params.specs.declared.fault.ParamFault.{ParamFault}
use Rattle.tk_words.specs.Lex.{is_blank, is_word_byte, behind, lines}
use Rattle.tk_params.proofs.LineEnds.{push_open, from_byte, from_over, from_eof, from_end_eof, from_open, from_LF}
use Rattle.tk_params.proofs.LineEnds.{from_LF_fault, from_end, from_end_fault}
use Rattle.tk_params.specs.declared.fault.ParamKind.{ParamKind}
use Rattle.tk_params.specs.declared.fault.ParamKind.TheVariants as kinds
use Rattle.tk_params.specs.declared.reader.ParamReader.{ParamReader}
use Rattle.tk_params.specs.Reader.Lines.{IsFaultless}
use Rattle.tk_params.specs.Reader.Places.{Feeds, HasReadByte, NamesProblem, IsLineTaken, ParamsWait, params_from_line}
use Rattle.tk_params.specs.Reader.Places.{params_in}
use Rattle.tk_params.specs.Values.{Settings, Meaning, Faulty, line_means, look, settings_of}
use Rattle.tk_params.specs.Params.{answer_at_end, spells_eof, judge_params, line_limit}
use Rattle.tk_params.specs.Params.{param_pieces, params_decided}
use Rattle.tk_params.specs.Params.{params_texts}

-- nothing is read
pub from_nothing : (e : Bool) (more : List ℕ) → params_decided e more ≡ params_from_line 1 [] [] e more
unfolding params_decided params_from_line
from_nothing e more = ap (λ ls. (judge_params 1 [] (param_pieces ls))) (sym (prepend-nil (lines e 1 more)))

-- what is read of a text, and one byte more
module _ (s : ParamReader) (bs : List ℕ) (f : Feeds s bs) (b : ℕ) where
  pub on_byte : (e : Bool) (more : List ℕ) →
      params_decided e ((bs ++ b ∷ []) ++ more) ≡ params_from_line s.line s.settings f.pre e (b ∷ more)
  on_byte e more = ap (params_decided e) (append_assoc bs (b ∷ []) more) ∙ f.same e (b ∷ more)

  -- EOF has ended
  pub eof_ends : spells_eof s.held.items ≡ true → is_word_byte b ≡ false →
      Decides params_texts (bs ++ b ∷ []) (answer_at_end s.line s.settings)
  eof_ends k solid e more = on_byte e more
      ∙ from_eof s.line s.settings f.pre e b more (ap spells_eof (sym f.held) ∙ k) f.short solid

  -- a line is too long
  pub line_over : b ≢ 10 → (spells_eof s.held.items ≡ true → is_word_byte b ≡ true) → length f.pre ≡ line_limit →
      Decides params_texts (bs ++ b ∷ []) (Err (record { line = s.line; kind = kinds.TooLong }))
  line_over ne k len e more =
      on_byte e more
      ∙ from_byte s.line s.settings f.pre e b more (ne_eqb _ _ ne)
      ∙ from_over s.line s.settings (f.pre ++ b ∷ []) e more
      (push_open f.pre f.going b (λ t. k (ap spells_eof f.held ∙ t)))
      (omega (arith, len, length-append f.pre (b ∷ [])))

  -- a line has a fault
  pub line_faulty : b ≡ 10 → spells_eof s.held.items ≡ false → (kind : ParamKind) →
      line_means s.settings s.held.items ≡ Faulty kind →
      Decides params_texts (bs ++ b ∷ []) (Err (record { line = s.line; kind = kind }))
  line_faulty is k kind m e more =
      on_byte e more ∙ ap (λ c. params_from_line s.line s.settings f.pre e (c ∷ more)) is
      ∙ from_LF_fault s.line s.settings f.pre f.going f.short (ap spells_eof (sym f.held) ∙ k) e more kind
      (ap (line_means s.settings) (sym f.held) ∙ m)

  -- a byte of a line
  pub kept_byte : (t : ParamReader) → b ≢ 10 → (spells_eof s.held.items ≡ true → is_word_byte b ≡ true)
      → length f.pre < line_limit
      → t.line ≡ s.line → t.settings ≡ s.settings → t.count ≡ s.count + 1 →
      t.held.items ≡ behind is_blank (f.pre ++ b ∷ []) → Feeds t (bs ++ b ∷ [])
  kept_byte t ne k lt line settings count held =
      record {
        pre = f.pre ++ b ∷ [];
        line = line ∙ f.line ∙ sym (line_behind-byte bs b (ne_eqb _ _ ne));
        count = omega (arith, count, f.count, length-append f.pre (b ∷ []));
        short = omega (arith, lt, length-append f.pre (b ∷ []));
        held = held;
        going = push_open f.pre f.going b (λ j. k (ap spells_eof f.held ∙ j));
        same =
            λ e more. rw (line, settings) (on_byte e more ∙ from_byte s.line s.settings f.pre e b more (ne_eqb _ _ ne));
      }

-- ---- the bytes that are held

pub hold_more : (pre h : List ℕ) (b : ℕ) → h ≡ behind is_blank pre → eqb (length h) 0 ≡ false →
    h ++ b ∷ [] ≡ behind is_blank (pre ++ b ∷ [])
hold_more pre [] b e n = absurd cc
hold_more pre (c ∷ cs) b e n =
    sym (behind-on is_blank pre (b ∷ []) (λ k. subst IsEmpty (sym e) k) ∙ ap (λ (z : List ℕ). z ++ b ∷ []) (sym e))

-- the first byte that is no blank is held
pub hold_first : (pre h : List ℕ) (b : ℕ) (blank : Bool) → h ≡ behind is_blank pre → eqb (length h) 0 ≡ true →
    is_blank b ≡ blank → cond blank h (h ++ b ∷ []) ≡ behind is_blank (pre ++ b ∷ [])
hold_first pre [] b blank e n s = sym (behind-all is_blank pre (b ∷ []) (sym e) ∙ rw s refl)
hold_first pre (c ∷ cs) b blank e n s = absurd (let k = eqb-true _ _ n in omega (arith, k))

-- ---- the reader's places

-- at the front of a line
fed_front : (t : ParamReader) (bs : List ℕ) → t.line ≡ line_behind bs → t.count ≡ 0 → t.held.items ≡ []
    → ((e : Bool) (more : List ℕ) → params_decided e (bs ++ more) ≡ params_from_line t.line t.settings [] e more)
    → Feeds t bs
fed_front t bs line count held same =
    record {
      pre = [];
      line = line;
      count = count;
      short = omega arith;
      held = held;
      going = refl;
      same = same;
    }

pub fed_new : (t : ParamReader) → t.line ≡ 1 → t.count ≡ 0 → t.settings ≡ [] →
    t.held.items ≡ [] → Feeds t []
fed_new t line count settings held =
    fed_front t [] line count held (λ e more. rw (line, settings) (from_nothing e more))

-- more bytes decide
pub fed_open : (s : ParamReader) (bs : List ℕ) → Feeds s bs → params_decided false bs ≡ None
fed_open s bs f = ap (params_decided false) (sym (append-nil bs)) ∙ f.same false []
    ∙ from_open s.line s.settings f.pre f.going f.short

module _ (s t : ParamReader) (bs : List ℕ) (f : Feeds s bs) (taken : IsLineTaken s t)
    (other : spells_eof s.held.items ≡ false) where
  abbrev means : Meaning
  means = line_means s.settings s.held.items

  same_means : line_means s.settings (behind is_blank f.pre) ≡ means
  same_means = ap (line_means s.settings) (sym f.held)

  is_sound : IsFaultless (line_means s.settings (behind is_blank f.pre))
  is_sound = subst IsFaultless (sym same_means) taken.taken.sound

  no_eof : spells_eof (behind is_blank f.pre) ≡ false
  no_eof = ap spells_eof (sym f.held) ∙ other

  same_settings : s.settings ++ settings_of (line_means s.settings (behind is_blank f.pre)) ≡ t.settings
  same_settings = ap (λ m. s.settings ++ settings_of m) same_means ∙ sym taken.taken.settings

  pub fed_line : (u : ParamReader) → u.line ≡ t.line + 1 → u.count ≡ 0 → u.settings ≡ t.settings →
      u.held.items ≡ [] → Feeds u (bs ++ 10 ∷ [])
  fed_line u line count settings held =
      let next : u.line ≡ suc s.line = omega (arith, line, taken.line) in
      fed_front u (bs ++ 10 ∷ []) (omega (arith, next, f.line, line_behind-LF bs)) count held (λ e more.
      on_byte s bs f 10 e more
      ∙ from_LF s.line s.settings f.pre f.going f.short no_eof e more is_sound
      ∙ ap (λ ss. params_from_line (suc s.line) ss [] e more) (same_settings ∙ sym settings)
      ∙ ap (λ n. params_from_line n u.settings [] e more) (sym next))

  -- the last line is taken, and nothing follows
  pub ends_line : params_decided true bs ≡ Some (answer_at_end s.line t.settings)
  ends_line =
      ap (params_decided true) (sym (append-nil bs)) ∙ f.same true []
      ∙ from_end s.line s.settings f.pre f.going f.short no_eof is_sound
      ∙ ap (λ ss. Some (answer_at_end s.line ss)) same_settings

module _ (s : ParamReader) (bs : List ℕ) (f : Feeds s bs) where
  pub ends_eof : spells_eof s.held.items ≡ true → params_decided true bs ≡ Some (answer_at_end s.line s.settings)
  ends_eof k = ap (params_decided true) (sym (append-nil bs)) ∙ f.same true []
      ∙ from_end_eof s.line s.settings f.pre (ap spells_eof (sym f.held) ∙ k) f.short

  pub ends_faulty : spells_eof s.held.items ≡ false → (kind : ParamKind) →
      line_means s.settings s.held.items ≡ Faulty kind →
      params_decided true bs ≡ Some (Err (record { line = s.line; kind = kind }))
  ends_faulty k kind m =
      ap (params_decided true) (sym (append-nil bs)) ∙ f.same true []
      ∙ from_end_fault s.line s.settings f.pre f.going f.short (ap spells_eof (sym f.held) ∙ k) kind
      (ap (line_means s.settings) (sym f.held) ∙ m)

pub fed_waits : (t : ParamReader) (bs : List ℕ) → Feeds t bs → ParamsWait t bs
fed_waits t bs f = record { fed = f; undecided = fed_open t bs f }

-- ---- what the settings ask for at the end

-- they name the problem's file
pub whole_at_end : (s : ParamReader) → is_some (file_in (look keys.ProblemFile s.settings)) ≡ true →
    (answer_at_end s.line s.settings ≡ Ok (params_in s)) × NamesProblem s
whole_at_end s h = by_file (file_in (look keys.ProblemFile s.settings)) h
  where
    by_file : (name : Option (List ℕ)) → is_some name ≡ true →
        (ok_or {E = ParamFault} (option_map (λ problem. requested_of problem s.settings) name)
        (record { line = s.line; kind = kinds.MissingProblem }) ≡ Ok (requested_of (unwrap_or name []) s.settings))
        × IsSome (option_map (λ problem. requested_of problem s.settings) name)
    by_file None h = absurd cc
    by_file (Some name) h = (refl, refl)

-- they do not
pub missing_at_end : (s : ParamReader) → is_some (file_in (look keys.ProblemFile s.settings)) ≡ false →
    answer_at_end s.line s.settings ≡ Err (record { line = s.line; kind = kinds.MissingProblem })
missing_at_end s h = by_file (file_in (look keys.ProblemFile s.settings)) h
  where
    by_file : (name : Option (List ℕ)) → is_some name ≡ false →
        ok_or {E = ParamFault} (option_map (λ problem. requested_of problem s.settings) name)
        (record { line = s.line; kind = kinds.MissingProblem }) ≡ Err
        (record { line = s.line; kind = kinds.MissingProblem })
    by_file None h = refl
    by_file (Some name) h = absurd cc

-- the answer at the end, as the reader gives it
pub ended_as : (line : ℕ) (settings : Settings) (bs : List ℕ) →
    params_decided true bs ≡ Some (answer_at_end line settings) →
    HasEnded params_texts (λ (p : ParamsAre). p) bs (answer_at_end line settings)
ended_as line settings bs h = by_asked (requested settings) h
  where
    missing : ParamFault
    missing = record { line = line; kind = kinds.MissingProblem }

    by_asked : (o : Option ParamsAre) → params_decided true bs ≡ Some (ok_or o missing) →
        HasEnded params_texts (λ (p : ParamsAre). p) bs (ok_or o missing)
    by_asked None h = h
    by_asked (Some p) h = h

-- the first of some bytes is read
pub read_taken : (new : ParamReader) (before bytes : List ℕ) (r : Result FeedResult ParamFault) → 1 ≤ length bytes →
    HasReadByte new (before ++ get_or bytes 0 0 ∷ []) r →
    Taking.HasTaken params_texts (ParamsWait new) (params_in new) (NamesProblem new) before bytes r
read_taken new before bytes (Ok (Taken n)) some (one, fed) = (
  omega (arith, one),
  omega (arith, one, some),
  fed_waits new _ (subst (λ (l : List ℕ). Feeds new (before ++ l))
      (sym (first_byte bytes some) ∙ ap (λ (k : ℕ). take k bytes) (sym one)) fed),
)
read_taken new before bytes (Ok Done) some (decides, complete) =
    (first_decides params_texts before bytes some _ decides, complete)
read_taken new before bytes (Err f) some reported = first_reported params_texts before bytes some f reported
