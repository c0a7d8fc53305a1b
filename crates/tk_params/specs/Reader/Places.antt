-- The state of a reader of parameters within a text.
use Rattle.std.specs.Prelude.{◌≡◌, ◌≤◌, ℕ, Bool, false, not, ◌&&◌, List, [], ◌++◌, length, Option, None, Result, Ok}
use Rattle.std.specs.Prelude.{Err}
use Rattle.std.specs.Prelude.{unwrap_or}
use Rattle.std.specs.Option.{IsSome}
use Rattle.tk_words.specs.declared.sources.text_reader.FeedResult.{FeedResult}
use Rattle.tk_words.specs.declared.sources.text_reader.FeedResult.TheVariants.{Taken, Done}
use Rattle.tk_words.specs.Texts.{Decides, IsReported, line_behind}
use Rattle.tk_words.specs.Lex.{is_blank, is_empty, behind, lines}
use Rattle.tk_lines.specs.Reader.FromMiddle.{prepend}
use Rattle.tk_params.specs.declared.fault.ParamFault.{ParamFault}
use Rattle.tk_params.specs.declared.key.Key.TheVariants as keys
use Rattle.tk_params.specs.declared.reader.ParamReader.{ParamReader}
use Rattle.tk_params.specs.Requested.{ParamsAre, requested, requested_of, file_in}
use Rattle.tk_params.specs.Reader.Lines.{HasTakenLine, IsReportedKind}
use Rattle.tk_params.specs.Values.{Settings, Faulty, line_means, look}
use Rattle.tk_params.specs.Params.{line_limit, spells_eof, word_of, behind_word, judge_params, param_pieces}
use Rattle.tk_params.specs.Params.{params_decided}
use Rattle.tk_params.specs.Params.{params_texts}

-- whether the bytes of a line are EOF, followed by something
abbrev pub ends_in : List ℕ → Bool
ends_in pre = spells_eof (word_of pre) && not (is_empty (behind_word pre))

-- the answer to the bytes that come after these settings and, on line n, after the bytes `pre`
unfoldable pub params_from_line : ℕ → Settings → List ℕ → Bool → List ℕ → Option (Result ParamsAre ParamFault)
params_from_line n before pre ended bs = judge_params n before (param_pieces (prepend pre (lines ended n bs)))

-- the reader has taken these bytes
pub record Feeds (s : ParamReader) (bs : List ℕ) : Type 0 where
  pub pre : List ℕ
  pub line : s.line ≡ line_behind bs
  pub count : s.count ≡ length pre
  pub short : length pre ≤ line_limit
  pub held : s.held.items ≡ behind is_blank pre
  pub going : ends_in pre ≡ false
  pub same : (ended : Bool) (more : List ℕ) →
      params_decided ended (bs ++ more) ≡ params_from_line s.line s.settings pre ended more

-- the reader has taken these bytes, which do not decide the answer
pub record ParamsWait (s : ParamReader) (bs : List ℕ) : Type 0 where
  pub fed : Feeds s bs
  pub undecided : params_decided false bs ≡ None

-- the parameters of a reader whose settings name the problem file
abbrev pub params_in : ParamReader → ParamsAre
params_in s = requested_of (unwrap_or (file_in (look keys.ProblemFile s.settings)) []) s.settings

abbrev pub NamesProblem : ParamReader → Type 0
NamesProblem s = IsSome (requested s.settings)

-- the current line has been taken
pub record IsLineTaken (old new : ParamReader) : Type 0 where
  pub taken : HasTakenLine old.settings new.settings (line_means old.settings old.held.items)
  pub line : new.line ≡ old.line

-- the current line has a fault, unless memory ran out
pub record IsStopped (old : ParamReader) (f : ParamFault) : Type 0 where
  pub line : f.line ≡ old.line
  pub reported : IsReportedKind (λ k. line_means old.settings old.held.items ≡ Faulty k) f.kind

abbrev pub TakesLine : ParamReader → ParamReader → Result (Unit {0}) ParamFault → Type 0
TakesLine old new (Ok _) = IsLineTaken old new
TakesLine old new (Err f) = IsStopped old f

-- bytes are taken; or they complete the text; or they have a fault
abbrev pub HasReadByte : ParamReader → List ℕ → Result FeedResult ParamFault → Type 0
HasReadByte new bs (Ok (Taken n)) = (n ≡ 1) × Feeds new bs
HasReadByte new bs (Ok Done) = Decides params_texts bs (Ok (params_in new)) × NamesProblem new
HasReadByte new bs (Err f) = IsReported params_texts (Decides params_texts bs) f
