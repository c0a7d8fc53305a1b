-- A line of a parameter text has no fault of reading or of memory.
use Rattle.std.proofs.Common.{◌≡◌, ℕ, eqb, ltb, not, length, Bool, true, false, cond, List, [], ◌∷◌, Option, Some}
use Rattle.std.proofs.Common.{None, Result, Err, sym, subst}
use Rattle.std.specs.Prelude.{codes}
use Rattle.std.proofs.lemmas.Bool.{cond_both}
use Rattle.tk_words.specs.Lex.{is_letter, is_word_byte, front, behind}
use Rattle.tk_words.specs.Texts.{IsReported}
use Rattle.tk_words.specs.Words.{spells}
use Rattle.tk_params.specs.declared.fault.ParamFault.{ParamFault}
use Rattle.tk_params.specs.declared.fault.ParamKind.{ParamKind}
use Rattle.tk_params.specs.declared.fault.ParamKind.TheVariants as kinds
use Rattle.tk_params.specs.declared.key.Key.{Key}
use Rattle.tk_params.specs.Requested.{ParamsAre}
use Rattle.tk_params.specs.Keys.{key_of}
use Rattle.tk_params.specs.Entries.{Entry, Blank, Wrong, entry_of, key_entry, value_behind, word_entry}
use Rattle.tk_params.specs.Params.{params_texts}
use Rattle.tk_params.specs.Reader.Lines.{IsReportedKind}
use Rattle.tk_params.specs.Values.{Settings, Value, Meaning, Faulty, has_key, has_dollar, key_means, line_means}
use Rattle.tk_params.specs.Values.{means, sets, setting_value}

abbrev IsOfText : ParamKind → Type 0
IsOfText kinds.Read = ⊥
IsOfText kinds.NoMemory = ⊥
IsOfText _ = Unit {0}

abbrev OfMeaning : Meaning → Type 0
OfMeaning (Faulty kind) = IsOfText kind
OfMeaning _ = Unit {0}

sets_of_text : (key : Key) (v : Option Value) → OfMeaning (sets key v)
sets_of_text key None = tt
sets_of_text key (Some v) = tt

key_of_text : (before : Settings) (key : Key) (bs : List ℕ) → OfMeaning (key_means before key bs)
key_of_text before key bs =
    cond_both (has_key key before) _ _ OfMeaning (λ e. tt)
    (λ e. cond_both (has_dollar key bs) _ _ OfMeaning (λ d. tt) (λ d. sets_of_text key (setting_value key bs)))

entry_of_text : (before : Settings) (key : Option Key) (bs : List ℕ) → OfMeaning (means before (key_entry key bs))
entry_of_text before None bs = tt
entry_of_text before (Some key) bs = key_of_text before key (value_behind bs)

two_tests : (before : Settings) (a b : Bool) (x y z : Entry) → OfMeaning (means before x) → OfMeaning (means before y) →
    OfMeaning (means before z) → OfMeaning (means before (cond a x (cond b y z)))
two_tests before true b x y z p q r = p
two_tests before false true x y z p q r = q
two_tests before false false x y z p q r = r

words_of_text : (before : Settings) (word rest : List ℕ) → OfMeaning (means before (word_entry word rest))
unfolding word_entry
words_of_text before word rest =
    two_tests before (ltb 64 (length word)) (spells word (codes "COMMENT")) (Wrong kinds.TooLong) Blank
    (key_entry (key_of word) rest) tt tt (entry_of_text before (key_of word) rest)

line_of_text : (before : Settings) (bs : List ℕ) → OfMeaning (line_means before bs)
unfolding entry_of
line_of_text before [] = tt
line_of_text before (b ∷ bs) =
    let word = front is_word_byte (b ∷ bs) in
    let rest = behind is_word_byte (b ∷ bs) in
    two_tests before (eqb b 35) (not (is_letter b)) Blank (Wrong kinds.UnknownKey) (word_entry word rest) tt tt
    (words_of_text before word rest)

-- the fault of a line, reported of an answer
pub reported_line : (before : Settings) (held : List ℕ) (f : ParamFault) (line : ℕ)
    (P : Result ParamsAre ParamFault → Type 0) → f.line ≡ line →
    IsReportedKind (λ k. line_means before held ≡ Faulty k) f.kind →
    ((k : ParamKind) → line_means before held ≡ Faulty k → P (Err (record { line = line; kind = k }))) →
    IsReported params_texts P f
reported_line before held f line P is reported go = by_kind f.kind reported
  where
    by_kind : (k : ParamKind) → IsReportedKind (λ k. line_means before held ≡ Faulty k) k →
        IsReported params_texts P (record { line = f.line; kind = k })
    by_kind kinds.NoMemory t = tt
    by_kind kinds.Read t = absurd (subst OfMeaning t (line_of_text before held))
    by_kind k t = subst (λ (n : ℕ). P (Err (record { line = n; kind = k }))) (sym is) (go k t)
