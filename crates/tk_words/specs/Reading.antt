-- The answer of a reader.
use Rattle.std.specs.Prelude.{◌≡◌, ℕ, Bool, IfErr, IfOk, List, ◌++◌, length, Ok, Result}
use Rattle.tk_words.specs.Texts.{IsAnswerIfSpecified, IsFaultOfSomeText, IsFaultIfSpecified, IsIntact, IsOfSomeText}
use Rattle.tk_words.specs.Texts.{Texts}
use Rattle.tk_words.specs.Taking.{HasTakenAll}
use Rattle.tk_words.specs.declared.sources.source.Source.{Ghosts}
use Rattle.tk_words.specs.declared.sources.text_reader.TextReader as reader

-- the text of a source is read to this answer, whose value contracts see by `view`
pub record IsReading {V E S O : Type 0} (source : Ghosts S) (texts : Texts V E) (view : O → V) (old new : S)
    (answer : Result O E) : Type 0 where
  -- if the source specifies its bytes: the value or the fault of its text
  pub ok : IfOk answer (λ value. IsAnswerIfSpecified texts (source.left old) (source.left new) (Ok (view value)))
  pub err : IfErr answer (IsFaultIfSpecified texts (source.broken new) (source.left old) (source.left new))
  -- if it does not: those of some text
  pub some_text : IfOk answer (λ value. IsOfSomeText texts (Ok (view value)))
  pub some_fault : IfErr answer (IsFaultOfSomeText texts)
  -- no read failed, except for a fault of the source
  pub intact : IsIntact texts (source.broken old) (source.broken new) answer

-- the reader takes a piece with this answer, whatever `count` bytes it has taken before
abbrev pub HasTakenPiece : {S O E : Type 0} (of : reader.Ghosts S O E) → S → S → ℕ → List ℕ → Result Bool E → Type 0
HasTakenPiece of old new count piece answer = (before : List ℕ) → of.fed old before → length before ≡ count →
    HasTakenAll of.texts (of.fed new) (of.held new) (of.complete new) (before ++ piece) answer
