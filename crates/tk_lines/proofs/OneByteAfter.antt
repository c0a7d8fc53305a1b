-- What holds whatever follows, holds where one byte does.
use Rattle.std.proofs.Common.{ℕ, Bool, List, [], refl}
use Rattle.tk_words.specs.declared.keyword.Keyword.{Keyword}
use Rattle.tk_lines.specs.declared.line_state.LineState.{LineState}
use Rattle.tk_lines.specs.declared.line_state.LineState.TheVariants as places
use Rattle.tk_lines.specs.declared.value_scanner.ValueScanner.{ValueScanner}
use Rattle.tk_words.specs.Lex.{Token}
use Rattle.tk_lines.specs.Pieces.{Piece, Format}
use Rattle.tk_lines.specs.Reader.Handlers.{Promise}
use Rattle.tk_lines.specs.Reader.Places.{Next, anything, AtLine, AtTail, AtToken, AtAfter, AtPlace, Fed}
use Rattle.tk_lines.specs.declared.reader.PieceReader.{PieceReader}
use Rattle.tk_lines.proofs.SameStates.{line_reported, token_reported, close_reported, after_reported}

pub token_narrow : {V S : Type 0} (f : Format V) (W : S → List Piece → Keyword → ℕ → List Token → Type 0) (next : Next)
    (form : S) (line : ℕ) (bs pre : List ℕ) → AtToken f W anything form line pre bs → AtToken f W next form line pre bs
token_narrow f W next form line bs pre a = token_reported a (λ e more n. a.same e more refl)

module _ {V S : Type 0} (f : Format V) (H : S → List Piece → Type 0)
    (W : S → List Piece → Keyword → ℕ → List Token → Type 0) (next : Next) (form : S) (line : ℕ) (held : List ℕ)
    (scan : ValueScanner) (bs : List ℕ) where
  line_narrow : (pre : List ℕ) → AtLine f H anything form line pre bs → AtLine f H next form line pre bs
  line_narrow pre a = line_reported a a.lt (λ e more n. a.same e more refl)

  tail_narrow : (word : Keyword) (before : List Piece) (tail : List ℕ) →
      AtTail f anything line held word before tail bs → AtTail f next line held word before tail bs
  tail_narrow word before tail a =
      record {
        upto = a.upto;
        lt = a.lt;
        is_word = a.is_word;
        word_is = a.word_is;
        settled = λ e more n. a.settled e more refl;
        same = λ e more n. a.same e more refl;
      }

  after_narrow : (o : Bool) (pre : List ℕ) → AtAfter f H anything form line o pre bs →
      AtAfter f H next form line o pre bs
  after_narrow o pre a = after_reported a a.last (λ e more n. a.same e more refl)

  pub place_narrow : (p : LineState) → AtPlace f H W anything form line held scan bs p →
      AtPlace f H W next form line held scan bs p
  place_narrow places.Start a = line_narrow [] a
  place_narrow places.Word a = (a.0, line_narrow held a.1)
  place_narrow (places.Value word) a =
      record {
        before = a.before;
        tail = a.tail;
        at = tail_narrow word a.before a.tail a.at;
        header = a.header;
        holds = a.holds;
        scans = a.scans;
        short = a.short;
      }
  place_narrow places.Begin a =
      record {
        word = a.word;
        before = a.before;
        tail = a.tail;
        at = tail_narrow a.word a.before a.tail a.at;
        section = a.section;
        wants = a.wants;
        goes = a.goes;
        blank = a.blank;
      }
  place_narrow places.Gap a = token_narrow f W next form line bs [] a
  place_narrow places.Token a = (a.0, token_narrow f W next form line bs held a.1)
  place_narrow places.Close a = close_reported a (λ e more n. a.same e more refl)
  place_narrow (places.After o) a = after_narrow o [] a
  place_narrow (places.MinusOne o) a = (a.0, after_narrow o held a.1)

-- whatever follows, what is known of that stays
pub narrow : {V S : Type 0} {p : Promise V S} (next : Next) {reader : PieceReader S} {bs : List ℕ} →
    Fed p anything reader bs → Fed p next reader bs
narrow {p = p} next {reader = reader} {bs = bs} fed =
    record {
      line = fed.line;
      at = place_narrow p.format p.holds p.wants next reader.form reader.line reader.held reader.scan bs reader.place
          fed.at;
    }
