-- The same place, of bytes and of what follows that are reported otherwise.
use Rattle.std.proofs.Common.{ℕ, ◌<◌, Bool, List, []}
use Rattle.tk_words.specs.declared.keyword.Keyword.{Keyword}
use Rattle.tk_words.specs.Lex.{Token}
use Rattle.tk_lines.specs.Pieces.{Piece, Format, last_line}
use Rattle.tk_lines.specs.Reader.FromMiddle.{from_line, in_section}
use Rattle.tk_lines.specs.Reader.Places.{Next, Says, AtLine, AtBegin, AtToken, AtClose, AtAfter, IsLastLine}

module _ {V S : Type 0} {f : Format V} {next next' : Next} {form : S} {line : ℕ} {bs bs' : List ℕ} where
  pub line_reported : {H : S → List Piece → Type 0} {pre pre' : List ℕ} {line' : ℕ}
      (a : AtLine f H next form line pre bs)
      → a.upto < line' → Says f next' bs' (λ e more. from_line f a.before a.upto pre' e line' more)
      → AtLine f H next' form line' pre' bs'
  line_reported a lt same = record { before = a.before; upto = a.upto; holds = a.holds; lt = lt; same = same }

  -- the tokens of a section begin
  pub begin_reported : {W : S → List Piece → Keyword → ℕ → List Token → Type 0} {held : List ℕ}
      (a : AtBegin f W next form line held bs)
      → Says f next' bs' (λ e more. in_section f a.before a.word line [] [] e line more)
      → AtToken f W next' form line [] bs'
  begin_reported a same = record {
    before = a.before;
    word = a.word;
    first = line;
    toks = [];
    wants = a.wants;
    goes = a.goes;
    same = same;
  }

  pub token_reported : {W : S → List Piece → Keyword → ℕ → List Token → Type 0} {pre pre' : List ℕ} {line' : ℕ}
      (a : AtToken f W next form line pre bs)
      → Says f next' bs' (λ e more. in_section f a.before a.word a.first a.toks pre' e line' more)
      → AtToken f W next' form line' pre' bs'
  token_reported a same = record {
    before = a.before;
    word = a.word;
    first = a.first;
    toks = a.toks;
    wants = a.wants;
    goes = a.goes;
    same = same;
  }

  pub close_reported : {H : S → List Piece → Type 0} (a : AtClose f H next form line bs)
      → Says f next' bs' (λ e more. in_section f a.before a.word a.first a.toks [] e line more)
      → AtClose f H next' form line bs'
  close_reported a same = record {
    before = a.before;
    word = a.word;
    first = a.first;
    toks = a.toks;
    holds = a.holds;
    closed = a.closed;
    last = a.last;
    same = same;
  }

  pub after_reported : {H : S → List Piece → Type 0} {o o' : Bool} {pre pre' : List ℕ} {line' : ℕ}
      (a : AtAfter f H next form line o pre bs) → IsLastLine o' (last_line a.first a.toks) line'
      → Says f next' bs' (λ e more. in_section f a.before a.word a.first a.toks pre' e line' more)
      → AtAfter f H next' form line' o' pre' bs'
  after_reported a last same = record {
    before = a.before;
    word = a.word;
    first = a.first;
    toks = a.toks;
    holds = a.holds;
    ends = a.ends;
    last = last;
    same = same;
  }
