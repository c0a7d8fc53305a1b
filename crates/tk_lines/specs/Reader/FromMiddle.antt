-- The result of the rest of a text, in the middle of a line or in a section. Pieces defines the result of a whole text;
-- these definitions describe a reader that has taken a part of one.
use Rattle.std.specs.Prelude.{ℕ, Bool, true, List, [], ◌∷◌, ◌++◌, Option, Result}
use Rattle.tk_words.specs.declared.keyword.Keyword.{Keyword}
use Rattle.tk_words.specs.declared.fault.TextFault.{TextFault}
use Rattle.tk_words.specs.Lex.{lines, Line, Token, tokens}
use Rattle.tk_lines.specs.Pieces.{Piece, End, Format, section_at, cut, covered, end_piece, end_token, judge}

-- the lines, with these bytes put before the first one
abbrev pub prepend : List ℕ → List Line → List Line
prepend pre [] = []
prepend pre (l ∷ ls) = record l { bytes = pre ++ l.bytes } ∷ ls

-- the result of the bytes that come after these pieces and, on line n, after the bytes `pre`; lines up to `upto` belong
-- to a section
unfoldable pub from_line : {V : Type 0} → Format V → List Piece → ℕ → List ℕ → Bool → ℕ → List ℕ →
    Option (Result V TextFault)
from_line f before upto pre ended n bs =
    judge f before (cut f.extent before upto (prepend pre (lines ended n bs)) ++ end_piece (lines ended n bs))

-- the pieces of a section, given all tokens after its word, and the end of the bytes as a token
unfoldable pub new_pieces : {V : Type 0} → Format V → List Piece → Keyword → ℕ → List Token → Token → List Piece
new_pieces f before word n0 toks end = section_at f.extent before word n0 toks end

abbrev pub end_of : List Line → Token
end_of [] = record { bytes = []; line = 0; whole = true }
end_of (l ∷ ls) = end_token l ls

abbrev pub ending : Token → List Piece
ending t = End t.line t.whole ∷ []

unfoldable pub goes : {V : Type 0} → Format V → List Piece → List Piece → List Line → Token →
    Option (Result V TextFault)
goes f before new ls end = judge f before ((new ++ cut f.extent (before ++ new) (covered 0 new) ls) ++ ending end)

-- the result of the bytes that continue a section, after these of its tokens and, on line n, after the bytes `pre`
unfoldable pub in_section : {V : Type 0} → Format V → List Piece → Keyword → ℕ → List Token → List ℕ → Bool → ℕ →
    List ℕ → Option (Result V TextFault)
in_section f before word n0 toks pre e n bs =
    goes f before (new_pieces f before word n0 (toks ++ tokens (prepend pre (lines e n bs))) (end_of (lines e n bs)))
    (prepend pre (lines e n bs)) (end_of (lines e n bs))
