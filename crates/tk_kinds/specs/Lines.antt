-- The lines of a text, and the words and tokens of a line.
use Rattle.std.specs.Prelude.{ℕ, ℤ, pos, Bool, not, ◌==◌, List, [], ◌∷◌, Option, Some, None, if◌then◌else◌}
use Rattle.std.specs.List.{list_any}
use Rattle.tk_words.specs.Lex.{LF, behind, front, integer, is_blank, is_letter, is_word_byte}

-- the word at the front, which begins with a letter, and the bytes after it
abbrev pub front_word : List ℕ → List ℕ
front_word [] = []
front_word (b ∷ bs) = if is_letter b then front is_word_byte (b ∷ bs) else []

abbrev pub after_front_word : List ℕ → List ℕ
after_front_word [] = []
after_front_word (b ∷ bs) = if is_letter b then behind is_word_byte (b ∷ bs) else b ∷ bs

abbrev pub without_first : List ℕ → List ℕ
without_first [] = []
without_first (b ∷ bs) = bs

abbrev pub is_in_line : ℕ → Bool
is_in_line b = not (b == LF)

-- the first line of a text, and the text after its line feed
abbrev pub first_line : List ℕ → List ℕ
first_line text = front is_in_line text

abbrev pub after_line : List ℕ → List ℕ
after_line text = without_first (behind is_in_line text)

abbrev pub is_solid : ℕ → Bool
is_solid b = not (is_blank b)

-- the token at the front of a line, after blanks, and the bytes after it
abbrev pub first_token : List ℕ → List ℕ
first_token line = front is_solid (behind is_blank line)

abbrev pub after_token : List ℕ → List ℕ
after_token line = behind is_solid (behind is_blank line)

abbrev pub natural_of : Option ℤ → Option ℕ
natural_of (Some (pos n)) = Some n
natural_of _ = None

-- the integer from 0 that a token spells
abbrev pub number : List ℕ → Option ℕ
number token = natural_of (integer token)

abbrev pub contains : ℕ → List ℕ → Bool
contains byte line = list_any (λ b. b == byte) line
