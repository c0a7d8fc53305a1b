-- The formats of other programs, by the first two lines of a file.
use Rattle.std.specs.Prelude.{ℕ, ◌^◌, ◌-◌, Bool, true, false, not, ◌&&◌, ◌||◌, ◌==◌, nat_lt, List, [], ◌∷◌}
use Rattle.std.specs.Prelude.{Option, Some, None, is_some, if◌then◌else◌}
use Rattle.std.specs.Char.{is_ascii_digit}
use Rattle.tk_words.specs.Lex.{behind, is_blank, is_empty}
use Rattle.tk_words.specs.Words.{keyword_of}
use Rattle.tk_params.specs.Keys.{key_of}
use Rattle.tk_kinds.specs.declared.foreign.Foreign.{Foreign}
use Rattle.tk_kinds.specs.declared.foreign.Foreign.TheVariants as files
use Rattle.tk_kinds.specs.Lines.{after_front_word, after_line, after_token, contains, first_line}
use Rattle.tk_kinds.specs.Lines.{first_token, front_word, number}

-- a comma or a semicolon
abbrev pub has_separator : List ℕ → Bool
has_separator line = contains 44 line || contains 59 line

abbrev pub begins_blank : List ℕ → Bool
begins_blank [] = false
begins_blank (b ∷ bs) = is_blank b

-- a keyword or a key
abbrev pub is_word : List ℕ → Bool
is_word word = is_some (keyword_of word) || is_some (key_of word)

-- a keyword or a key, and a blank after it
abbrev pub has_keyword : List ℕ → Bool
has_keyword line =
    is_word (front_word (behind is_blank line)) && begins_blank (after_front_word (behind is_blank line))

-- a colon, an equals sign, a #, or a keyword or key at the front
abbrev pub is_header : List ℕ → Bool
is_header line = contains 58 line || contains 61 line || contains 35 line || has_keyword line

abbrev pub is_csv : List ℕ → List ℕ → Bool
is_csv first second = has_separator first && has_separator second && not (is_header first)

abbrev pub is_below : ℕ → Option ℕ → Bool
is_below limit None = false
is_below limit (Some n) = nat_lt n limit

-- the bytes after a number below the limit, after two of them, and after three
abbrev pub after_number : ℕ → List ℕ → Option (List ℕ)
after_number limit line = if is_below limit (number (first_token line)) then Some (after_token line) else None

abbrev pub then_number : ℕ → Option (List ℕ) → Option (List ℕ)
then_number limit None = None
then_number limit (Some rest) = after_number limit rest

abbrev pub after_two : ℕ → List ℕ → Option (List ℕ)
after_two limit line = then_number limit (after_number limit line)

abbrev pub after_three : ℕ → List ℕ → Option (List ℕ)
after_three limit line = then_number limit (after_two limit line)

-- nothing but blanks after the numbers
abbrev pub is_end : Option (List ℕ) → Bool
is_end None = false
is_end (Some rest) = is_empty (first_token rest)

-- a limit of all numbers
abbrev pub any : ℕ
any = 2 ^ 64 - 1

abbrev pub same_number : Option ℕ → Option ℕ → Bool
same_number None None = true
same_number (Some m) (Some n) = m == n
same_number _ _ = false

abbrev pub has_equal_numbers : List ℕ → Bool
has_equal_numbers line = same_number (number (first_token line)) (number (first_token (after_token line)))

-- the same number twice, and three numbers
abbrev pub is_edges : List ℕ → List ℕ → Bool
is_edges first second = has_equal_numbers first && is_end (after_two any first) && is_end (after_three any second)

abbrev pub is_some_line : Option (List ℕ) → Bool
is_some_line None = false
is_some_line (Some line) = true

-- four cities from 0
abbrev pub has_cities : List ℕ → ℕ → Bool
has_cities line cities = is_some_line (then_number cities (then_number cities (after_two cities line)))

abbrev pub has_cities_of : List ℕ → Option ℕ → Bool
has_cities_of line None = false
has_cities_of line (Some cities) = has_cities line cities

-- the number of cities, and cities from 0
abbrev pub is_concorde : List ℕ → List ℕ → Bool
is_concorde first second = is_end (after_number any first) && has_cities_of second (number (first_token first))

-- a digit, a blank, a comma or a bracket
abbrev pub is_list_byte : ℕ → Bool
is_list_byte b = is_ascii_digit b || is_blank b || b == 44 || b == 91 || b == 93

abbrev pub is_list : List ℕ → Bool
is_list line = is_empty (behind is_list_byte line)

-- a list of numbers, and nothing on the next line
abbrev pub is_one_line : List ℕ → List ℕ → Bool
is_one_line first second = is_list first && not (is_empty (first_token first)) && is_empty (first_token second)

abbrev pub has_word : List ℕ → Bool
has_word line = not (is_empty (front_word (behind is_blank line)))

-- one number on a line; all numbers on one line; or two numbers at the front of the first line. No word follows it
abbrev pub of_list : List ℕ → List ℕ → Option Foreign
of_list first second =
    if has_word second then None
    else (if is_end (after_number any first) then Some files.Column
    else (if is_one_line first second then Some files.Row
    else (if is_some_line (after_two any first) then Some files.Rows else None)))

-- the format that these two lines show
abbrev pub of_lines : List ℕ → List ℕ → Option Foreign
of_lines first second =
    if is_csv first second then Some files.Csv
    else (if is_edges first second then Some files.Edges
    else (if is_concorde first second then Some files.Concorde else of_list first second))

-- the format that the first two lines of a text show
abbrev pub foreign_of : List ℕ → Option Foreign
foreign_of text = of_lines (first_line text) (first_line (after_line text))
