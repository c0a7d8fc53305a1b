-- Names in XML and HTML texts.
--     shown_byte c      a character of a name
--     shown_name name      the whole name; bytes that are not UTF-8 are shown as U+FFFD
--     IsNoMarkup b      a property of each byte of a name that is shown
use Rattle.std.specs.Prelude.{ℕ, ◌≢◌, ◌==◌, Bool, ◌&&◌, ◌||◌, nat_lt, List, codes, flat_map, if◌then◌else◌}
use Rattle.std.specs.Char.{encode_utf8}
use Rattle.std.specs.Str.{chars}
use Rattle.std.specs.Str.Lossy.{utf8_lossy}

-- not a control character, not a bidirectional control (U+202A to U+202E, U+2066 to U+2069), and not U+FFFE or U+FFFF,
-- which XML does not allow
abbrev pub is_plain : ℕ → Bool
is_plain c = (nat_lt 31 c && nat_lt c 127) || (nat_lt 159 c && nat_lt c 8234) || (nat_lt 8238 c && nat_lt c 8294)
    || (nat_lt 8297 c && nat_lt c 65534) || nat_lt 65535 c

-- a character that is not one of the four of markup
abbrev pub shown_unmarked : ℕ → List ℕ
shown_unmarked c = if is_plain c then encode_utf8 c else codes "?"

abbrev pub shown_byte : ℕ → List ℕ
shown_byte c =
    if c == 38 then codes "&amp;" else (if c == 60 then codes "&lt;"
    else (if c == 62 then codes "&gt;" else (if c == 34 then codes "&quot;"
    else shown_unmarked c)))

abbrev pub shown_name : List ℕ → List ℕ
shown_name name = flat_map shown_byte (chars (utf8_lossy name))

-- a byte that does not begin or end a tag, and does not end an attribute
abbrev pub IsNoMarkup : ℕ → Type 0
IsNoMarkup b = (b ≢ 60) × (b ≢ 62) × (b ≢ 34)
