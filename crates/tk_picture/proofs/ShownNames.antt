-- What is shown of a name's parts.
use Rattle.std.proofs.Common.{◌≡◌, ℕ, ◌<◌, List, [], ◌∷◌, ◌++◌, length, ap, refl, ◌∙◌}
use Rattle.std.specs.Prelude.{flat_map, IsUtf8}
use Rattle.std.specs.Char.{encode_utf8}
use Rattle.std.specs.Str.{chars}
use Rattle.std.specs.Str.Lossy.{utf8_invalid_len, utf8_lossy, utf8_valid_len}
use Rattle.std.specs.Prelude.{drop}
use Rattle.std.proofs.lemmas.Grind.{flat_map-append}
use Rattle.std.proofs.lemmas.Str.{chars-append, chars-nil, utf8_lossy_chunk, utf8_lossy_empty, utf8_lossy_last_chunk}
use Rattle.tk_picture.specs.Names.{shown_byte, shown_name}

-- the characters after U+FFFD
chars_after_replacement : (bs : List ℕ) → chars (0xEF ∷ 0xBF ∷ 0xBD ∷ bs) ≡ 0xFFFD ∷ chars bs
unfolding chars
chars_after_replacement [] = refl
chars_after_replacement (b ∷ bs) = refl

replacement_shown : shown_byte 0xFFFD ≡ 0xEF ∷ 0xBF ∷ 0xBD ∷ []
unfolding encode_utf8
replacement_shown = refl

-- a text, and what comes after it
shown_text : (text more : List ℕ) → IsUtf8 text →
    flat_map shown_byte (chars (text ++ more)) ≡ flat_map shown_byte (chars text)
    ++ flat_map shown_byte (chars more)
shown_text text more utf8 = ap (flat_map shown_byte) (chars-append text more utf8)
    ∙ flat_map-append shown_byte (chars text) (chars more)

-- a part that is text, a sequence that is none, and the rest
pub shown_chunk : (name valid invalid rest : List ℕ) → name ≡ valid ++ (invalid ++ rest)
    → length valid ≡ utf8_valid_len name
    → length invalid ≡ utf8_invalid_len (drop (utf8_valid_len name) name) → 0 < length invalid → IsUtf8 valid
    → shown_name name ≡ flat_map shown_byte (chars valid) ++ (0xEF ∷ 0xBF ∷ 0xBD ∷ shown_name rest)
shown_chunk name valid invalid rest parts valid_len invalid_len some utf8 =
    ap (λ l. flat_map shown_byte (chars l)) (utf8_lossy_chunk name valid invalid rest parts valid_len invalid_len some)
    ∙ shown_text valid (0xEF ∷ 0xBF ∷ 0xBD ∷ utf8_lossy rest) utf8
    ∙ ap (λ l. flat_map shown_byte (chars valid) ++ flat_map shown_byte l) (chars_after_replacement (utf8_lossy rest))
    ∙ ap (λ l. flat_map shown_byte (chars valid) ++ (l ++ shown_name rest)) replacement_shown

-- a part that is text, and nothing after it
pub shown_last : (name valid invalid rest : List ℕ) → name ≡ valid ++ (invalid ++ rest)
    → length valid ≡ utf8_valid_len name
    → length invalid ≡ 0 → length rest ≡ 0 → IsUtf8 valid → shown_name name ≡ flat_map shown_byte (chars valid)
    ++ shown_name rest
shown_last name valid invalid rest parts valid_len no_invalid no_rest utf8 =
    ap (λ l. flat_map shown_byte (chars l))
    (utf8_lossy_last_chunk name valid invalid rest parts valid_len no_invalid no_rest) ∙ shown_text valid _ utf8

pub shown_empty : (name : List ℕ) → length name ≡ 0 → shown_name name ≡ []
shown_empty name none = ap (λ l. flat_map shown_byte (chars l)) (utf8_lossy_empty name none)
    ∙ ap (flat_map shown_byte) chars-nil
