-- Why a file is not a text that can be read.
use Rattle.std.specs.Prelude.{ℕ, Bool, ◌||◌, ◌==◌, nat_le, List, [], ◌∷◌, Option, Some, None, if◌then◌else◌}
use Rattle.std.specs.List.{list_any, starts_with}
use Rattle.tk_kinds.specs.declared.foreign.Foreign.{Foreign}
use Rattle.tk_kinds.specs.declared.wrapping.Wrapping.{Wrapping}
use Rattle.tk_kinds.specs.declared.wrapping.Wrapping.TheVariants as files
use Rattle.tk_kinds.specs.Foreign.{foreign_of}

abbrev pub begins : List ℕ → List ℕ → Bool
begins bytes text = starts_with (λ a b. a == b) text bytes

-- gzip, or a byte order mark of UTF-8 or UTF-16
abbrev pub begun_by : List ℕ → Option Wrapping
begun_by text =
    if begins (31 ∷ 139 ∷ []) text then Some files.Gzip
    else (if begins (239 ∷ 187 ∷ 191 ∷ []) text then Some files.Mark
    else (if begins (255 ∷ 254 ∷ []) text || begins (254 ∷ 255 ∷ []) text then Some files.Utf16 else None))

abbrev pub in_foreign : Option Foreign → Option Wrapping
in_foreign None = None
in_foreign (Some foreign) = Some (files.Foreign foreign)

-- what the line with a number shows otherwise: a NUL byte on it, or, in the first two lines, another format
abbrev pub shown_by : List ℕ → ℕ → List ℕ → Option Wrapping
shown_by text number line =
    if list_any (λ b. b == 0) line then Some files.Binary
    else (if nat_le number 2 then in_foreign (foreign_of text) else None)

abbrev pub or_else : Option Wrapping → Option Wrapping → Option Wrapping
or_else None other = other
or_else (Some wrapping) other = Some wrapping

-- what the line with a number shows: the first one by the first bytes of the text, too
abbrev pub wrapping_of : List ℕ → ℕ → List ℕ → Option Wrapping
wrapping_of text number line =
    if number == 1 then or_else (begun_by text) (shown_by text number line) else shown_by text number line
