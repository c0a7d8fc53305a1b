-- Sections that are lists, which end at -1 or EOF.
use Rattle.std.specs.Prelude.{◌≡◌, suc, true, false, ◌&&◌, List, [], ◌∷◌, Option, Some, None, if◌then◌else◌}
use Rattle.tk_words.specs.declared.fault.TextKind.TheVariants as kinds
use Rattle.tk_words.specs.Lex.{Token}
use Rattle.tk_lines.specs.Pieces.{Extent, Stop, Fault, After, Trailing}
use Rattle.tk_words.specs.Entry.{is_eof}
use Rattle.tk_words.specs.MinusOne.{is_ending, one_more}

abbrev pub with_one : Extent → Extent
with_one e = record e { count = suc e.count }

-- the extent of a list of numbers: up to -1 and an optional second -1, up to EOF, or up to the end of the tokens
unfoldable pub list_extent : List Token → Extent
list_extent [] = record { count = 0; closed = false; at_eof = false }
list_extent (t ∷ ts) =
    let rest = list_extent ts in
    if is_ending t then record { count = suc (one_more ts); closed = true; at_eof = false }
    else (if t.whole && is_eof t.bytes then record { count = 0; closed = false; at_eof = true } else with_one rest)

-- the entries before the -1 that ends the list
unfoldable pub list_entries : List Token → List Token
list_entries [] = []
list_entries (t ∷ ts) = let rest = list_entries ts in if is_ending t then [] else t ∷ rest

abbrev pub trailing_stop : After → Option Stop
trailing_stop (Trailing line) = Some (Fault line kinds.TrailingData)
trailing_stop _ = None

-- tokens that do not end a list
abbrev pub AreEntries : List Token → Type 0
AreEntries [] = Unit {0}
AreEntries (t ∷ ts) = (is_ending t ≡ false) × ((t.whole && is_eof t.bytes) ≡ false) × AreEntries ts
