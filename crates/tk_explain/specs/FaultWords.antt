-- The words that mean a fault.
use Rattle.std.specs.Prelude.{ℕ, Bool, not, ◌&&◌, ◌||◌, ◌==◌, List, map}
use Rattle.std.specs.List.{list_any}
use Rattle.std.specs.Char.{to_ascii_uppercase}
use Rattle.tk_words.specs.Lex.{behind, is_empty}
use Rattle.tk_words.specs.Words.{same_bytes}
use Rattle.tk_explain.specs.Faults.{faults}

-- equal words, whatever their case
abbrev pub same_fault_word : List ℕ → List ℕ → Bool
same_fault_word bs text = same_bytes (map to_ascii_uppercase bs) (map to_ascii_uppercase text)

-- a number without its leading zeros
abbrev pub without_zeros : List ℕ → List ℕ
without_zeros bs = behind (λ b. b == 48) bs

-- the word is this number, if there is one, or this name
abbrev pub is_named : List ℕ × List ℕ → List ℕ → Bool
is_named (number, name) what =
    not (is_empty number) && same_fault_word (without_zeros what) number || same_fault_word what name

-- the word is the number or the name of a fault of the table
abbrev pub is_fault : List ℕ → Bool
is_fault what = list_any (λ fault. is_named fault what) faults
