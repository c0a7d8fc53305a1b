-- The name of a problem.
use Rattle.std.specs.Prelude.{◌≡◌, ◌≢◌, ℕ, ◌≤◌, false, List, All, length}
use Rattle.tk_words.specs.Lex.{LF, is_empty, trim}

-- a name as the reader returns it: 1 to 1,024 bytes on one line, without blanks at its ends
pub record IsName (name : List ℕ) : Type 0 where
  pub some : is_empty name ≡ false
  pub short : length name ≤ 1024
  pub one_line : All (λ b. b ≢ LF) name
  pub trimmed : trim name ≡ name
