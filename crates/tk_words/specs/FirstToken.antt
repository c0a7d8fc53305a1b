-- A token at the front of bytes.
use Rattle.std.specs.Prelude.{◌≡◌, ◌≤◌, ◌<◌, ℕ, ◌||◌, ◌==◌, true, false, List, length, take, slice_index_or, All}
use Rattle.tk_words.specs.Lex.{LF, is_blank}

-- the bytes begin with this token, which is not too long, and then have a byte that ends it
pub record IsFirstToken (token bytes : List ℕ) : Type 0 where
  pub some : 1 ≤ length token
  pub short : length token ≤ 64
  pub within : length token < length bytes
  pub begins : token ≡ take (length token) bytes
  pub solid : All (λ b. (is_blank b || b == LF) ≡ false) token
  pub ended : (is_blank (slice_index_or bytes (length token) 0) || slice_index_or bytes (length token) 0 == LF) ≡ true
