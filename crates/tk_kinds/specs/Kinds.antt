-- The kind of a file in the format of another program.
use Rattle.std.specs.Prelude.{ℕ, ◌&&◌, ◌==◌, List, ◌∷◌, if◌then◌else◌}
use Rattle.tk_kinds.specs.declared.foreign.Foreign.{Foreign}
use Rattle.tk_kinds.specs.declared.foreign.Foreign.TheVariants as files
use Rattle.tk_kinds.specs.declared.kind.Kind.{Kind}
use Rattle.tk_kinds.specs.declared.kind.Kind.TheVariants as kinds

-- the text without a byte order mark of UTF-8 at its front
abbrev pub without_mark : List ℕ → List ℕ
without_mark (a ∷ b ∷ c ∷ text) = if a == 239 && b == 187 && c == 191 then text else a ∷ b ∷ c ∷ text
without_mark text = text

-- what the file can be converted to
abbrev pub kind_of_foreign : Foreign → Kind
kind_of_foreign files.Csv = kinds.Problem
kind_of_foreign files.Rows = kinds.Problem
kind_of_foreign _ = kinds.Tour
