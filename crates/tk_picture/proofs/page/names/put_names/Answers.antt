use Rattle.std.proofs.Common.{◌≡◌, ◌∙◌, ◌++◌, List, [], ◌∷◌, false, length, refl, sym}
use Rattle.std.specs.Prelude.{◌==◌, codes}
use Rattle.tk_writers.proofs.Pieces.Putting.{Puts-then}
use Rattle.tk_writers.specs.Written.{line}
use Rattle.tk_picture.specs.PageText.{name_lines, names_block}
use Rattle.tk_picture.specs.declared.node_names.NodeName.{NodeName}
use Rattle.tk_picture.proofs.page.names.put_names.Goals as goal

block_of : (names : List NodeName) → (length names == 0) ≡ false →
    names_block names ≡ line (codes "<pre id=\"names\" hidden>") ++ name_lines names ++ line (codes "</pre>")
block_of [] some = cc
block_of (name ∷ names) some = refl

pub returns : goal.returns
returns g c =
    rw (block_of c.args.names.now.list.now (sym c.is_empty.ensures ∙ c.if-is_empty.false))
    (Puts-then (Puts-then c.put.ensures c.put_name_lines.ensures) c.put-2.ensures)
