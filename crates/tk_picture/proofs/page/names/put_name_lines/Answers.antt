use Rattle.std.proofs.Common.{◌≡◌, ℕ, ◌+◌, ◌<◌, ◌++◌, List, append-nil, get_or, length, refl, take}
use Rattle.std.proofs.lemmas.Grind.{flat_map-append}
use Rattle.std.proofs.lemmas.List.{take_more}
use Rattle.tk_writers.proofs.Pieces.Putting.{Puts-then}
use Rattle.tk_writers.specs.Written.{line}
use Rattle.tk_picture.specs.Names.{shown_name}
use Rattle.tk_picture.specs.PageText.{name_lines}
use Rattle.tk_picture.specs.declared.node_names.NodeName.{NodeName}
use Rattle.tk_picture.proofs.page.names.put_name_lines.Goals as goal

-- the lines of one name more
one_more : (names : List NodeName) (n : ℕ) (name : NodeName) → n < length names → name ≡ get_or names n name →
    name_lines (take (n + 1) names) ≡ name_lines (take n names) ++ line (shown_name name.text.items)
one_more names n name within is = rw (take_more names n name within, flat_map-append, append-nil, ← is) refl

pub loop-name-preserved : goal.loop-name-preserved
loop-name-preserved g c =
    rw (one_more c.args.names.now c.loop-name.name-index c.name-item.result c.loop-name-test.true c.name-item.is)
    (Puts-then c.loop-name.invariant (Puts-then (rw c.deref.ensures.value at c.put_name.ensures) c.put.ensures))
