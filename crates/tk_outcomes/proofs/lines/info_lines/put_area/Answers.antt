use Rattle.std.proofs.Common.{rules}
use Rattle.std.proofs.lemmas.Int.{to_z-of_z}
use mir.Syntax.{w64}
use mir.Val.{SFits}
use Rattle.tk_writers.proofs.Pieces.Putting.{Puts-then}
use Rattle.tk_outcomes.proofs.lines.info_lines.put_area.Goals as goal

pub returns : goal.returns
returns g c =
    let area = c.args.area.now in
    let left : SFits w64 area.left = search rules in
    let right : SFits w64 area.right = search rules in
    let bottom : SFits w64 area.bottom = search rules in
    let top : SFits w64 area.top = search rules in
    let across = rw (to_z-of_z w64 area.left left, to_z-of_z w64 area.right right) at c.put_bounds.ensures in
    let down = rw (to_z-of_z w64 area.bottom bottom, to_z-of_z w64 area.top top) at c.put_bounds-2.ensures in
    Puts-then (Puts-then c.put_whole.ensures across) down
