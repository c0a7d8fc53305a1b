use Rattle.std.proofs.Common.{rules}
use Rattle.std.proofs.lemmas.Int.{to_z-of_z}
use mir.Syntax.{w64}
use mir.Val.{SFits}
use Rattle.tk_writers.proofs.Pieces.Putting.{Puts-then}
use Rattle.tk_outcomes.proofs.lines.info_lines.put_bounds.Goals as goal

pub returns : goal.returns
returns g c =
    let least_fits : SFits w64 c.args.least = search rules in
    let greatest_fits : SFits w64 c.args.greatest = search rules in
    let least = rw (to_z-of_z w64 c.args.least least_fits) at c.put_coordinate.ensures in
    let greatest = rw (to_z-of_z w64 c.args.greatest greatest_fits) at c.put_coordinate-2.ensures in
    Puts-then (Puts-then (Puts-then (Puts-then c.put.ensures least) c.put-2.ensures) greatest) c.put-3.ensures
