use Rattle.std.proofs.Common.{ap, ◌∙◌}
use Rattle.tk_writers.proofs.Pieces.Putting.{Puts-then}
use Rattle.tk_picture.specs.Extents.{across, down}
use Rattle.tk_picture.proofs.view.View.put_spot.Goals as goal

pub returns : goal.returns
returns g c =
    let extent = c.args.self.now.extent in
    let right = c.across.ensures ∙ ap (across extent) c.get-place.ensures in
    let below = c.down.ensures ∙ ap (down extent) c.get-place.ensures in
    rw (right, below) at (Puts-then (Puts-then c.put_wide.ensures c.put.ensures) c.put_wide-2.ensures)
