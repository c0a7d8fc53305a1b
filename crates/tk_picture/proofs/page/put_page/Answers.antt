use Rattle.tk_writers.proofs.Pieces.Putting.{Puts-then}
use Rattle.tk_picture.proofs.page.put_page.Goals as goal

pub returns : goal.returns
returns g c =
    let before = Puts-then (Puts-then c.put_opening.ensures c.put_picture.ensures) c.put.ensures in
    Puts-then (Puts-then (Puts-then (Puts-then (Puts-then (Puts-then before c.put_table.ensures) c.put_cities.ensures)
    c.put_paths.ensures) c.put_leg_lines.ensures) c.put_names.ensures) c.put_ending.ensures
