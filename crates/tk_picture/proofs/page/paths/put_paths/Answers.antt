use Rattle.tk_writers.proofs.Pieces.Putting.{Puts-then}
use Rattle.tk_picture.proofs.page.paths.put_paths.Goals as goal

pub returns : goal.returns
returns g c =
    Puts-then (Puts-then c.put.ensures c.put_path_lines.ensures) c.put-2.ensures
