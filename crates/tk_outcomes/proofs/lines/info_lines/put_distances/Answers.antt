use Rattle.std.proofs.Common.{subst, ◌∙◌}
use Rattle.tk_writers.specs.Pens.{Puts}
use Rattle.tk_writers.proofs.Pieces.Putting.{Puts-then}
use Rattle.tk_outcomes.proofs.PrintedLines.InfoLines.{distance_pieces}
use Rattle.tk_outcomes.proofs.lines.info_lines.put_distances.Goals as goal

pub returns-in-Plane : goal.returns-in-Plane
returns-in-Plane g c =
    rw c.in-Plane.is (subst (Puts _ _ _) (distance_pieces c.in-Plane.kind c.in-Plane.area _
    (c.as_bytes.ensures.value ∙ c.word.ensures)) (Puts-then c.put_text_line.ensures c.put_area.ensures))

pub returns-in-Explicit : goal.returns-in-Explicit
returns-in-Explicit g c = rw c.in-Explicit.is c.put.ensures
