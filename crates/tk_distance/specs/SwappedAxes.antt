-- Points with x and y swapped.
use Rattle.tk_problem.specs.declared.point.Point.{Point}

abbrev pub turned : Point → Point
turned p = record { x = p.y; y = p.x }
