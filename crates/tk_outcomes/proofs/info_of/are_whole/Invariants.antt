-- the coordinates of the points before this one are whole
use Rattle.std.proofs.Common.{◌≡◌, true, take}
use Rattle.std.specs.List.{list_all}
use Rattle.tk_problem.specs.PlacesOf.{places_of}
use Rattle.tk_outcomes.specs.Infos.{is_whole}
use Rattle.tk_outcomes.proofs.info_of.are_whole.Given as goal

abbrev pub invariant-loop-i : goal.invariant-loop-i
invariant-loop-i l = list_all is_whole (take l.i (places_of l.places)) ≡ true
