use Rattle.std.proofs.Common.{◌≡◌, length}
use Rattle.tk_tour.specs.ArrayTours.{order_of}
use Rattle.tk_calls.proofs.benchmarks.tour.flip_often.Given as goal

abbrev pub invariant-loop : goal.invariant-loop
invariant-loop l = l.n ≡ length (order_of l.tour)
