use Rattle.std.proofs.Common.{◌≡◌, length}
use Rattle.tk_segments.specs.Segments.{AreNamedTo}
use Rattle.tk_segments.proofs.naming.name_segments.Given as goal

abbrev pub invariant-loop-index : goal.invariant-loop-index
invariant-loop-index l = record {
  same_length : length l.home ≡ length l.initial.home;
  named : AreNamedTo l.index l.segments l.home;
}
