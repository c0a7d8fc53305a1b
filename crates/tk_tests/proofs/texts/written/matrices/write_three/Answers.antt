use Rattle.std.proofs.Common.{◌+◌, ◌-◌, ◌*◌, slice_index}
use Rattle.tk_tests.specs.declared.texts.written.matrices.TheConstants.{THREE}
use Rattle.tk_tests.proofs.texts.written.matrices.write_three.Goals as goal

pub write_matrix-requires-clause-table : goal.write_matrix-requires-clause-table
write_matrix-requires-clause-table g c = (
  λ a b. slice_index THREE (3 * (a - 1) + (b - 1)),
  record {
    calls = λ a b a-low a-high b-low b-high. ((a-low, a-high), (b-low, b-high));
    gives = λ a b r a-low a-high b-low b-high h. h;
  },
)
