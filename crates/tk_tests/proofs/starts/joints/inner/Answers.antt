use Rattle.std.proofs.Common.{refl}
use Rattle.tk_build.specs.Joints.{part, part_load, joints_at, may_join, joints}
use Rattle.tk_tests.proofs.starts.joints.inner.Goals as goal

pub returns : goal.returns
unfolding joints may_join part part_load joints_at
returns c = refl
