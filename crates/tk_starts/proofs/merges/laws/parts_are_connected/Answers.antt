use Rattle.tk_starts.proofs.Merging.Parts.PartsConnected.{IsConnected-from_part, part-from_connected}
use Rattle.tk_starts.proofs.merges.laws.parts_are_connected.Goals as goal

pub returns : goal.returns
returns c = (
  λ h. IsConnected-from_part c.args.joints.now c.args.a c.args.b h,
  λ h. part-from_connected c.args.joints.now c.args.a c.args.b h,
)
