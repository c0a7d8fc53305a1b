use Rattle.std.proofs.Common.{ℕ, List, subst}
use Rattle.tk_segments.specs.Segments.{IsSpot, IsAfterPlace}
use Rattle.tk_segments.specs.declared.segment.Segment.{Segment}
use Rattle.tk_segments.proofs.segments.Segments.before.Goals as goal

pub returns : goal.returns
returns c =
    let P : List Segment → Type 0 = λ u. (v w : ℕ) → IsSpot u w c.args.spot → IsAfterPlace c.args.self.now.size v w →
    IsSpot u v c.before-2.result in
    subst P c.deref.ensures.value c.before-2.ensures
