use Rattle.std.proofs.Common.{ℕ, List, subst}
use Rattle.tk_segments.specs.Segments.{IsSpot, IsAfterPlace}
use Rattle.tk_segments.specs.declared.segment.Segment.{Segment}
use Rattle.tk_segments.proofs.segments.Segments.neighbours.Goals as goal

pub returns-clause-after : goal.returns-clause-after
returns-clause-after c =
    let P : List Segment → Type 0 = λ u. (v w : ℕ) → IsSpot u v c.args.spot → IsAfterPlace c.args.self.now.size v w →
    IsSpot u w c.neighbours.result.0 in
    subst P c.deref.ensures.value c.neighbours.ensures.after

pub returns-clause-before : goal.returns-clause-before
returns-clause-before c =
    let P : List Segment → Type 0 = λ u. (v w : ℕ) → IsSpot u w c.args.spot → IsAfterPlace c.args.self.now.size v w →
    IsSpot u v c.neighbours.result.1 in
    subst P c.deref.ensures.value c.neighbours.ensures.before
