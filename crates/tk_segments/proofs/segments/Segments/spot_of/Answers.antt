use Rattle.std.proofs.Common.{ℕ, List, sym, subst}
use Rattle.tk_segments.specs.Segments.{CanBeFound}
use Rattle.tk_segments.specs.declared.segment.Segment.{Segment}
use Rattle.tk_segments.proofs.SeenTours.Names.{found_by_names}
use Rattle.tk_segments.proofs.segments.Segments.spot_of.Goals as goal

pub spot_of-requires-clause-found : goal.spot_of-requires-clause-found
spot_of-requires-clause-found c =
    let s = c.args.self.now in
    let P : List Segment → Type 0 = λ u. CanBeFound s.size 32 u s.table.items in
    let Q : List ℕ → Type 0 = λ u. CanBeFound s.size 32 c.deref.result.now u in
    subst Q (sym c.deref-3.ensures.value)
    (subst P (sym c.deref.ensures.value) (found_by_names s.size 32 s.segments.items s.home.items s.table.items s.found))
