use Rattle.std.proofs.Common.{◌≤◌, ◌∙◌, ap, sym, subst, refl, List, length, take, arith}
use Rattle.std.specs.Prelude.{sum_by}
use Rattle.std.specs.List.{All}
use Rattle.tk_segments.specs.Segments.{segment_size, placed, HaveNames, CanBeFound}
use Rattle.tk_segments.specs.declared.segment.Segment.{Segment}
use Rattle.tk_segments.proofs.SeenTours.Names.{reordered_names, reordered_found}
use Rattle.tk_segments.proofs.SeenTours.Reordering.{IsBegun, begun_reordered}
use Rattle.tk_segments.proofs.SeenTours.Beginning.{begun_laid, begun_shows, begun_sizes}
use Rattle.tk_segments.proofs.turning.begin_segment.Goals as goal

pub place_segments-requires-clause-sizes : goal.place_segments-requires-clause-sizes
place_segments-requires-clause-sizes c =
    let old = c.args.segments.now in
    let P : List Segment → Type 0 = λ u. All (λ r. r.low ≤ r.high) u in
    subst P (sym c.rotate_left.ensures.after) (begun_sizes c.args.size c.args.k old c.requires.laid c.requires.size).0

pub place_segments-requires-clause-fits : goal.place_segments-requires-clause-fits
place_segments-requires-clause-fits c =
    let old = c.args.segments.now in
    omega (
      arith,
      (begun_sizes c.args.size c.args.k old c.requires.laid c.requires.size).1,
      ap (sum_by segment_size) c.rotate_left.ensures.after,
    )

pub returns-clause-shown : goal.returns-clause-shown
returns-clause-shown c = λ order le.
    let old = c.args.segments.now in
    begun_shows c.args.size c.args.k (sum_by segment_size (take c.args.k old)) order old c.place_segments.new.segments
    c.requires.laid le refl (c.place_segments.ensures ∙ ap (placed 0) c.rotate_left.ensures.after)

pub returns-clause-laid : goal.returns-clause-laid
returns-clause-laid c = begun_laid c.args.size c.args.k c.args.segments.now c.place_segments.new.segments
    c.requires.laid
    (c.place_segments.ensures ∙ ap (placed 0) c.rotate_left.ensures.after)

pub returns-clause-names : goal.returns-clause-names
returns-clause-names c = λ names.
    let old = c.args.segments.now in
    let P : List Segment → Type 0 = λ u. HaveNames u in
    subst P (sym (c.place_segments.ensures ∙ ap (placed 0) c.rotate_left.ensures.after))
    (reordered_names (IsBegun (length old) c.args.k) old _ (begun_reordered c.args.k old c.requires.index) names)

pub returns-clause-found : goal.returns-clause-found
returns-clause-found c = λ table found.
    let old = c.args.segments.now in
    let P : List Segment → Type 0 = λ u. CanBeFound c.args.size 32 u table in
    subst P (sym (c.place_segments.ensures ∙ ap (placed 0) c.rotate_left.ensures.after))
    (reordered_found (IsBegun (length old) c.args.k) c.args.size 32 old _ table
    (begun_reordered c.args.k old c.requires.index) found)
