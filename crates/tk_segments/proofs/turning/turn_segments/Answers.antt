use Rattle.std.proofs.Common.{◌-◌, ◌∙◌, ℕ, take, sym, ap}
use Rattle.std.specs.Prelude.{sum_by}
use Rattle.tk_segments.specs.Segments.{segment_size, placed}
use Rattle.tk_segments.proofs.SeenTours.Names.{reordered_names, reordered_found}
use Rattle.tk_segments.proofs.SeenTours.Reordering.{IsMirrored, turned_reordered, turned_same}
use Rattle.tk_segments.proofs.SeenTours.Turning.{parts, turned_shows, turned_laid, turned_sizes, sum_sizes-range}
use Rattle.tk_segments.proofs.turning.turn_segments.Goals as goal

pub place_segments-requires-clause-sizes : goal.place_segments-requires-clause-sizes
place_segments-requires-clause-sizes c =
    let old = c.args.segments.now in
    (turned_sizes c.args.size c.args.first old _ _ _ c.turn_round.new.segments
    (parts c.args.size c.args.i c.args.j old c.requires.laid c.requires.range.0 c.requires.range.1)
    c.requires.first c.requires.size c.turn_round.ensures).0

pub place_segments-requires-clause-fits : goal.place_segments-requires-clause-fits
place_segments-requires-clause-fits c =
    let old = c.args.segments.now in
    (turned_sizes c.args.size c.args.first old _ _ _ c.turn_round.new.segments
    (parts c.args.size c.args.i c.args.j old c.requires.laid c.requires.range.0 c.requires.range.1)
    c.requires.first c.requires.size c.turn_round.ensures).1

pub returns-clause-shown : goal.returns-clause-shown
returns-clause-shown c = λ order le.
    let old = c.args.segments.now in
    let m : ℕ = sum_by segment_size (take c.args.j old) - c.args.first in
    turned_shows c.args.size c.args.first m order old _ _ _ c.place_segments.new.segments
    (parts c.args.size c.args.i c.args.j old c.requires.laid c.requires.range.0 c.requires.range.1)
    le c.requires.first (ap (λ v. sum_by segment_size (take c.args.j old) - v) c.requires.first
    ∙ sym (sum_sizes-range c.args.i c.args.j old c.requires.range.0 c.requires.range.1))
    (c.place_segments.ensures ∙ ap (placed c.args.first) c.turn_round.ensures)

pub returns-clause-laid : goal.returns-clause-laid
returns-clause-laid c =
    let old = c.args.segments.now in
    turned_laid c.args.size c.args.first old _ _ _ c.place_segments.new.segments
    (parts c.args.size c.args.i c.args.j old c.requires.laid c.requires.range.0 c.requires.range.1)
    c.requires.first (c.place_segments.ensures ∙ ap (placed c.args.first) c.turn_round.ensures)

pub returns-clause-names : goal.returns-clause-names
returns-clause-names c = λ names.
    let old = c.args.segments.now in
    reordered_names (IsMirrored c.args.i c.args.j) old _
    (turned_reordered c.args.i c.args.j c.args.first old c.place_segments.new.segments c.requires.range.0
    c.requires.range.1
    (c.place_segments.ensures ∙ ap (placed c.args.first) c.turn_round.ensures)) names

pub returns-clause-same : goal.returns-clause-same
returns-clause-same c =
    turned_same c.args.i c.args.j c.args.first c.args.segments.now c.place_segments.new.segments c.requires.range.0
    c.requires.range.1 (c.place_segments.ensures ∙ ap (placed c.args.first) c.turn_round.ensures)

pub returns-clause-found : goal.returns-clause-found
returns-clause-found c = λ table found.
    let old = c.args.segments.now in
    reordered_found (IsMirrored c.args.i c.args.j) c.args.size 32 old _ table
    (turned_reordered c.args.i c.args.j c.args.first old c.place_segments.new.segments c.requires.range.0
    c.requires.range.1
    (c.place_segments.ensures ∙ ap (placed c.args.first) c.turn_round.ensures)) found
