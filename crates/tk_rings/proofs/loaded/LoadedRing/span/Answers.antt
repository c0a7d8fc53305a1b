use Rattle.std.proofs.Common.{◌+◌, ◌<◌, ◌≤◌, ◌-◌, slice_index, ap, arith}
use Rattle.tk_rings.specs.LoadedRings.{cities_in, demands_in}
use Rattle.tk_rings.proofs.SpanSums.{entry, few, first_entry, first_within, rises, span_copy, span_whole}
use Rattle.tk_rings.proofs.loaded.LoadedRing.span.Goals as goal

pub index-requires-then-first-index : goal.index-requires-then-first-index
index-requires-then-first-index g c =
    let s = c.args.self.now in
    let h = s.along in
    let counts = s.sums.counts.items in
    let before = entry counts c.args.p _ c.index-first.ensures (omega (arith, h.sizes.counts, c.requires)) in
    let upto = entry counts (c.args.q + 1) _ c.index.ensures (omega (arith, h.sizes.counts, c.requires)) in
    let more : slice_index counts c.args.p < slice_index counts (c.args.q + 1) =
    omega (arith, before, upto, c.if-first-index.true) in
    let known = few (demands_in s) (cities_in s) s.sums h c.args.p c.args.q c.requires.0 c.requires.1 more in
    omega (arith, before, known)

pub index-requires-then-first-index-2 : goal.index-requires-then-first-index-2
index-requires-then-first-index-2 g c =
    let s = c.args.self.now in
    let h = s.along in
    let counts = s.sums.counts.items in
    let before = entry counts c.args.p _ c.index-first.ensures (omega (arith, h.sizes.counts, c.requires)) in
    let upto = entry counts (c.args.q + 1) _ c.index.ensures (omega (arith, h.sizes.counts, c.requires)) in
    let more : slice_index counts c.args.p < slice_index counts (c.args.q + 1) =
    omega (arith, before, upto, c.if-first-index.true) in
    let copy = first_entry (demands_in s) (cities_in s) s.sums h c.args.p c.args.q c.requires.0 c.requires.1 more _ _
    before
    c.index-then-first-index.ensures in
    let within = first_within (demands_in s) (cities_in s) s.sums h c.args.p c.args.q c.requires.0 c.requires.1 more in
    omega (arith, copy, within, h.sizes.loads, c.requires)

pub overflow_sub-result : goal.overflow_sub-result
overflow_sub-result g c =
    let s = c.args.self.now in
    let h = s.along in
    let counts = s.sums.counts.items in
    let loads = s.sums.loads.items in
    let before = entry counts c.args.p _ c.index-first.ensures (omega (arith, h.sizes.counts, c.requires)) in
    let upto = entry counts (c.args.q + 1) _ c.index.ensures (omega (arith, h.sizes.counts, c.requires)) in
    let more : slice_index counts c.args.p < slice_index counts (c.args.q + 1) =
    omega (arith, before, upto, c.if-first-index.true) in
    let copy = first_entry (demands_in s) (cities_in s) s.sums h c.args.p c.args.q c.requires.0 c.requires.1 more _ _
    before
    c.index-then-first-index.ensures in
    let within = first_within (demands_in s) (cities_in s) s.sums h c.args.p c.args.q c.requires.0 c.requires.1 more in
    let at = entry loads _ _ c.index-then-first-index-2.ensures (omega (
      arith,
      copy,
      within,
      h.sizes.loads,
      c.requires,
    )) in
    let start = entry loads c.args.p _ c.index-then-first-index-3.ensures (omega (arith, h.sizes.loads, c.requires)) in
    omega (arith, at, start, ap (slice_index loads) copy, within)

pub overflow_sub-result-else-first-index : goal.overflow_sub-result-else-first-index
overflow_sub-result-else-first-index g c =
    let s = c.args.self.now in
    let h = s.along in
    let counts = s.sums.counts.items in
    let loads = s.sums.loads.items in
    let before = entry counts c.args.p _ c.index-first.ensures (omega (arith, h.sizes.counts, c.requires)) in
    let upto = entry counts (c.args.q + 1) _ c.index.ensures (omega (arith, h.sizes.counts, c.requires)) in
    let none : slice_index counts (c.args.q + 1) ≤ slice_index counts c.args.p =
    omega (arith, before, upto, c.if-first-index.false) in
    let end = entry loads (c.args.q + 1) _ c.index-else-first-index.ensures (omega (arith, h.sizes.loads, c.requires))
    in
    let start = entry loads c.args.p _ c.index-else-first-index-2.ensures (omega (arith, h.sizes.loads, c.requires)) in
    let grows = rises (demands_in s) (cities_in s) s.sums h c.args.p c.args.q c.requires.0 c.requires.1 none in
    omega (arith, end, start, grows)

pub returns-then-first-index : goal.returns-then-first-index
returns-then-first-index g c =
    let s = c.args.self.now in
    let h = s.along in
    let counts = s.sums.counts.items in
    let loads = s.sums.loads.items in
    let before = entry counts c.args.p _ c.index-first.ensures (omega (arith, h.sizes.counts, c.requires)) in
    let upto = entry counts (c.args.q + 1) _ c.index.ensures (omega (arith, h.sizes.counts, c.requires)) in
    let more : slice_index counts c.args.p < slice_index counts (c.args.q + 1) =
    omega (arith, before, upto, c.if-first-index.true) in
    let copy = first_entry (demands_in s) (cities_in s) s.sums h c.args.p c.args.q c.requires.0 c.requires.1 more _ _
    before
    c.index-then-first-index.ensures in
    let within = first_within (demands_in s) (cities_in s) s.sums h c.args.p c.args.q c.requires.0 c.requires.1 more in
    let at = entry loads _ _ c.index-then-first-index-2.ensures (omega (
      arith,
      copy,
      within,
      h.sizes.loads,
      c.requires,
    )) in
    let start = entry loads c.args.p _ c.index-then-first-index-3.ensures (omega (arith, h.sizes.loads, c.requires)) in
    span_copy (demands_in s) (cities_in s) s.sums h c.args.p c.args.q c.requires.0 c.requires.1 more _
    (omega (arith, at, start, ap (slice_index loads) copy))

pub returns-else-first-index : goal.returns-else-first-index
returns-else-first-index g c =
    let s = c.args.self.now in
    let h = s.along in
    let counts = s.sums.counts.items in
    let loads = s.sums.loads.items in
    let before = entry counts c.args.p _ c.index-first.ensures (omega (arith, h.sizes.counts, c.requires)) in
    let upto = entry counts (c.args.q + 1) _ c.index.ensures (omega (arith, h.sizes.counts, c.requires)) in
    let none : slice_index counts (c.args.q + 1) ≤ slice_index counts c.args.p =
    omega (arith, before, upto, c.if-first-index.false) in
    let end = entry loads (c.args.q + 1) _ c.index-else-first-index.ensures (omega (arith, h.sizes.loads, c.requires))
    in
    let start = entry loads c.args.p _ c.index-else-first-index-2.ensures (omega (arith, h.sizes.loads, c.requires)) in
    span_whole (demands_in s) (cities_in s) s.sums h c.args.p c.args.q c.requires.0 c.requires.1 none _
    (omega (arith, end, start))
