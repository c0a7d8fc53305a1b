use Rattle.std.proofs.Common.{◌+◌, ◌<◌, ◌≤◌, ◌-◌, slice_index, ap, arith}
use Rattle.tk_rings.specs.LoadedRings.{cities_in, demands_in}
use Rattle.tk_rings.proofs.SpanSums.{entry, few, last_entry, last_within, rises, span_back_copy, span_back_whole}
use Rattle.tk_rings.proofs.loaded.LoadedRing.span_back.Goals as goal

pub index-requires-then-index-next-2 : goal.index-requires-then-index-next-2
index-requires-then-index-next-2 g c =
    let s = c.args.self.now in
    let h = s.along in
    let counts = s.sums.counts.items in
    let upto = entry counts (c.args.q + 1) _ c.index-next.ensures (omega (arith, h.sizes.counts, c.requires)) in
    let before = entry counts c.args.p _ c.index.ensures (omega (arith, h.sizes.counts, c.requires)) in
    let more : slice_index counts c.args.p < slice_index counts (c.args.q + 1) =
    omega (arith, before, upto, c.if-index-next.true) in
    let known = few (demands_in s) (cities_in s) s.sums h c.args.p c.args.q c.requires.0 c.requires.1 more in
    omega (arith, upto, known)

pub index-requires-then-index-next-3 : goal.index-requires-then-index-next-3
index-requires-then-index-next-3 g c =
    let s = c.args.self.now in
    let h = s.along in
    let counts = s.sums.counts.items in
    let upto = entry counts (c.args.q + 1) _ c.index-next.ensures (omega (arith, h.sizes.counts, c.requires)) in
    let before = entry counts c.args.p _ c.index.ensures (omega (arith, h.sizes.counts, c.requires)) in
    let more : slice_index counts c.args.p < slice_index counts (c.args.q + 1) =
    omega (arith, before, upto, c.if-index-next.true) in
    let copy = last_entry (demands_in s) (cities_in s) s.sums h c.args.p c.args.q c.requires.0 c.requires.1 more _ _
    upto
    c.index-then-index-next-2.ensures in
    let within = last_within (demands_in s) (cities_in s) s.sums h c.args.p c.args.q c.requires.0 c.requires.1 more in
    omega (arith, copy, within, h.sizes.loads, c.requires)

pub overflow_sub-result : goal.overflow_sub-result
overflow_sub-result g c =
    let s = c.args.self.now in
    let h = s.along in
    let counts = s.sums.counts.items in
    let loads = s.sums.loads.items in
    let upto = entry counts (c.args.q + 1) _ c.index-next.ensures (omega (arith, h.sizes.counts, c.requires)) in
    let before = entry counts c.args.p _ c.index.ensures (omega (arith, h.sizes.counts, c.requires)) in
    let more : slice_index counts c.args.p < slice_index counts (c.args.q + 1) =
    omega (arith, before, upto, c.if-index-next.true) in
    let copy = last_entry (demands_in s) (cities_in s) s.sums h c.args.p c.args.q c.requires.0 c.requires.1 more _ _
    upto
    c.index-then-index-next-2.ensures in
    let within = last_within (demands_in s) (cities_in s) s.sums h c.args.p c.args.q c.requires.0 c.requires.1 more in
    let behind = entry loads _ _ c.index-then-index-next-3.ensures (omega (
      arith,
      copy,
      within,
      h.sizes.loads,
      c.requires,
    )) in
    let end = entry loads (c.args.q + 1) _ c.index-then-index-next.ensures (omega (arith, h.sizes.loads, c.requires)) in
    omega (arith, behind, end, ap (λ v. slice_index loads (v + 1)) copy, within)

pub overflow_sub-result-else-index-next : goal.overflow_sub-result-else-index-next
overflow_sub-result-else-index-next g c =
    let s = c.args.self.now in
    let h = s.along in
    let counts = s.sums.counts.items in
    let loads = s.sums.loads.items in
    let upto = entry counts (c.args.q + 1) _ c.index-next.ensures (omega (arith, h.sizes.counts, c.requires)) in
    let before = entry counts c.args.p _ c.index.ensures (omega (arith, h.sizes.counts, c.requires)) in
    let none : slice_index counts (c.args.q + 1) ≤ slice_index counts c.args.p =
    omega (arith, before, upto, c.if-index-next.false) in
    let end = entry loads (c.args.q + 1) _ c.index-else-index-next.ensures (omega (arith, h.sizes.loads, c.requires)) in
    let start = entry loads c.args.p _ c.index-else-index-next-2.ensures (omega (arith, h.sizes.loads, c.requires)) in
    let grows = rises (demands_in s) (cities_in s) s.sums h c.args.p c.args.q c.requires.0 c.requires.1 none in
    omega (arith, end, start, grows)

pub returns-then-index-next : goal.returns-then-index-next
returns-then-index-next g c =
    let s = c.args.self.now in
    let h = s.along in
    let counts = s.sums.counts.items in
    let loads = s.sums.loads.items in
    let upto = entry counts (c.args.q + 1) _ c.index-next.ensures (omega (arith, h.sizes.counts, c.requires)) in
    let before = entry counts c.args.p _ c.index.ensures (omega (arith, h.sizes.counts, c.requires)) in
    let more : slice_index counts c.args.p < slice_index counts (c.args.q + 1) =
    omega (arith, before, upto, c.if-index-next.true) in
    let copy = last_entry (demands_in s) (cities_in s) s.sums h c.args.p c.args.q c.requires.0 c.requires.1 more _ _
    upto
    c.index-then-index-next-2.ensures in
    let within = last_within (demands_in s) (cities_in s) s.sums h c.args.p c.args.q c.requires.0 c.requires.1 more in
    let behind = entry loads _ _ c.index-then-index-next-3.ensures (omega (
      arith,
      copy,
      within,
      h.sizes.loads,
      c.requires,
    )) in
    let end = entry loads (c.args.q + 1) _ c.index-then-index-next.ensures (omega (arith, h.sizes.loads, c.requires)) in
    span_back_copy (demands_in s) (cities_in s) s.sums h c.args.p c.args.q c.requires.0 c.requires.1 more _
    (omega (arith, behind, end, ap (λ v. slice_index loads (v + 1)) copy))

pub returns-else-index-next : goal.returns-else-index-next
returns-else-index-next g c =
    let s = c.args.self.now in
    let h = s.along in
    let counts = s.sums.counts.items in
    let loads = s.sums.loads.items in
    let upto = entry counts (c.args.q + 1) _ c.index-next.ensures (omega (arith, h.sizes.counts, c.requires)) in
    let before = entry counts c.args.p _ c.index.ensures (omega (arith, h.sizes.counts, c.requires)) in
    let none : slice_index counts (c.args.q + 1) ≤ slice_index counts c.args.p =
    omega (arith, before, upto, c.if-index-next.false) in
    let end = entry loads (c.args.q + 1) _ c.index-else-index-next.ensures (omega (arith, h.sizes.loads, c.requires)) in
    let start = entry loads c.args.p _ c.index-else-index-next-2.ensures (omega (arith, h.sizes.loads, c.requires)) in
    span_back_whole (demands_in s) (cities_in s) s.sums h c.args.p c.args.q c.requires.0 c.requires.1 none _
    (omega (arith, end, start))
