use Rattle.std.proofs.Common.{◌≡◌, ◌<◌, ◌⊎◌, ℕ, ap, inl, inr}
use Rattle.std.specs.Prelude.{All}
use Rattle.tk_near.specs.declared.plane.city_point.CityPoint.{CityPoint}
use Rattle.tk_near.specs.declared.plane.tree.Tree.{Tree}
use Rattle.tk_near.specs.CityPoint.{IsPlaced}
use Rattle.tk_near.specs.Tree.{entries_of, parts_of, IsFramed, with_cities}
use Rattle.tk_near.proofs.InPlane.TreeCandidates.{IsSmall, kept_without_part, all_front, all_back, part_smaller}
use Rattle.tk_near.proofs.InPlane.TreeCandidates.{seen_both, seen_both_back, placed_small}
use Rattle.tk_near.proofs.plane.tree.+search.Given.{Over}
use Rattle.tk_near.proofs.plane.tree.+search.Goals as goal
use Rattle.tk_near.proofs.plane.tree.+search.Goals.{In-Split, After-last-then-is_before, After-last-else-is_before-2}
use Rattle.tk_near.proofs.plane.tree.+search.Goals.{then-may_enter, else-may_enter}
use Rattle.tk_near.proofs.plane.tree.+search.Goals.{then-may_enter-3, else-may_enter-3}

-- a city of the metric, with its place
abbrev IsOfMetric : (g : Over) → g.row.P.Denot → CityPoint → Type 0
IsOfMetric g m = IsPlaced (g.P.Metric.size_of m) (g.P.Planar.place_of m)

-- a half is smaller, and can be searched
half_fits : (g : Over) (t : ℕ) (c : In-Split g t) (half : Tree) →
    (half ≡ c.in-Split.lower.value) ⊎ (half ≡ c.in-Split.upper.value) →
    (parts_of half < t) × (All (IsOfMetric g c.args.m.now) (entries_of half) × IsFramed half)
half_fits g t c half is =
    let Here = IsOfMetric g c.args.m.now in
    let placed = rw c.in-Split.is at c.requires.placed in
    let framed = rw c.in-Split.is at c.requires.framed in (
      part_smaller c.args.tree.now _ _ half t c.decreases (ap parts_of c.in-Split.is) is,
      elim is [
        | inl e ↦ rw e (all_front Here _ _ placed, framed.2)
        | inr e ↦ rw e (all_back Here _ _ placed, framed.3)
      ],
    )

-- what is kept is as if the cities of a tree were seen from here
abbrev Saw : (g : Over) → g.row.P.Denot → CityPoint → Tree → g.row.K.Denot → g.row.K.Denot → Type 0
Saw g m here tree before now =
    g.K.Collector.kept_of now ≡ with_cities (g.P.Metric.distance m) here.city (entries_of tree)
    (g.K.Collector.kept_of before)

-- the lower half first, and then the upper one
lower_then_upper : (g : Over) (t : ℕ) (c : After-last-then-is_before g t) (now : g.row.K.Denot) →
    Saw g c.args.m.now c.args.here.now c.in-Split.upper.value c.if-may_enter.collector now →
    Saw g c.args.m.now c.args.here.now c.args.tree.now c.args.collector.now now
lower_then_upper g t c now upper =
    let m = c.args.m.now in
    let placed = rw c.in-Split.is at c.requires.placed in
    let framed = rw c.in-Split.is at c.requires.framed in
    let lower : Saw g m c.args.here.now c.in-Split.lower.value c.args.collector.now c.if-may_enter.collector =
    elim c.if-may_enter.branch [
      | then-may_enter w ↦ rw w.collector-is (rw w.deref-then-may_enter.ensures at w.search.ensures)
      | else-may_enter w ↦
          rw w.collector-is
          (kept_without_part (g.P.Metric.distance m) (g.P.Metric.size_of m) (g.P.Planar.place_of m)
          c.args.here.now.city c.first-lower_first.result _ _ c.first-lower_first.ensures
          (all_front (IsOfMetric g m) _ _ placed) framed.0 (g.met.K.Collector.climbing c.args.collector.now)
          (g.met.K.Collector.room c.args.collector.now) c.last.ensures c.may_enter.ensures w.if-may_enter.false)
    ] in
    seen_both (g.P.Metric.distance m) c.args.here.now.city c.in-Split.lower.value c.in-Split.upper.value c.args.tree.now
    _ _ _ (ap entries_of c.in-Split.is) lower upper

-- the upper half first, and then the lower one
upper_then_lower : (g : Over) (t : ℕ) (c : After-last-else-is_before-2 g t) (now : g.row.K.Denot) →
    Saw g c.args.m.now c.args.here.now c.in-Split.lower.value c.if-may_enter-3.collector now →
    Saw g c.args.m.now c.args.here.now c.args.tree.now c.args.collector.now now
upper_then_lower g t c now lower =
    let m = c.args.m.now in
    let placed = rw c.in-Split.is at c.requires.placed in
    let framed = rw c.in-Split.is at c.requires.framed in
    let upper : Saw g m c.args.here.now c.in-Split.upper.value c.args.collector.now c.if-may_enter-3.collector =
    elim c.if-may_enter-3.branch [
      | then-may_enter-3 w ↦ rw w.collector-is (rw w.deref-then-may_enter-3.ensures at
          w.search-then-may_enter-3.ensures)
      | else-may_enter-3 w ↦
          rw w.collector-is
          (kept_without_part (g.P.Metric.distance m) (g.P.Metric.size_of m) (g.P.Planar.place_of m)
          c.args.here.now.city c.first-upper_first.result _ _ c.first-upper_first.ensures
          (all_back (IsOfMetric g m) _ _ placed) framed.1 (g.met.K.Collector.climbing c.args.collector.now)
          (g.met.K.Collector.room c.args.collector.now) c.last-else-is_before.ensures c.may_enter-else-is_before.ensures
          w.if-may_enter-3.false)
    ] in
    let small = placed_small (g.P.Metric.size_of m) (g.P.Planar.place_of m) _ (g.met.P.Metric.size_limit m) placed in
    seen_both_back (g.P.Metric.distance m) c.args.here.now.city c.in-Split.lower.value c.in-Split.upper.value
    c.args.tree.now _ _ _ (all_front IsSmall _ _ small) (all_back IsSmall _ _ small) (ap entries_of c.in-Split.is) upper
    lower

pub search-requires : goal.search-requires
search-requires g t c κs within =
    let at = goal.at.search-requires g t c in
    let half = half_fits g t at.In-Split _ (inl c.deref-then-may_enter.ensures) in
    (half.0, (within.0, (within.1, (c.requires.here, half.1))))

pub search-requires-then-may_enter-2 : goal.search-requires-then-may_enter-2
search-requires-then-may_enter-2 g t c κs within =
    let at = goal.at.search-requires-then-may_enter-2 g t c in
    let half = half_fits g t at.In-Split _ (inr c.deref-then-may_enter-2.ensures) in
    (half.0, (within.0, (within.1, (c.requires.here, half.1))))

pub search-requires-then-may_enter-3 : goal.search-requires-then-may_enter-3
search-requires-then-may_enter-3 g t c κs within =
    let at = goal.at.search-requires-then-may_enter-3 g t c in
    let half = half_fits g t at.In-Split _ (inr c.deref-then-may_enter-3.ensures) in
    (half.0, (within.0, (within.1, (c.requires.here, half.1))))

pub search-requires-then-may_enter-4 : goal.search-requires-then-may_enter-4
search-requires-then-may_enter-4 g t c κs within =
    let at = goal.at.search-requires-then-may_enter-4 g t c in
    let half = half_fits g t at.In-Split _ (inl c.deref-then-may_enter-4.ensures) in
    (half.0, (within.0, (within.1, (c.requires.here, half.1))))

pub returns-then-may_enter-2 : goal.returns-then-may_enter-2
returns-then-may_enter-2 g t c =
    lower_then_upper g t (goal.at.returns-then-may_enter-2 g t c).After-last-then-is_before _
    (rw c.deref-then-may_enter-2.ensures at c.search-then-may_enter-2.ensures)

pub returns-else-may_enter-2 : goal.returns-else-may_enter-2
returns-else-may_enter-2 g t c =
    let m = c.args.m.now in
    let collector = c.if-may_enter.collector in
    let placed = rw c.in-Split.is at c.requires.placed in
    let framed = rw c.in-Split.is at c.requires.framed in
    lower_then_upper g t (goal.at.returns-else-may_enter-2 g t c).After-last-then-is_before collector
    (kept_without_part (g.P.Metric.distance m) (g.P.Metric.size_of m) (g.P.Planar.place_of m) c.args.here.now.city
    c.first-upper_first.result _ _ c.first-upper_first.ensures (all_back (IsOfMetric g m) _ _ placed) framed.1
    (g.met.K.Collector.climbing collector) (g.met.K.Collector.room collector) c.last-then-is_before.ensures
    c.may_enter-then-is_before.ensures c.if-may_enter-2.false)

pub returns-then-may_enter-4 : goal.returns-then-may_enter-4
returns-then-may_enter-4 g t c =
    upper_then_lower g t (goal.at.returns-then-may_enter-4 g t c).After-last-else-is_before-2 _
    (rw c.deref-then-may_enter-4.ensures at c.search-then-may_enter-4.ensures)

pub returns-else-may_enter-4 : goal.returns-else-may_enter-4
returns-else-may_enter-4 g t c =
    let m = c.args.m.now in
    let collector = c.if-may_enter-3.collector in
    let placed = rw c.in-Split.is at c.requires.placed in
    let framed = rw c.in-Split.is at c.requires.framed in
    upper_then_lower g t (goal.at.returns-else-may_enter-4 g t c).After-last-else-is_before-2 collector
    (kept_without_part (g.P.Metric.distance m) (g.P.Metric.size_of m) (g.P.Planar.place_of m) c.args.here.now.city
    c.first-lower_first.result _ _ c.first-lower_first.ensures (all_front (IsOfMetric g m) _ _ placed) framed.0
    (g.met.K.Collector.climbing collector) (g.met.K.Collector.room collector) c.last-else-is_before-2.ensures
    c.may_enter-else-is_before-2.ensures c.if-may_enter-4.false)
