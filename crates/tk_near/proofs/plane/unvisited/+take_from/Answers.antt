use Rattle.std.proofs.Common.{◌≡◌, ◌≢◌, ℕ, ◌+◌, ◌*◌, ◌<◌, ◌⊎◌, ◌++◌, ◌∙◌, ap, arith, inl, inr}
use Rattle.std.specs.Prelude.{All}
use Rattle.std.proofs.lemmas.List.Elements.{All-append}
use Rattle.tk_near.specs.declared.plane.tree.Tree.{Tree}
use Rattle.tk_near.specs.CityPoint.{IsPlaced}
use Rattle.tk_near.specs.Tree.{entries_of, IsInBox, parts_of, with_cities}
use Rattle.tk_near.proofs.InPlane.TwoSubtrees.{halves_smaller, shown_back_first}
use Rattle.tk_near.proofs.InPlane.TwoSubtrees.{shown_front_first, shown_upper_first}
use Rattle.tk_near.proofs.InPlane.TwoSubtrees.{taken_lower_first, taken_upper_first}
use Rattle.tk_near.proofs.InPlane.TreeCandidates.{all_back, all_front, IsSmall, placed_small}
use Rattle.tk_near.proofs.InPlane.RemovedCity.{All-swapped, All-taken, taken_before, taken_behind}
use Rattle.tk_near.proofs.plane.unvisited.+take_from.Given.{Over}
use Rattle.tk_near.proofs.plane.unvisited.+take_from.Goals as goal
use Rattle.tk_near.proofs.plane.unvisited.+take_from.Goals.{take_from-In-Split}

pub take_from-search_leaf-requires-clause-placed : goal.take_from-search_leaf-requires-clause-placed
take_from-search_leaf-requires-clause-placed g t c =
    let m = c.args.m.now in
    let placed = rw c.in-Leaf.is at c.requires.placed in
    rw c.deref.ensures.value
    (All-taken (IsPlaced (g.P.Metric.size_of m) (g.P.Planar.place_of m)) c.args.here.now c.in-Leaf.row.items
    c.take_from_leaf.new.row.items c.in_ok-rest-in-Leaf.ensures placed)

-- two halves, in either order: they have fewer parts than the tree, and the cities of its metric
halves_fit : (g : Over) (t : ℕ) (c : take_from-In-Split g t) (first second : Tree) →
    ((first ≡ c.in-Split.upper.value) × (second ≡ c.in-Split.lower.value))
    ⊎ ((first ≡ c.in-Split.lower.value) × (second ≡ c.in-Split.upper.value)) →
    (2 * (parts_of first + parts_of second) + 1 < t)
    × All (IsPlaced (g.P.Metric.size_of c.args.m.now) (g.P.Planar.place_of c.args.m.now))
    (entries_of first ++ entries_of second)
halves_fit g t c first second are =
    let m = c.args.m.now in
    let Here = IsPlaced (g.P.Metric.size_of m) (g.P.Planar.place_of m) in
    let placed = rw c.in-Split.is at c.requires.placed in
    let smaller : parts_of first + parts_of second ≡ parts_of c.in-Split.lower.value + parts_of c.in-Split.upper.value →
    2 * (parts_of first + parts_of second) + 1 < t =
    halves_smaller (parts_of c.args.tree.now) _ _ _ _ t c.decreases (ap parts_of c.in-Split.is) in
    elim are [
      | inl e ↦ (
        smaller (omega (arith, ap parts_of e.0, ap parts_of e.1)),
        rw (e.0, e.1) (All-swapped Here (entries_of c.in-Split.lower.value) (entries_of c.in-Split.upper.value) placed),
      )
      | inr e ↦ (smaller (omega (arith, ap parts_of e.0, ap parts_of e.1)), rw (e.0, e.1) placed)
    ]

pub take_from-take_from_halves-requires : goal.take_from-take_from_halves-requires
take_from-take_from_halves-requires g t c κs within =
    let at = goal.at.take_from-take_from_halves-requires g t c in
    let framed = rw c.in-Split.is at c.requires.framed in
    let first = c.deref_mut.ensures.value in
    let second = c.deref_mut-then-goes_up.ensures.value in
    let fits = halves_fit g t at.In-Split _ _ (inl (first, second)) in (
      fits.0,
      (
        within.0,
        (
          within.1,
          (
            c.requires.here,
            (
              fits.1,
              ((rw first framed.1, rw first framed.3), (rw second framed.0, rw second framed.2)),
            ),
          ),
        ),
      ),
    )

pub take_from-take_from_halves-requires-else-goes_up : goal.take_from-take_from_halves-requires-else-goes_up
take_from-take_from_halves-requires-else-goes_up g t c κs within =
    let at = goal.at.take_from-take_from_halves-requires-else-goes_up g t c in
    let framed = rw c.in-Split.is at c.requires.framed in
    let first = c.deref_mut-else-goes_up.ensures.value in
    let second = c.deref_mut-else-goes_up-2.ensures.value in
    let fits = halves_fit g t at.In-Split _ _ (inr (first, second)) in (
      fits.0,
      (
        within.0,
        (
          within.1,
          (
            c.requires.here,
            (
              fits.1,
              ((rw first framed.0, rw first framed.2), (rw second framed.1, rw second framed.3)),
            ),
          ),
        ),
      ),
    )

pub take_from-returns-else-goes_up-clause-taken : goal.take_from-returns-else-goes_up-clause-taken
take_from-returns-else-goes_up-clause-taken g t c =
    let lower = c.deref_mut-else-goes_up.ensures.value in
    let upper = c.deref_mut-else-goes_up-2.ensures.value in
    let taken = rw (lower, upper) at c.take_from_halves-else-goes_up.ensures.taken in
    taken_lower_first c.args.here.now (entries_of c.in-Split.lower.value) (entries_of c.in-Split.upper.value)
    (entries_of c.take_from_halves-else-goes_up.new.first) (entries_of c.take_from_halves-else-goes_up.new.second)
    (entries_of c.args.tree.now) c.take_from_halves-else-goes_up.result (ap entries_of c.in-Split.is) taken

pub take_from-returns-then-goes_up-clause-taken : goal.take_from-returns-then-goes_up-clause-taken
take_from-returns-then-goes_up-clause-taken g t c =
    let lower = c.deref_mut-then-goes_up.ensures.value in
    let upper = c.deref_mut.ensures.value in
    let taken = rw (lower, upper) at c.take_from_halves.ensures.taken in
    taken_upper_first c.args.here.now (entries_of c.in-Split.lower.value) (entries_of c.in-Split.upper.value)
    (entries_of c.take_from_halves.new.second) (entries_of c.take_from_halves.new.first) c.take_from_halves.result
    (entries_of c.args.tree.now) (ap entries_of c.in-Split.is) taken

pub take_from-returns-then-goes_up-clause-shown : goal.take_from-returns-then-goes_up-clause-shown
take_from-returns-then-goes_up-clause-shown g t c =
    let m = c.args.m.now in
    let placed = rw c.in-Split.is at c.requires.placed in
    let small = placed_small (g.P.Metric.size_of m) (g.P.Planar.place_of m)
    (entries_of c.in-Split.lower.value ++ entries_of c.in-Split.upper.value) (g.met.P.Metric.size_limit m) placed in
    let lower = c.deref_mut-then-goes_up.ensures.value in
    let upper = c.deref_mut.ensures.value in
    let taken = rw (lower, upper) at c.take_from_halves.ensures.taken in
    shown_upper_first c.args.here.now (entries_of c.in-Split.lower.value) (entries_of c.in-Split.upper.value)
    (entries_of c.take_from_halves.new.second) (entries_of c.take_from_halves.new.first)
    (g.P.Metric.distance m) c.args.here.now.city (g.K.Collector.kept_of c.args.collector.now)
    (g.K.Collector.kept_of c.take_from_halves.new.collector) c.take_from_halves.result
    (All-swapped IsSmall (entries_of c.in-Split.lower.value) (entries_of c.in-Split.upper.value) small) taken
    c.take_from_halves.ensures.shown

pub take_from_halves-take_from-requires : goal.take_from_halves-take_from-requires
take_from_halves-take_from-requires g t c κs within =
    let m = c.args.m.now in
    let mine = all_front (IsPlaced (g.P.Metric.size_of m) (g.P.Planar.place_of m)) (entries_of c.args.first.now)
    (entries_of c.args.second.now) c.requires.placed in (
      omega (arith, c.decreases),
      (within.0, (within.1, (c.requires.here, (mine, c.requires.first.1)))),
    )

pub take_from_halves-renew-requires-clause-within : goal.take_from_halves-renew-requires-clause-within
take_from_halves-renew-requires-clause-within g t c =
    All-taken (IsInBox c.args.first_bounds.now) c.args.here.now (entries_of c.args.first.now)
    (entries_of c.take_from.new.tree) c.in-Some.ensures.taken c.requires.first.0

pub take_from_halves-search_half-requires-clause-placed : goal.take_from_halves-search_half-requires-clause-placed
take_from_halves-search_half-requires-clause-placed g t c =
    let m = c.args.m.now in
    all_back (IsPlaced (g.P.Metric.size_of m) (g.P.Planar.place_of m)) (entries_of c.args.first.now)
    (entries_of c.args.second.now) c.requires.placed

pub take_from_halves-returns-in-Some-clause-taken : goal.take_from_halves-returns-in-Some-clause-taken
take_from_halves-returns-in-Some-clause-taken g t c =
    taken_before c.args.here.now (entries_of c.args.first.now) (entries_of c.take_from.new.tree)
    (entries_of c.args.second.now) c.in-Some.ensures.taken

pub take_from_halves-returns-in-Some-clause-shown : goal.take_from_halves-returns-in-Some-clause-shown
take_from_halves-returns-in-Some-clause-shown g t c =
    shown_front_first (g.P.Metric.distance c.args.m.now) c.args.here.now.city (entries_of c.take_from.new.tree)
    (entries_of c.args.second.now) (g.K.Collector.kept_of c.args.collector.now)
    (g.K.Collector.kept_of c.take_from.new.collector) (g.K.Collector.kept_of c.search_half.new.collector)
    c.in-Some.ensures.shown c.search_half.ensures

pub take_from_halves-take_from-requires-2 : goal.take_from_halves-take_from-requires-2
take_from_halves-take_from-requires-2 g t c κs within =
    let m = c.args.m.now in
    let mine = all_back (IsPlaced (g.P.Metric.size_of m) (g.P.Planar.place_of m)) (entries_of c.args.first.now)
    (entries_of c.args.second.now) c.requires.placed in (
      omega (arith, c.decreases),
      (within.0, (within.1, (c.requires.here, (mine, c.requires.second.1)))),
    )

pub take_from_halves-renew-requires-2-clause-within : goal.take_from_halves-renew-requires-2-clause-within
take_from_halves-renew-requires-2-clause-within g t c =
    All-taken (IsInBox c.args.second_bounds.now) c.args.here.now (entries_of c.args.second.now)
    (entries_of c.take_from-2.new.tree) c.in_ok-rest.ensures.taken c.requires.second.0

pub take_from_halves-search_half-requires-2-clause-placed : goal.take_from_halves-search_half-requires-2-clause-placed
take_from_halves-search_half-requires-2-clause-placed g t c =
    let m = c.args.m.now in
    rw c.in_default.ensures.taken.0
    (all_front (IsPlaced (g.P.Metric.size_of m) (g.P.Planar.place_of m)) (entries_of c.args.first.now)
    (entries_of c.args.second.now) c.requires.placed)

pub take_from_halves-returns-clause-taken : goal.take_from_halves-returns-clause-taken
take_from_halves-returns-clause-taken g t c =
    rw c.in_default.ensures.taken.0
    (taken_behind c.args.here.now (entries_of c.args.first.now) (entries_of c.args.second.now)
    (entries_of c.take_from-2.new.tree) c.in_ok-rest.ensures.taken)

pub take_from_halves-returns-clause-shown : goal.take_from_halves-returns-clause-shown
take_from_halves-returns-clause-shown g t c =
    let m = c.args.m.now in
    let dist = g.P.Metric.distance m in
    let here = c.args.here.now.city in
    let first = entries_of c.args.first.now in
    let second = entries_of c.args.second.now in
    let small = placed_small (g.P.Metric.size_of m) (g.P.Planar.place_of m) (first ++ second)
    (g.met.P.Metric.size_limit m) c.requires.placed in
    let small_first : All IsSmall (entries_of c.take_from.new.tree) =
    rw c.in_default.ensures.taken.0 (all_front IsSmall first second small) in
    let small_second = All-taken IsSmall c.args.here.now second (entries_of c.take_from-2.new.tree)
    c.in_ok-rest.ensures.taken (all_back IsSmall first second small) in
    shown_back_first dist here (entries_of c.take_from.new.tree) (entries_of c.take_from-2.new.tree)
    (g.K.Collector.kept_of c.args.collector.now) (g.K.Collector.kept_of c.take_from-2.new.collector)
    (g.K.Collector.kept_of c.search_half-2.new.collector) small_first small_second
    (c.in_ok-rest.ensures.shown ∙ ap (with_cities dist here (entries_of c.take_from-2.new.tree))
    c.in_default.ensures.shown)
    c.search_half-2.ensures

pub take_from_halves-returns-in_err-rest-clause-taken : goal.take_from_halves-returns-in_err-rest-clause-taken
take_from_halves-returns-in_err-rest-clause-taken g t c =
    let none = All-append (λ q. q ≢ c.args.here.now) (entries_of c.args.first.now) (entries_of c.args.second.now)
    c.in_default.ensures.taken.1 c.in_err-rest.ensures.taken.1 in
    rw c.from_residual.ensures (c.in_default.ensures.taken.0, c.in_err-rest.ensures.taken.0, none)
