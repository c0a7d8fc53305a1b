use Rattle.std.proofs.lemmas.Grind.{common_steps}
use Rattle.std.proofs.Common.{◌<◌, ◌≤◌, ◌-◌, ◌*◌, ◌/◌, ℕ, List, length, arith, get_or}
use Rattle.tk_segments.specs.Segments.{AreLaidOut, AreNamed, CanBeFound}
use Rattle.tk_segments.specs.declared.segment.Segment.{Segment}
use Rattle.tk_segments.proofs.NoSegment.{no_segment}
use Rattle.tk_segments.proofs.SeenTours.Naming.{held_home, named_home, named_less}
use Rattle.tk_segments.proofs.spots.index_of.Goals as goal

first_one : (n p : ℕ) (segments : List Segment) (home table : List ℕ) → AreNamed segments home → CanBeFound n 32
    segments table →
    n ≤ 32 * length table → p < n →
    (p / 32 < length table) × (get_or table (p / 32) 0 < length segments)
    × (get_or home (get_or table (p / 32) 0) 0 < length segments)
    × ((get_or segments (get_or home (get_or table (p / 32) 0) 0) no_segment).low ≤ p)
first_one n p segments home table named found le lt =
    let b : ℕ = p / 32 in
    let lb : b < length table = omega (arith, le, lt) in
    let h = held_home segments home (get_or table b 0) (b * 32) no_segment named (found.early b lb (omega (arith, lt)))
    in
    (lb, h.0, h.1, omega (arith, h.2))

next_one : (n p k : ℕ) (segments : List Segment) (home table : List ℕ) → AreLaidOut n segments → AreNamed segments home
    →
    CanBeFound n 32 segments table → k < length segments → (get_or segments k no_segment).high ≤ p → p < n →
    ((get_or segments k no_segment).next < length segments) ×
    (get_or home (get_or segments k no_segment).next 0 < length segments)
    × ((get_or segments (get_or home (get_or segments k no_segment).next 0) no_segment).low ≤ p)
    × (n - (get_or segments (get_or home (get_or segments k no_segment).next 0) no_segment).low < n -
    (get_or segments k no_segment).low)
next_one n p k segments home table laid named found lk le lt =
    let r : Segment = get_or segments k no_segment in
    let w = laid.within k no_segment lk in
    let e = found.next k no_segment lk (omega arith) in
    let h = named_home segments home r.next r.high no_segment named e in
    (named_less segments home r.next r.high no_segment named e, h.0, omega (arith, h.1, le), omega (arith, h.1, w))

pub bounds-home-table : goal.bounds-home-table
bounds-home-table c =
    let f = first_one c.args.size c.args.place c.args.segments.now c.args.home.now c.args.table.now c.requires.named
    c.requires.found c.requires.buckets c.requires.place_in in
    omega (arith, f.1, c.requires.homes)

pub loop-index-init : goal.loop-index-init
loop-index-init c =
    let f = first_one c.args.size c.args.place c.args.segments.now c.args.home.now c.args.table.now c.requires.named
    c.requires.found c.requires.buckets c.requires.place_in in
    record { index_in = f.2; from = f.3 }

pub loop-index-smaller : goal.loop-index-smaller
loop-index-smaller c =
    let h = c.loop-index in
    (next_one c.args.size c.args.place h.index c.args.segments.now c.args.home.now c.args.table.now c.requires.laid
    c.requires.named c.requires.found h.invariant.index_in c.loop-index-test.true c.requires.place_in).3

pub loop-index-preserved : goal.loop-index-preserved
loop-index-preserved c =
    let h = c.loop-index in
    let f = next_one c.args.size c.args.place h.index c.args.segments.now c.args.home.now c.args.table.now
    c.requires.laid
    c.requires.named c.requires.found h.invariant.index_in c.loop-index-test.true c.requires.place_in in
    record { index_in = f.1; from = f.2 }

pub returns-clause-holds : goal.returns-clause-holds
returns-clause-holds c = grind (arith, common_steps)
