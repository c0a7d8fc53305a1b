use Rattle.std.proofs.Common.{◌≡◌, ◌++◌, arith, drop, length, take}
use Rattle.std.specs.Prelude.{IsPermutation}
use Rattle.std.proofs.lemmas.List.{take_at}
use Rattle.tk_near.specs.CityPoint.{IsRow}
use Rattle.tk_near.proofs.InPlane.EachCityOnce.{IsNumberedRow-front, IsRow-by_number, IsRow-front_moved, IsRow-moved}
use Rattle.tk_near.proofs.plane.tree.build_tree.Goals as goal

pub returns-clause-row : goal.returns-clause-row
returns-clause-row g c =
    let n = g.P.Metric.size_of c.args.m.now in
    let place_of = g.P.Planar.place_of c.args.m.now in
    let first = c.in_ok-row.row.items in
    let split = c.split_at_mut-first in
    let front : split.result.0.now ≡ take c.args.among first =
    rw c.deref_mut.ensures.value at split.ensures.front in
    let back : split.result.1.now ≡ drop c.args.among first =
    rw c.deref_mut.ensures.value at split.ensures.back in
    let moved : IsPermutation (take c.args.among first) c.build.new.row = rw front at c.in_ok-tree.ensures.moved in
    let row = IsRow-front_moved n c.args.among place_of first c.build.new.row
    (IsRow-by_number n place_of first c.in_ok-row.ensures) moved in
    let given = c.build.new.row ++ split.result.1.now in
    let same : IsRow n place_of given = rw back row in
    let size : length given ≡ c.in_ok-row.row.len = omega (arith, same.count, c.in_ok-row.ensures.count) in
    rw (take_at given (drop (length given) first) c.in_ok-row.row.len size) same

pub returns-clause-entries : goal.returns-clause-entries
returns-clause-entries g c =
    let place_of = g.P.Planar.place_of c.args.m.now in
    let first = c.in_ok-row.row.items in
    let split = c.split_at_mut-first in
    let front : split.result.0.now ≡ take c.args.among first =
    rw c.deref_mut.ensures.value at split.ensures.front in
    let moved : IsPermutation (take c.args.among first) c.build.new.row = rw front at c.in_ok-tree.ensures.moved in
    let part = IsNumberedRow-front c.args.among _ place_of first c.requires.part c.in_ok-row.ensures in
    rw c.in_ok-tree.ensures.entries
    (IsRow-moved c.args.among place_of (take c.args.among first) c.build.new.row
    (IsRow-by_number c.args.among place_of (take c.args.among first) part) moved)
