use Rattle.std.proofs.Common.{◌-◌, vec_len, arith}
use Rattle.std.proofs.lemmas.List.{map-append}
use Rattle.tk_distance.specs.Cities.{IsCity}
use Rattle.tk_starts.proofs.Merging.Paths.PathsRead.{AreRead-skip, AreRead-push, AreRead-end, begins, begins_not}
use Rattle.tk_starts.proofs.Merging.Paths.PathsRead.{IsWay-from_path}
use Rattle.tk_starts.proofs.merges.paths.Paths.lists.Goals as goal
use Rattle.tk_starts.proofs.merges.paths.Paths.lists.Goals.{then-begins_list+in_ok-list+in_ok-push, else-begins_list}

pub path-requires-clause-some : goal.path-requires-clause-some
path-requires-clause-some c =
    let s = c.requires.some.1.1 in
    let b = begins c.loop-c.c c.args.hub _ _ _ c.if-begins_list.ensures in
    let r : IsCity (vec_len c.args.self.now.one - 1) c.loop-c.c =
    (c.loop-c.auto.c, omega (arith, c.loop-c-test.true, c.len-c-end.ensures)) in
    let p = s.paths c.loop-c.c r b.1 in
    (p.0, IsWay-from_path _ _ _ _ _ _ _ p.1)

pub loop-c-preserved : goal.loop-c-preserved
loop-c-preserved c load E s j =
    elim c.if-begins_list.branch [
      | then-begins_list+in_ok-list+in_ok-push w ↦
          let b = begins c.loop-c.c c.args.hub _ _ _ w.if-begins_list.ensures in
          let r : IsCity (vec_len c.args.self.now.one - 1) c.loop-c.c =
          (c.loop-c.auto.c, omega (arith, c.loop-c-test.true, c.len-c-end.ensures)) in
          let p = s.paths c.loop-c.c r b.1 in
          let e = w.in_ok-list.ensures p.0 p.1.follows in
          rw (w.lists-is, w.in_ok-push.ensures.items, map-append, e)
          (AreRead-push p.0 s j r b.1 b.0 b.2 p.1 (c.loop-c.invariant load E s j))
      | else-begins_list w ↦
          rw w.lists-is
          (AreRead-skip (begins_not c.loop-c.c c.args.hub _ _ _ w.if-begins_list.ensures)
          (c.loop-c.invariant load E s j))
    ]

pub returns : goal.returns
returns c load E s j =
    AreRead-end s j (omega (arith, c.loop-c-test.false, c.len-c-end.ensures, c.requires.limit.0))
    (c.loop-c.invariant load E s j)
