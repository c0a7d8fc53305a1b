use Rattle.std.proofs.Common.{◌/◌, arith, rules}
use Rattle.tk_segments.specs.SeenTours.{list_of}
use Rattle.tk_tour.proofs.StoredTours.Sides.{IsFlipped, flipped}
use Rattle.tk_segments.proofs.tour.SegmentTourTourStore.flip.Goals as goal
use Rattle.tk_segments.proofs.tour.SegmentTourTourStore.flip.Goals.{After-reverse}

-- the list after the flip
list_flipped : (c : After-reverse) →
    IsFlipped (list_of c.args.self.now.seen) (list_of c.reverse.new.self.seen) c.shorter_side-first.result.0
    c.shorter_side-first.result.1 c.args.a c.args.b c.args.c c.args.d
list_flipped c = flipped _ _ _ _ _ _ _ _ c.args.self.now.seen.tour c.requires c.shorter_side-first.ensures.side
    c.reverse.ensures.order

pub returns-clause-steps : goal.returns-clause-steps
returns-clause-steps c = (list_flipped (goal.at.returns-clause-steps c).After-reverse).steps

pub returns-clause-made : goal.returns-clause-made
returns-clause-made c = (list_flipped (goal.at.returns-clause-made c).After-reverse).made

pub returns-clause-places : goal.returns-clause-places
returns-clause-places c = (list_flipped (goal.at.returns-clause-places c).After-reverse).places

pub returns-clause-undone : goal.returns-clause-undone
returns-clause-undone c = (list_flipped (goal.at.returns-clause-undone c).After-reverse).undone

pub returns-clause-size : goal.returns-clause-size
returns-clause-size c = (list_flipped (goal.at.returns-clause-size c).After-reverse).size

pub returns-clause-kept : goal.returns-clause-kept
returns-clause-kept c =
    record {
      flipped =
          record {
            flips = 1;
            swaps = c.shorter_side-first.result.1 / 2;
            reversed = (list_flipped (goal.at.returns-clause-kept c).After-reverse).reversed;
            flips_are = search rules;
            swaps_are = c.reverse.ensures.swaps;
            undo_swaps = c.reverse.ensures.others.1;
            copied = c.reverse.ensures.others.2;
          };
      most = c.reverse.ensures.others.3;
      size = c.reverse.ensures.size;
      writes = omega (arith, c.reverse.ensures.writes, c.reverse.ensures.written);
    }
