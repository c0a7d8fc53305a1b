use Rattle.std.proofs.Common.{refl}
use Rattle.tk_lists.proofs.Tours.{comment_ok}
use Rattle.tk_lists.proofs.tour.TourHandlerHandler.header.Goals as goal

pub returns-in-Comment-clause-ok : goal.returns-in-Comment-clause-ok
returns-in-Comment-clause-ok c =
    λ before v n h scans. rw c.in-Comment.is (comment_ok c.args.self.now before v n h, refl)

pub returns-in-Name-clause-err : goal.returns-in-Name-clause-err
returns-in-Name-clause-err c = λ before v n h scans. rw c.in-Name.is (c.name.ensures.err before v n h scans)

pub returns-in-Type-clause-err : goal.returns-in-Type-clause-err
returns-in-Type-clause-err c = λ before v n h scans. rw c.in-Type.is (c.kind.ensures.err before v n h scans)

pub returns-in-Dimension-clause-err : goal.returns-in-Dimension-clause-err
returns-in-Dimension-clause-err c =
    λ before v n h scans. rw c.in-Dimension.is (c.dimension.ensures.err before v n h scans)
