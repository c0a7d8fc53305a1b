use Rattle.std.proofs.Common.{◌∙◌, arith}
use Rattle.tk_segments.proofs.SeenTours.Joined.{put_list}
use Rattle.tk_segments.proofs.joining.put_joined.Goals as goal

pub returns-clause-items : goal.returns-clause-items
returns-clause-items c =
    let xs = c.args.segments.now.items in
    c.remove.ensures.by_index.2 ∙ put_list xs c.args.k c.args.segment
    (omega (arith, c.requires.index, c.args.segments.now.ok.0))
