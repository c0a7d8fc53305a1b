use Rattle.std.proofs.Common.{take, flat_map, None}
use Rattle.tk_descent.specs.Offers.{Searched}
use Rattle.tk_descent.specs.Sharing.{piece_offers}
use Rattle.tk_descent.proofs.looks.looking.try_segments.Given as goal

abbrev pub invariant-loop-piece : goal.invariant-loop-piece
invariant-loop-piece g l =
    Searched (g.M.Metric.distance l.metric) (g.R.Rule.allowed l.rule (g.S.TourStore.cities l.tour))
    (flat_map (piece_offers l.x l.y) (take l.piece-index l.pieces)) None
    l.fn.count l.count
