use Rattle.std.proofs.lemmas.Grind.{common_steps}
use Rattle.std.proofs.Common.{arith, take, length-take}
use Rattle.tk_descent.specs.Ruled.{IsOnTour}
use Rattle.tk_descent.specs.Sharing.{piece_offers}
use Rattle.tk_descent.proofs.OfferLists.Count.{pieces_counted}
use Rattle.tk_descent.proofs.OfferLists.OnCycle.{each-at}
use Rattle.tk_descent.proofs.OfferLists.Searching.{Searched-more, Searched-early, Searched-none}
use Rattle.tk_descent.proofs.looks.looking.try_segments.Goals as goal

pub loop-piece-init : goal.loop-piece-init
loop-piece-init g c = Searched-none (g.M.Metric.distance c.args.metric.now) _ (omega (arith, c.requires.room))

pub returns-in-Some : goal.returns-in-Some
returns-in-Some g c =
    Searched-early (g.M.Metric.distance c.args.metric.now) (piece_offers c.args.x c.args.y.now) c.args.pieces.now
    c.loop-piece.piece-index _ c.loop-piece-test.true _ _ _ _ c.loop-piece.invariant c.in-Some.ensures

pub loop-piece-preserved : goal.loop-piece-preserved
loop-piece-preserved g c =
    Searched-more (g.M.Metric.distance c.args.metric.now) (piece_offers c.args.x c.args.y.now) c.args.pieces.now
    c.loop-piece.piece-index _ c.loop-piece-test.true _ _ _ c.loop-piece.invariant c.in_default.ensures

pub try_piece-requires-clause-on_tour : goal.try_piece-requires-clause-on_tour
try_piece-requires-clause-on_tour g c =
    each-at (IsOnTour (g.S.TourStore.cities c.args.tour.now)) (piece_offers c.args.x c.args.y.now) c.args.pieces.now
    c.loop-piece.piece-index _ c.loop-piece-test.true c.requires.on_tour

pub try_piece-requires-clause-room : goal.try_piece-requires-clause-room
try_piece-requires-clause-room g c =
    let before = take c.loop-piece.piece-index c.args.pieces.now in
    omega (
      arith,
      c.requires.room,
      pieces_counted (g.M.Metric.distance c.args.metric.now) c.args.x c.args.y.now before _ _ _
          c.loop-piece.invariant,
      length-take c.loop-piece.piece-index c.args.pieces.now,
      c.loop-piece-test.true,
    )

pub returns : goal.returns
returns g c = grind (arith, common_steps)
