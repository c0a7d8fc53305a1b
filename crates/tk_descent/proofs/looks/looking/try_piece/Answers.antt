use Rattle.std.proofs.Common.{◌∙◌, sym, w64, rules, arith}
use Rattle.std.proofs.lemmas.Int.{to_z-of_z}
use Rattle.tk_descent.proofs.OfferLists.Searching.{Searched-on, Searched-stop, Searched-inside}
use Rattle.tk_descent.specs.Ruled.{IsOnTour}
use Rattle.tk_descent.specs.Offers.{or_offer}
use Rattle.tk_descent.proofs.OfferLists.Count.{one_counted}
use Rattle.tk_descent.proofs.OfferLists.OnCycle.{each-first, each-second}
use Rattle.tk_descent.proofs.looks.looking.try_piece.Goals as goal
use mir.Val.{SFits}

pub returns-then-covers : goal.returns-then-covers
returns-then-covers g c =
    let y = c.args.y.now in
    Searched-inside (g.M.Metric.distance c.args.metric.now) c.args.x y.city y.after y.before c.args.piece.now.segment
    c.args.count.now (sym c.covers.ensures ∙ c.if-covers.true) (omega (arith, c.requires.room))

pub returns-in-Some : goal.returns-in-Some
returns-in-Some g c = Searched-stop (g.M.Metric.distance c.args.metric.now) _ _ _ _ _ c.in-Some.ensures

pub returns : goal.returns
returns g c =
    Searched-on (g.M.Metric.distance c.args.metric.now) _ _ _ _ _ _ c.in_default.ensures c.try_or-2.ensures

pub try_or-requires-clause-on_tour : goal.try_or-requires-clause-on_tour
try_or-requires-clause-on_tour g c =
    let y = c.args.y.now in
    let s = c.args.piece.now.segment in
    each-first (IsOnTour (g.S.TourStore.cities c.args.tour.now)) (or_offer c.args.x y.city s y.after)
    (or_offer c.args.x y.city s y.before) c.requires.on_tour

pub try_or-requires-2-clause-on_tour : goal.try_or-requires-2-clause-on_tour
try_or-requires-2-clause-on_tour g c =
    let y = c.args.y.now in
    let s = c.args.piece.now.segment in
    each-second (IsOnTour (g.S.TourStore.cities c.args.tour.now)) (or_offer c.args.x y.city s y.after)
    (or_offer c.args.x y.city s y.before) c.requires.on_tour

pub try_or-requires-2-clause-margin : goal.try_or-requires-2-clause-margin
try_or-requires-2-clause-margin g c =
    let fits : SFits w64 c.margin_of-margin-2.result = search rules in
    to_z-of_z w64 c.margin_of-margin-2.result fits ∙ c.margin_of-margin-2.ensures

pub try_or-requires-2-clause-room : goal.try_or-requires-2-clause-room
try_or-requires-2-clause-room g c =
    let y = c.args.y.now in
    omega (
      arith,
      c.requires.room,
      one_counted (g.M.Metric.distance c.args.metric.now) c.args.x y.city c.args.piece.now.segment y.after _ _ _
          c.in_default.ensures,
    )
