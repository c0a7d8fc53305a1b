use Rattle.tk_near.proofs.InPlane.UnvisitedLaws.{AreApart-taken, gone}
use Rattle.tk_starts.proofs.NearestCities.NearestPaths.{first_of_left}
use Rattle.tk_starts.proofs.nearest_tours.by_tree.visit.Goals as goal

pub returns-clause-apart : goal.returns-clause-apart
returns-clause-apart g c =
    AreApart-taken (g.P.Metric.size_of c.args.metric.now) (g.P.Planar.place_of c.args.metric.now) c.args.here
    c.args.left.now c.visit.new.self c.requires.apart c.visit.ensures.taken

pub returns-clause-first : goal.returns-clause-first
returns-clause-first g c =
    let n = g.P.Metric.size_of c.args.metric.now in
    let place_of = g.P.Planar.place_of c.args.metric.now in
    let taken = c.visit.ensures.taken in
    let apart = AreApart-taken n place_of c.args.here c.args.left.now c.visit.new.self c.requires.apart taken in
    first_of_left (g.P.Metric.distance c.args.metric.now) n place_of c.args.here.city c.visit.new.self apart
    (gone n place_of c.args.here c.args.left.now c.visit.new.self c.requires.apart taken) c.visit.result
    c.visit.ensures.first
