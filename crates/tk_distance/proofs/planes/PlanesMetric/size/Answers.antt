use Rattle.tk_distance.proofs.planes.PlanesMetric.size.Goals as goal

pub returns : goal.returns
returns c = c.len.ensures
