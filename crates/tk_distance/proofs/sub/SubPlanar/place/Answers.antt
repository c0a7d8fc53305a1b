use Rattle.tk_distance.proofs.sub.SubPlanar.place.Goals as goal

pub returns : goal.returns
returns g c = c.place.ensures
