use Rattle.tk_search.proofs.double_bridges.cuts.Cuts.ends.Goals as goal

pub returns : goal.returns
returns g c = cc
