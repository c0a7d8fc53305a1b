use Rattle.std.proofs.Common.{◌∙◌, w64, rules}
use Rattle.std.proofs.lemmas.Int.{to_z-of_z}
use Rattle.tk_ring_search.proofs.trials.searching.RingSearch.shortest.Goals as goal
use mir.Val.{SFits}

pub returns : goal.returns
returns g c =
    let state = c.args.self.now.state in
    let fits : SFits w64 state.shortest = search rules in
    to_z-of_z w64 state.shortest fits ∙ c.args.self.now.holds.stands.shortest
