use Rattle.std.proofs.Common.{map}
use Rattle.tk_starts.specs.PairKeys.{pair_at}
use Rattle.tk_starts.proofs.Merging.Pairs.KeyLists.{wide_pushed}
use Rattle.tk_starts.proofs.merges.pair_list.PairList.push.Goals as goal

pub returns-in_ok-push-2 : goal.returns-in_ok-push-2
returns-in_ok-push-2 c =
    rw (← c.self.view_is, c.in_ok-push-2.ensures.items)
    (wide_pushed c.self.inside.wide.items (map pair_at c.self.inside.keys.items) c.args.pair)
