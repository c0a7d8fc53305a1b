use Rattle.tk_starts.proofs.Merging.Pairs.OneMerge.{lists_agree}
use Rattle.tk_starts.proofs.merges.laws.savings_lists_agree.Goals as goal

pub returns : goal.returns
returns c = lists_agree
