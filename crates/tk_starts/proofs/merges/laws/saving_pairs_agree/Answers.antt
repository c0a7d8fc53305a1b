use Rattle.tk_starts.proofs.Merging.Pairs.OneMerge.{pairs_agree}
use Rattle.tk_starts.proofs.merges.laws.saving_pairs_agree.Goals as goal

pub returns : goal.returns
returns c = pairs_agree
