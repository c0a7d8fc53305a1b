use Rattle.tk_near.specs.Near.{near_of}
use Rattle.tk_starts.proofs.Merging.Pairs.PairsFound.{Sound, Earlier, Here}
use Rattle.tk_starts.proofs.merges.pairs.candidate_pairs.Given as goal

abbrev pub invariant-loop-c : goal.invariant-loop-c
invariant-loop-c g l = record {
  sound : Sound (g.M.Metric.distance l.metric) (near_of l.near) (g.M.Metric.size_of l.metric) l.hub l.pairs;
  earlier : Earlier (g.M.Metric.distance l.metric) (near_of l.near) (g.M.Metric.size_of l.metric) l.hub l.c l.pairs;
}

abbrev pub invariant-loop-d : goal.invariant-loop-d
invariant-loop-d g l = record {
  sound : Sound (g.M.Metric.distance l.metric) (near_of l.near) (g.M.Metric.size_of l.metric) l.hub l.pairs;
  earlier : Earlier (g.M.Metric.distance l.metric) (near_of l.near) (g.M.Metric.size_of l.metric) l.hub l.c l.pairs;
  here : Here (g.M.Metric.distance l.metric) (g.M.Metric.size_of l.metric) l.hub l.c l.d-items l.d-index l.pairs;
}
