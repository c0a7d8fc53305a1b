-- The cache of a `Probe`.
use Rattle.tk_distance.specs.declared.metric.Metric.{Ghosts}
use Rattle.tk_descent.specs.declared.probe.Probe.{Probe}
use Rattle.tk_descent.specs.declared.edge_cache.EdgeCache.{EdgeCache}

-- its cache of edge lengths
abbrev pub steps_of : {M : Type 0} → {m : Ghosts M} → Probe M m → EdgeCache
steps_of probe = probe.steps
