use Rattle.std.proofs.Common.{refl}
use Rattle.tk_distance.proofs.sub.Sub.new.Goals as goal

pub invariant_of-result : goal.invariant_of-result
invariant_of-result g c = record { few = c.requires.few; known = c.requires.known }

pub returns-clause-metric : goal.returns-clause-metric
returns-clause-metric g c = refl

pub returns-clause-cities : goal.returns-clause-cities
returns-clause-cities g c = refl
