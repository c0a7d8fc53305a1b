use Rattle.std.proofs.lemmas.Grind.{common_steps}
use Rattle.std.proofs.Common.{arith}
use Rattle.tk_descent.proofs.looks.listing.OfferList.push_or.Goals as goal

pub returns-then-not-covers-2-clause-limit : goal.returns-then-not-covers-2-clause-limit
returns-then-not-covers-2-clause-limit c = grind (arith, common_steps)
