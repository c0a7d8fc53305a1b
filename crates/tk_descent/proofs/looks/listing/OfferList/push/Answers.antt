use Rattle.std.proofs.lemmas.Grind.{common_steps}
use Rattle.std.proofs.Common.{arith}
use Rattle.tk_descent.proofs.looks.listing.OfferList.push.Goals as goal

pub returns : goal.returns
returns c = grind (arith, common_steps)
