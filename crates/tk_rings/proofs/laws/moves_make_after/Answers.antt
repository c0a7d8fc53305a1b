use Rattle.tk_rings.specs.AfterLaws.{after_is}
use Rattle.tk_rings.proofs.laws.moves_make_after.Goals as goal

pub returns : goal.returns
returns c = after_is c.args.ring.now c.args.made.now c.requires.distinct c.requires.some c.args.offer.now
    c.requires.makes
