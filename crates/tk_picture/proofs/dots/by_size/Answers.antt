use Rattle.std.proofs.lemmas.Bool.{le-ltb, lt-ltb}
use Rattle.tk_picture.proofs.dots.by_size.Goals as goal

pub returns-then-cities-lt-MANY : goal.returns-then-cities-lt-MANY
returns-then-cities-lt-MANY c = rw (lt-ltb c.args.cities 2000 c.if-cities-lt-MANY.true)

pub returns-else-cities-lt-MANY : goal.returns-else-cities-lt-MANY
returns-else-cities-lt-MANY c = rw (le-ltb c.args.cities 2000 c.if-cities-lt-MANY.false)
