use Rattle.std.proofs.lemmas.Bool.{le-ltb, lt-ltb}
use Rattle.tk_picture.proofs.route_lines.put_route_lines.Goals as goal

pub returns-then-count-lt-MANY : goal.returns-then-count-lt-MANY
returns-then-count-lt-MANY g c = rw (lt-ltb c.args.count 20 c.if-count-lt-MANY.true) c.put_routes.ensures

pub returns-else-count-lt-MANY : goal.returns-else-count-lt-MANY
returns-else-count-lt-MANY g c = rw (le-ltb c.args.count 20 c.if-count-lt-MANY.false) c.put_parted.ensures
