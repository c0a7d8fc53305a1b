use Rattle.std.proofs.Common.{◌≡◌, ap, rules, ◌∙◌}
use Rattle.std.specs.Int.RustNames.{unsigned_abs}
use Rattle.std.proofs.lemmas.Int.{to_z-of_z}
use mir.Syntax.{w64}
use Rattle.tk_writers.proofs.Pieces.Putting.{Puts-then}
use Rattle.tk_routes.specs.Cvrps.{instance_of}
use Rattle.tk_picture.proofs.page.legs.put_leg.Goals as goal

pub returns : goal.returns
returns g c =
    let length : c.unsigned_abs.result ≡ (instance_of c.args.cvrp.now).distance c.args.from c.args.to =
    c.unsigned_abs.ensures.value
    ∙ ap unsigned_abs (to_z-of_z w64 c.dist.result (search rules) ∙ c.dist.ensures) in
    Puts-then c.put.ensures (rw length at c.put_number.ensures)
