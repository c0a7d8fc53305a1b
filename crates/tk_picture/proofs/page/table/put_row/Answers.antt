use Rattle.std.proofs.Common.{◌≡◌, ℕ, List, ◌++◌, ap, rules, subst, ◌∙◌}
use Rattle.std.specs.Prelude.{codes, decimal}
use Rattle.std.specs.Int.RustNames.{unsigned_abs}
use Rattle.std.proofs.lemmas.Int.{to_z-of_z}
use mir.Syntax.{w64}
use Rattle.tk_writers.specs.Pens.{Puts}
use Rattle.tk_writers.proofs.Pieces.Putting.{Puts-then}
use Rattle.tk_routes.specs.Cvrps.{instance_of}
use Rattle.tk_routes.specs.Routes.{route_length, route_load}
use Rattle.tk_picture.proofs.PutLine.{Puts-both}
use Rattle.tk_picture.specs.PageText.{share}
use Rattle.tk_picture.proofs.page.table.put_row.Goals as goal

pub returns : goal.returns
returns g c =
    let i = instance_of c.args.cvrp.now in
    let route = c.args.route.now in
    let load : c.load-load.result ≡ route_load i route = c.load-load.ensures in
    let part : c.share.result ≡ share (route_load i route) i.capacity =
    c.share.ensures ∙ ap (λ l. share l c.capacity.result) load
    ∙ ap (share (route_load i route)) c.capacity.ensures.value in
    let way : c.unsigned_abs.result ≡ route_length i route = c.unsigned_abs.ensures.value
    ∙ ap unsigned_abs (to_z-of_z w64 c.length.result (search rules) ∙ c.length.ensures) in
    let cell : ℕ → List ℕ = λ n. codes "<td>" ++ decimal n in
    let puts_load = subst (Puts _ _ _) (ap cell load) c.put_cell-2.ensures in
    Puts-then
    (Puts-both _ _
    (Puts-then
    (Puts-then
    (Puts-both _ _
    (Puts-both _ _ (Puts-then c.put.ensures c.put_number.ensures) c.put_cell.ensures)
    puts_load)
    c.put-2.ensures)
    (rw part at c.put_wide.ensures))
    (rw way at c.put_cell-3.ensures))
    c.put-3.ensures
