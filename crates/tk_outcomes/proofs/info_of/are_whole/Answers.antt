use Rattle.std.proofs.Common.{◌≡◌, ◌<◌, ◌≤◌, true, ◌&&◌, ap, sym, ◌∙◌, arith, length, List}
use Rattle.std.specs.Prelude.{slice_index_or}
use Rattle.std.specs.List.{list_all}
use Rattle.std.proofs.lemmas.List.{take_all}
use Rattle.std.proofs.lemmas.List.Folds.{list_all_more}
use Rattle.tk_problem.specs.declared.point.Point.{Point}
use Rattle.tk_problem.specs.Places.{origin}
use Rattle.tk_problem.specs.PlacesOf.{places_of}
use Rattle.tk_outcomes.specs.Infos.{is_whole}
use Rattle.tk_outcomes.proofs.info_of.are_whole.Goals as goal

pub loop-i-preserved : goal.loop-i-preserved
loop-i-preserved c =
    let points : List Point = places_of c.args.places in
    let i = c.loop-i.i in
    let within : i < length points = omega (arith, c.len-i-end.ensures, c.loop-i-test.true) in
    let here : is_whole (slice_index_or points i origin) ≡ true =
    ap is_whole (sym c.get-place.ensures) ∙ sym c.is_whole.ensures ∙ c.if-not-is_whole.false in
    list_all_more is_whole points i origin within
    ∙ ap (λ b. b && is_whole (slice_index_or points i origin)) c.loop-i.invariant ∙ here

pub returns : goal.returns
returns c =
    let points : List Point = places_of c.args.places in
    let all : length points ≤ c.loop-i.i = omega (arith, c.len-i-end.ensures, c.loop-i-test.false) in
    sym c.loop-i.invariant ∙ ap (λ l. list_all is_whole l) (take_all c.loop-i.i points all)
