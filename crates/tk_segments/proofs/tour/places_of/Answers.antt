use Rattle.std.proofs.Common.{◌≡◌, ◌++◌, length, take, drop, sym, subst, arith}
use Rattle.std.proofs.lemmas.Grind.{common_steps}
use Rattle.tk_tour.specs.Reversal.{IsInverse}
use Rattle.tk_segments.proofs.tour.places_of.Goals as goal

pub returns-in-Tour-clause-inverse : goal.returns-in-Tour-clause-inverse
returns-in-Tour-clause-inverse c =
    let new = c.place_cities.new.place in
    let old = c.in-Ok.place in
    let w : take old.len (new ++ drop (length new) old.items) ≡ new = grind (arith, common_steps) in
    subst (IsInverse c.args.cities.now) (sym w) c.in-Tour.ensures.placed

pub place_cities-requires-clause-free : goal.place_cities-requires-clause-free
place_cities-requires-clause-free c = grind (arith, common_steps)
