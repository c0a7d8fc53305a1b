use Rattle.std.proofs.Common.{◌≡◌, ℕ, ap, ◌∙◌, rules, arith}
use mathlib.Core.Path.{fun_ext}
use Rattle.std.specs.Int.RustNames.{unsigned_abs}
use Rattle.tk_distance.specs.Tables.{table_size-limit}
use Rattle.tk_tour.proofs.CitiesOfTours.{cities_of_tour}
use Rattle.tk_tour.specs.Tour.{tour_length}
use Rattle.tk_outcomes.proofs.tour.length_of.Goals as goal

pub length-requires : goal.length-requires
length-requires c = record {
  cities = cities_of_tour c.args.problem.now.n _ _ c.of.ensures.size c.requires.tour;
  count = omega (arith, c.requires.tour.0, c.of.ensures.size, table_size-limit c.of.result);
}

pub returns : goal.returns
returns c =
    let size : c.unsigned_abs.result ≡ unsigned_abs c.length.result = search rules in
    size ∙ ap unsigned_abs c.length.ensures
    ∙ ap (λ (d : ℕ → ℕ → ℕ). tour_length d c.args.cities.now) (fun_ext (λ a. fun_ext (c.of.ensures.distances a)))
