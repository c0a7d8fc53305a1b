use Rattle.std.proofs.Common.{◌∙◌, ap, rules, subst, sym}
use Rattle.std.specs.Int.RustNames.{unsigned_abs}
use Rattle.std.proofs.lemmas.Int.{to_z-of_z}
use mir.Syntax.{w64}
use Rattle.tk_tour.specs.Verdict.{IsVerdict}
use Rattle.tk_tour.specs.declared.verdict.Verdict.TheVariants as verdicts
use Rattle.tk_tour.proofs.CitiesOfTours.{cities_of_tour}
use Rattle.tk_for_c.proofs.tables.verdict_by.Goals as goal
use Rattle.tk_for_c.specs.Outcomes.{of_length}

pub length-requires-clause-cities : goal.length-requires-clause-cities
length-requires-clause-cities g c =
    cities_of_tour c.size.result _ _ (sym c.size.ensures)
    (subst (IsVerdict c.size.result c.args.cities.now) c.in-Ok-Tour.field-0-is c.in-Ok-Tour.ensures)

pub returns-in-Ok-Tour-clause-given : goal.returns-in-Ok-Tour-clause-given
returns-in-Ok-Tour-clause-given g c = λ _. record {
  verdict = verdicts.Tour;
  is = rw (c.in-Ok-Tour.field-0-is, c.size.ensures) at c.in-Ok-Tour.ensures;
  answer_is = c.of_length.ensures ∙ ap of_length (c.unsigned_abs.ensures.value
      ∙ ap unsigned_abs (to_z-of_z w64 c.length.result (search rules) ∙ c.length.ensures));
}

pub returns-in-Ok-WrongCount-clause-given : goal.returns-in-Ok-WrongCount-clause-given
returns-in-Ok-WrongCount-clause-given g c = λ _. record {
  verdict = verdicts.WrongCount;
  is = rw (c.in-Ok-WrongCount.field-0-is, c.size.ensures) at c.in-Ok-WrongCount.ensures;
  answer_is = c.found.ensures;
}

pub returns-in-Ok-OutOfRange-clause-given : goal.returns-in-Ok-OutOfRange-clause-given
returns-in-Ok-OutOfRange-clause-given g c = λ _. record {
  verdict = verdicts.OutOfRange c.in-Ok-OutOfRange.place;
  is = rw (c.in-Ok-OutOfRange.field-0-is, c.size.ensures) at c.in-Ok-OutOfRange.ensures;
  answer_is = c.found-in-Ok-OutOfRange.ensures;
}

pub returns-in-Ok-RepeatedCity-clause-given : goal.returns-in-Ok-RepeatedCity-clause-given
returns-in-Ok-RepeatedCity-clause-given g c = λ _. record {
  verdict = verdicts.RepeatedCity c.in-Ok-RepeatedCity.place;
  is = rw (c.in-Ok-RepeatedCity.field-0-is, c.size.ensures) at c.in-Ok-RepeatedCity.ensures;
  answer_is = c.found-in-Ok-RepeatedCity.ensures;
}
