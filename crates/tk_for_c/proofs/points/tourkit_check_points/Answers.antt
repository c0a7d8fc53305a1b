use Rattle.std.proofs.Common.{◌≡◌, ◌∙◌, ap, arith, sym}
use Rattle.tk_for_c.proofs.points.tourkit_check_points.Goals as goal
use Rattle.tk_for_c.specs.Outcomes.{with_status}

pub returns-in-Ok-Some-clause-given : goal.returns-in-Ok-Some-clause-given
returns-in-Ok-Some-clause-given c = λ done.
    let are = rw c.in-Ok-Some.field-0-is at c.in-Ok-Some.ensures.places in
    let table = c.table_of.ensures in
    record {
      type = c.in-Some.kind;
      places = c.in-Ok-Some.places;
      type_is = c.in-Some.ensures.some;
      are = are;
      verdict = rw (table.size, are.count, table.distances) at (c.verdict_in.ensures.given done);
    }

pub returns-in-Ok-Some-clause-refused : goal.returns-in-Ok-Some-clause-refused
returns-in-Ok-Some-clause-refused c = λ high.
    let reported = c.verdict_in.ensures in
    let three : c.verdict_in.result.status ≡ 3 = omega (arith, reported.known, reported.unrefused, high) in
    reported.memory three ∙ ap (λ s. with_status s 0) (sym three)

pub returns-in-Ok-Some-clause-places : goal.returns-in-Ok-Some-clause-places
returns-in-Ok-Some-clause-places c = λ _ _. rw c.in-Ok-Some.field-0-is at c.in-Ok-Some.ensures.some
