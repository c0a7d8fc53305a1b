use Rattle.tk_for_c.proofs.points.tourkit_near_points.Goals as goal

pub returns-in-Ok-Some-clause-given : goal.returns-in-Ok-Some-clause-given
returns-in-Ok-Some-clause-given c = λ done.
    let are = rw c.in-Ok-Some.field-0-is at c.in-Ok-Some.ensures.places in
    let table = c.table_of.ensures in
    record {
      type = c.in-Some-kind_of.kind;
      places = c.in-Ok-Some.places;
      type_is = c.in-Some-kind_of.ensures.some;
      are = are;
      near = rw (table.size, are.count, table.distances, c.in-Some.ensures.some) at (c.near_in.ensures.given done);
    }

pub returns-in-Ok-Some-clause-room : goal.returns-in-Ok-Some-clause-room
returns-in-Ok-Some-clause-room c = λ full.
    let are = rw c.in-Ok-Some.field-0-is at c.in-Ok-Some.ensures.places in
    rw (c.table_of.ensures.size, are.count, c.in-Some.ensures.some) at (c.near_in.ensures.room full)

pub returns-in-Ok-Some-clause-candidates : goal.returns-in-Ok-Some-clause-candidates
returns-in-Ok-Some-clause-candidates c = λ _. rw c.in-Some.ensures.some at c.in-Some.candidates.within

pub returns-in-Ok-Some-clause-places : goal.returns-in-Ok-Some-clause-places
returns-in-Ok-Some-clause-places c = λ _ _. rw c.in-Ok-Some.field-0-is at c.in-Ok-Some.ensures.some
