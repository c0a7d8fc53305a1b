use Rattle.tk_for_c.proofs.weights.tourkit_near_weights.Goals as goal

pub returns-in-Some-table_of-clause-given : goal.returns-in-Some-table_of-clause-given
returns-in-Some-table_of-clause-given c = λ done.
    let table = c.in-Some-table_of.ensures in
    rw (table.size, table.distances, c.in-Some.ensures.some) at (c.near_in.ensures.given done)

pub returns-in-Some-table_of-clause-room : goal.returns-in-Some-table_of-clause-room
returns-in-Some-table_of-clause-room c = λ full.
    rw (c.in-Some-table_of.ensures.size, c.in-Some.ensures.some) at (c.near_in.ensures.room full)

pub returns-in-Some-table_of-clause-candidates : goal.returns-in-Some-table_of-clause-candidates
returns-in-Some-table_of-clause-candidates c = λ _. rw c.in-Some.ensures.some at c.in-Some.candidates.within
