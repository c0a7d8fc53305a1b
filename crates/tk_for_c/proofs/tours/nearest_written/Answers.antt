use Rattle.std.proofs.Common.{◌∙◌, sym}
use Rattle.tk_for_c.proofs.tours.nearest_written.Goals as goal

pub returns-in-Ok-clause-given : goal.returns-in-Ok-clause-given
returns-in-Ok-clause-given c = λ done.
    let table = c.table_of.ensures in
    rw (table.size, table.distances, sym (c.copied.ensures.given done ∙ c.deref.ensures.value))
    at c.in-Ok.ensures.nearest
