use Rattle.std.proofs.Common.{◌≡◌, ◌-◌, ◌∙◌, min, rules}
use Rattle.tk_metric.specs.Tables.{table_distance, table_size}
use Rattle.tk_for_c.proofs.ArrayLists.{near_same}
use Rattle.tk_for_c.proofs.tables.near_in.Goals as goal

pub returns-in-Ok-clause-given : goal.returns-in-Ok-clause-given
returns-in-Ok-clause-given c = λ _.
    let k : c.min-width.result ≡ min c.args.candidates.cities (table_size c.args.table.now - 1) = search rules in
    near_same (table_distance c.args.table.now) (table_size c.args.table.now) c.args.candidates.cities c.in-Ok.near
    c.copy_from_slice.new.self c.in-Ok.ensures.size (c.in-Ok.ensures.width ∙ k) (c.copy_from_slice.ensures.after
    ∙ c.entries.ensures.value) c.in-Ok.ensures.near
