use Rattle.tk_distance.specs.Tables.{table_distance}
use Rattle.tk_problem_text.specs.ProblemOf.{weights_are}
use Rattle.tk_engines.proofs.ProblemTables.{GivesTable-table, IsTable-table}
use Rattle.tk_engines.proofs.ReadTables.{distances_read}
use Rattle.tk_engines.specs.ReadProblems.{read_distance}
use Rattle.tk_engines.proofs.engines.matrix.write_matrix_of.Goals as goal

pub write_matrix-requires-clause-table : goal.write_matrix-requires-clause-table
write_matrix-requires-clause-table g c =
    let p = c.args.problem.now in
    let table = c.of-table.ensures in
    (read_distance (weights_are p.weights), GivesTable-table c.of-table.result p table.size table.distances)

pub returns-clause-text : goal.returns-clause-text
returns-clause-text g c =
    let p = c.args.problem.now in
    let table = c.of-table.ensures in
    rw c.deref.ensures.value at (c.write_matrix.ensures.text (read_distance (weights_are p.weights))
    (GivesTable-table c.of-table.result p table.size table.distances))

pub returns-clause-failed : goal.returns-clause-failed
returns-clause-failed g c = c.write_matrix.ensures.failed (rw c.deref.ensures.value c.args.problem.now.short)

pub returns-clause-read_back : goal.returns-clause-read_back
returns-clause-read_back g c = λ name.
    let p = c.args.problem.now in
    let table = c.of-table.ensures in
    let distance = read_distance (weights_are p.weights) in
    let same = distances_read (table_distance c.of-table.result) p.weights table.distances in
    rw c.deref.ensures.value at (c.write_matrix.ensures.read_back distance
    (GivesTable-table c.of-table.result p table.size table.distances) (rw c.deref.ensures.value name)
    (IsTable-table c.of-table.result p.n distance same) p.low)
