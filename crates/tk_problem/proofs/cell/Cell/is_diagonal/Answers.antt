use Rattle.std.proofs.lemmas.Bool.Decides.{Decides-eqb}
use Rattle.tk_problem.proofs.cell.Cell.is_diagonal.Goals as goal

pub returns : goal.returns
returns c = Decides-eqb c.args.self.row c.args.self.column
