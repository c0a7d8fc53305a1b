use Rattle.tk_problem_text.proofs.SectionTokens.DepotTaken.{has_none}
use Rattle.tk_problem_text.proofs.sections.depot.Depot.new.Goals as goal

pub returns : goal.returns
returns c = has_none c.args.n
