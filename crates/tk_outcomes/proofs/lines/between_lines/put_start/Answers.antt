use Rattle.tk_outcomes.proofs.lines.between_lines.put_start.Goals as goal

pub returns-in-Some : goal.returns-in-Some
returns-in-Some g c = rw c.in-Some.is c.put_savings_line.ensures

pub returns-in-None : goal.returns-in-None
returns-in-None g c = rw c.in-None.is c.put_routes_line.ensures
