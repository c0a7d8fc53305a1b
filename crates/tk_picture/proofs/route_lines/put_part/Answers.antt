use Rattle.tk_picture.proofs.route_lines.put_part.Goals as goal

pub returns-in-Whole : goal.returns-in-Whole
returns-in-Whole g c = rw c.in-Whole.is c.put_whole.ensures

pub returns-in-Customers : goal.returns-in-Customers
returns-in-Customers g c = rw c.in-Customers.is c.put_between.ensures

pub returns-in-Depot : goal.returns-in-Depot
returns-in-Depot g c = rw c.in-Depot.is c.put_at_depot.ensures
