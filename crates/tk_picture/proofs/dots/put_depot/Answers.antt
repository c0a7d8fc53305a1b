use Rattle.tk_picture.proofs.dots.put_depot.Goals as goal

pub returns-in-Some : goal.returns-in-Some
returns-in-Some g c = rw c.in-Some.is c.put_square.ensures
