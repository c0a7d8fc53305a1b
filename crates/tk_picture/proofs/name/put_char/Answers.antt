use Rattle.tk_picture.proofs.name.put_char.Goals as goal

pub returns-in-38 : goal.returns-in-38
returns-in-38 g c = rw c.in-38.is c.put.ensures

pub returns-in-60 : goal.returns-in-60
returns-in-60 g c = rw c.in-60.is c.put-in-60.ensures

pub returns-in-62 : goal.returns-in-62
returns-in-62 g c = rw c.in-62.is c.put-in-62.ensures

pub returns-in-34 : goal.returns-in-34
returns-in-34 g c = rw c.in-34.is c.put-in-34.ensures
