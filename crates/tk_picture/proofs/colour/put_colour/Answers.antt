use Rattle.tk_picture.proofs.colour.put_colour.Goals as goal

pub returns-in-1 : goal.returns-in-1
returns-in-1 g c = rw c.in-1.is c.put.ensures

pub returns-in-2 : goal.returns-in-2
returns-in-2 g c = rw c.in-2.is c.put-in-2.ensures

pub returns-in-3 : goal.returns-in-3
returns-in-3 g c = rw c.in-3.is c.put-in-3.ensures

pub returns-in-4 : goal.returns-in-4
returns-in-4 g c = rw c.in-4.is c.put-in-4.ensures

pub returns-in-5 : goal.returns-in-5
returns-in-5 g c = rw c.in-5.is c.put-in-5.ensures

pub returns-in-6 : goal.returns-in-6
returns-in-6 g c = rw c.in-6.is c.put-in-6.ensures

pub returns-in-7 : goal.returns-in-7
returns-in-7 g c = rw c.in-7.is c.put-in-7.ensures
