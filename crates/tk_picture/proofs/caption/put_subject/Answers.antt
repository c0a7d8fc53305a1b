use Rattle.tk_picture.proofs.caption.put_subject.Goals as goal

pub returns-in-Cities : goal.returns-in-Cities
returns-in-Cities g c =
    rw c.in-Cities.is (rw c.size-cities.ensures.value at c.put_cities.ensures)

pub returns-in-Tour : goal.returns-in-Tour
returns-in-Tour g c =
    rw c.in-Tour.is (rw c.size-cities.ensures.value at c.put_tour.ensures)
