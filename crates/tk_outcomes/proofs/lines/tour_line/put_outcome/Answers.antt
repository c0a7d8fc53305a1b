use Rattle.tk_outcomes.proofs.lines.tour_line.put_outcome.Goals as goal

pub returns-in-WrongCount : goal.returns-in-WrongCount
returns-in-WrongCount g c = rw c.in-WrongCount.is c.put_count_line.ensures

pub returns-in-OutOfRange : goal.returns-in-OutOfRange
returns-in-OutOfRange g c = rw c.in-OutOfRange.is c.put_place_line.ensures

pub returns-in-RepeatedCity : goal.returns-in-RepeatedCity
returns-in-RepeatedCity g c = rw c.in-RepeatedCity.is c.put_place_line-in-RepeatedCity.ensures
