use Rattle.tk_picture.proofs.caption.put_section.Goals as goal

pub returns-in-DisplayData : goal.returns-in-DisplayData
returns-in-DisplayData g c = rw c.in-DisplayData.is c.put.ensures

pub returns-in-NodeCoordinates : goal.returns-in-NodeCoordinates
returns-in-NodeCoordinates g c = rw c.in-NodeCoordinates.is c.put-in-NodeCoordinates.ensures
