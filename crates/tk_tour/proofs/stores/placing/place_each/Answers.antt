use Rattle.tk_tour.proofs.StoredTours.Renumbering.{Renumbering-none}
use Rattle.tk_tour.proofs.stores.placing.place_each.Goals as goal

pub loop-k-init : goal.loop-k-init
loop-k-init c = Renumbering-none c.args.order.now c.args.place.now c.requires.tour c.requires.place_size
