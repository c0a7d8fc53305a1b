use Rattle.std.proofs.Common.{rules}
use Rattle.tk_tour.proofs.stores.journal.JournalTour.take_order.Goals as goal

pub returns-clause-settled : goal.returns-clause-settled
returns-clause-settled = search rules
