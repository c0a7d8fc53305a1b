use Rattle.std.proofs.Common.{rules}
use Rattle.tk_tour.proofs.stores.journal.JournalTour.new.Goals as goal

pub returns-clause-counts : goal.returns-clause-counts
returns-clause-counts = search rules
