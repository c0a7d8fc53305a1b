use Rattle.std.proofs.Common.{refl, rules}
use Rattle.tk_engines.proofs.TextsRead.{is_read, is_refused}
use Rattle.tk_engines.proofs.engines.search_given.read_initial.Goals as goal

pub returns-in-Ok-clause-ok : goal.returns-in-Ok-clause-ok
returns-in-Ok-clause-ok g c = (search rules, is_read c.in-Ok.ensures.reads)

pub returns-in-Err-clause-err : goal.returns-in-Err-clause-err
returns-in-Err-clause-err g c = (search rules, (c.in-Err.fault, refl, is_refused c.in-Err.ensures.reads))
