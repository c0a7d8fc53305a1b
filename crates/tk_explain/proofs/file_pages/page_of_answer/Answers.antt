use Rattle.std.proofs.Common.{rules}
use Rattle.tk_explain.proofs.file_pages.page_of_answer.Goals as goal

pub returns-clause-fault : goal.returns-clause-fault
returns-clause-fault = search rules
