use Rattle.tk_lists.proofs.SolutionTexts.{fed_none, fed_waits}
use Rattle.tk_lists.proofs.solution.read_solution.Goals as goal

pub read_text-requires : goal.read_text-requires
read_text-requires g c =
    fed_waits _ _ (fed_none c.new.result c.new.ensures.line c.new.ensures.start c.new.ensures.stands)
