use Rattle.tk_problem_text.proofs.PartSections.{with_depot}
use Rattle.tk_problem_text.proofs.parts.Parts.keep_depot.Goals as goal

pub returns : goal.returns
returns c = λ ps n toks after h sized fresh is within. with_depot c.args.self.now ps n toks after h sized fresh
    c.args.depot is within
