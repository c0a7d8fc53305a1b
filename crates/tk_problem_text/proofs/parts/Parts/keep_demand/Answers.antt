use Rattle.tk_problem_text.proofs.PartSections.{with_demand}
use Rattle.tk_problem_text.proofs.parts.Parts.keep_demand.Goals as goal

pub returns : goal.returns
returns c = λ ps n toks after h sized fresh is few. with_demand c.args.self.now ps n toks after h sized fresh
    c.args.demand is few
