use Rattle.tk_problem_text.proofs.PartSections.{with_lower}
use Rattle.tk_problem_text.proofs.parts.Parts.keep_lower.Goals as goal

pub returns : goal.returns
returns c = λ ps n toks after h sized fresh is formatted fit. with_lower c.args.self.now ps n toks after h sized fresh
    c.args.lower is formatted fit
