use Rattle.tk_problem_text.proofs.PartSections.{with_places}
use Rattle.tk_problem_text.proofs.parts.Parts.keep_places.Goals as goal

pub returns : goal.returns
returns c = λ ps n toks after h sized fresh is. with_places c.args.self.now ps n toks after h sized fresh
    c.args.places is
