use Rattle.tk_problem_text.proofs.PartSections.{with_display}
use Rattle.tk_problem_text.proofs.parts.Parts.note_display.Goals as goal

pub returns : goal.returns
returns c = λ ps n toks after h sized. with_display c.args.self.now ps n toks after h sized
