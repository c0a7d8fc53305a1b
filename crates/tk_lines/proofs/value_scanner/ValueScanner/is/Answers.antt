use Rattle.std.proofs.Common.{◌∙◌}
use Rattle.tk_lines.proofs.Headers.HeaderNumbers.{value_spells}
use Rattle.tk_lines.proofs.value_scanner.ValueScanner.is.Goals as goal

pub returns : goal.returns
returns c = λ v scans. c.spelled.ensures
    ∙ value_spells c.args.self.now v scans c.as_slice.result.now c.args.text.now c.requires c.as_slice.ensures
