use Rattle.tk_params.proofs.SettingLookups.{option_values, equal_looks}
use Rattle.tk_params.proofs.entries.stored.Goals as goal

pub returns : goal.returns
returns c = option_values c.get.result c.get.ensures.value (equal_looks c.args.key c.args.entries.now.entries)
