use Rattle.std.proofs.Common.{◌∙◌, ap, map}
use Rattle.tk_params.proofs.SettingLookups.{stored_last}
use Rattle.tk_params.specs.Reader.Stored.{entry_is}
use Rattle.tk_params.proofs.entries.append.Goals as goal

pub returns-in-Ok-clause-ok : goal.returns-in-Ok-clause-ok
returns-in-Ok-clause-ok c = ap (map entry_is) c.in-Ok.ensures.entries
    ∙ stored_last c.args.entries.now c.args.key c.args.setting c.requires
