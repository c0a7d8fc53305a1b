use Rattle.std.proofs.Common.{◌∙◌, ap, option_map}
use Rattle.tk_params.specs.Reader.Stored.{value_is}
use Rattle.tk_params.proofs.SettingLookups.{equal_looks, other_look}
use Rattle.tk_params.proofs.entries.take.Goals as goal

pub returns-clause-setting : goal.returns-clause-setting
returns-clause-setting c = ap (option_map value_is) c.swap_remove.ensures.value
    ∙ equal_looks c.args.key c.args.entries.now.entries

pub returns-clause-others : goal.returns-clause-others
returns-clause-others c = λ other apart. other_look c.args.entries.now.entries c.swap_remove.new.self.entries c.args.key
    other (c.swap_remove.ensures.updates.0 other) apart
