use Rattle.std.proofs.Common.{◌∙◌, sym}
use Rattle.tk_params.proofs.Limits.{is_setting}
use Rattle.tk_params.proofs.SettingLookups.{taken_key}
use Rattle.tk_params.specs.Reader.Stored.{value_is}
use Rattle.tk_params.proofs.line.take_key.Goals as goal

pub returns-then-has-clause-ok : goal.returns-then-has-clause-ok
returns-then-has-clause-ok c = tt

pub returns-in-Ok-clause-ok : goal.returns-in-Ok-clause-ok
returns-in-Ok-clause-ok c =
    taken_key c.args.settings.now c.set.new.self c.args.key c.args.value.now (value_is c.in_ok-setting.setting)
    (sym c.has.ensures ∙ c.if-has.false) (sym c.has_dollar.ensures ∙ c.if-has_dollar.false)
    c.in_ok-setting.ensures.ok c.in-Ok.ensures.ok

pub set-requires-clause-limits : goal.set-requires-clause-limits
set-requires-clause-limits c =
    is_setting c.args.key c.args.value.now (value_is c.in_ok-setting.setting) (sym c.has_dollar.ensures
    ∙ c.if-has_dollar.false) c.in_ok-setting.ensures.ok
