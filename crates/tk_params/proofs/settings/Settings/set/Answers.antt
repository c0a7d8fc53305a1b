use Rattle.std.proofs.Common.{◌∙◌, ap, sym}
use Rattle.tk_params.specs.Reader.Stored.{settings_in, value_is}
use Rattle.tk_params.specs.Values.{has_key}
use Rattle.tk_params.proofs.SettingLookups.{one_more_ignored, one_more_used}
use Rattle.tk_params.proofs.settings.Settings.set.Goals as goal

pub invariant_of-self-then-not-is_ignored : goal.invariant_of-self-then-not-is_ignored
invariant_of-self-then-not-is_ignored c =
    one_more_used (settings_in c.self.inside.entries) c.self.inside.ignored.items c.args.key (value_is c.args.setting)
    c.self.invariant (ap (has_key c.args.key) c.self.view_is ∙ c.requires.fresh) c.requires.limits
    (settings_in c.append.new.entries) c.in_ok-append.ensures.ok (sym c.is_ignored.ensures
    ∙ c.if-not-is_ignored.true)

pub invariant_of-self-in-Ok : goal.invariant_of-self-in-Ok
invariant_of-self-in-Ok c =
    one_more_ignored (settings_in c.self.inside.entries) c.self.inside.ignored.items c.args.key
    (value_is c.args.setting) c.self.invariant (ap (has_key c.args.key) c.self.view_is ∙ c.requires.fresh)
    c.requires.limits (settings_in c.append-2.new.entries) c.push.new.self.items c.in-Ok.ensures.ok
    c.in_ok-push.ensures.items (sym c.is_ignored.ensures ∙ c.if-not-is_ignored.false)
