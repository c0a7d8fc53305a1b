use Rattle.tk_params.proofs.SettingLookups.{none_kept}
use Rattle.tk_params.proofs.settings.Settings.new.Goals as goal

pub invariant_of-result : goal.invariant_of-result
invariant_of-result c = rw (c.new.ensures.empty, c.new-2.ensures.items) none_kept
