use Rattle.std.proofs.Common.{◌∙◌, sym, arith}
use Rattle.tk_params.proofs.SettingLookups.{empty_means, hash_means, nothing_taken}
use Rattle.tk_params.proofs.line.take_line.Goals as goal

pub returns-then-is_empty-clause-ok : goal.returns-then-is_empty-clause-ok
returns-then-is_empty-clause-ok c =
    nothing_taken c.args.settings.now
    _ (empty_means c.args.settings.now c.args.line.now (sym c.is_empty.ensures ∙ c.if-is_empty.true))

pub returns-then-line-eq35-clause-ok : goal.returns-then-line-eq35-clause-ok
returns-then-line-eq35-clause-ok c =
    nothing_taken c.args.settings.now
    _ (hash_means c.args.settings.now c.args.line.now (sym c.is_empty.ensures ∙ c.if-is_empty.false)
    (omega (arith, c.if-line-eq35.true)))
