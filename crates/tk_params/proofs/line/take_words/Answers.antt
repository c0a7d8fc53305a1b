use Rattle.std.proofs.Common.{◌∙◌, sym, arith}
use Rattle.tk_params.proofs.SettingLookups.{comment_means, nothing_taken}
use Rattle.tk_params.proofs.line.take_words.Goals as goal

pub returns-then-spelled-clause-ok : goal.returns-then-spelled-clause-ok
returns-then-spelled-clause-ok c =
    nothing_taken c.args.settings.now
    _ (comment_means c.args.settings.now c.args.word.now c.args.rest.now
    (omega (arith, c.if-word-gt-KEY_LIMIT.false)) (sym c.spelled.ensures ∙ c.if-spelled.true))
