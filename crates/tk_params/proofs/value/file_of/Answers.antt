use Rattle.std.proofs.Common.{◌∙◌, ap, sym, Some, refl}
use Rattle.tk_params.proofs.SettingLookups.{file_none, file_some}
use Rattle.tk_params.specs.Values
use Rattle.tk_params.proofs.value.file_of.Goals as goal

pub returns-in_default-clause-err : goal.returns-in_default-clause-err
returns-in_default-clause-err c = (refl, file_none c.args.value.now (c.in_default.ensures.cases.0))

pub returns-in-Ok-from_str-clause-ok : goal.returns-in-Ok-from_str-clause-ok
returns-in-Ok-from_str-clause-ok c =
    file_some c.args.value.now (sym c.is_empty.ensures ∙ c.if-is_empty.false) c.in-Ok.ensures.cases.1
    ∙ ap (λ n. Some (Values.File n)) (sym (c.in-Ok-from_str.ensures.ok ∙ c.in-Ok.ensures.cases.0))
