use Rattle.std.proofs.Common.{◌∙◌, ap, sym, rules, tests}
use Rattle.std.specs.List.{list_any}
use Rattle.std.proofs.lemmas.Iterator.{YieldsList-from_slice}
use Rattle.std.proofs.lemmas.Iterator.Search.{any_from_yields_List}
use Rattle.tk_explain.specs.Faults.{named}
use Rattle.tk_explain.specs.FaultWords.{is_named}
use Rattle.tk_explain.proofs.AnyItem.{list_any-map}
use Rattle.tk_explain.proofs.by_word.is_fault.Goals as goal

pub returns : goal.returns
returns c =
    any_from_yields_List (λ f. is_named (named f.now) c.args.what.now) _ _ _ c.any.ensures.ran
    (YieldsList-from_slice _ c.iter.ensures.rest) (λ x b q k. search (rules, tests))
    ∙ sym (list_any-map (λ f. named f.now) (λ f. is_named f c.args.what.now) c.faults.result)
    ∙ ap (list_any (λ f. is_named f c.args.what.now)) c.faults.ensures
