use Rattle.std.proofs.Common.{◌∙◌, sym, rules}
use Rattle.std.proofs.lemmas.Iterator.{YieldsList-from_slice}
use Rattle.std.proofs.lemmas.Iterator.Adapters.{option_map_id}
use Rattle.std.proofs.lemmas.Iterator.Consumers.{YieldsList-from_copied}
use Rattle.std.proofs.lemmas.Iterator.Search.{find_from_yields_List}
use Rattle.tk_problem.specs.WeightWords.{all_formats, format_word}
use Rattle.tk_problem_text.specs.HeaderValues.{says}
use Rattle.tk_problem_text.proofs.header_values.format_of.Goals as goal

pub returns : goal.returns
returns c = λ v h.
    sym (option_map_id c.find.result)
    ∙ find_from_yields_List (λ format. says v (format_word format)) _ _ c.find.result c.find.ensures.ran
    (YieldsList-from_copied (YieldsList-from_slice all_formats cc)) (λ x b q k. search (rules, h, k))
