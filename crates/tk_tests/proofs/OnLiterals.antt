-- What an answer unfolds to compute the definitions at an example.
use Rattle.std.specs.Prelude.{⊤}
use Rattle.std.specs.Fmt.{digits}
use Rattle.tk_text.specs.Lex.{lines, tokens_of}
use Rattle.tk_text.specs.Texts.{answer_of}
use Rattle.tk_text.specs.Words.{keyword_of}
use Rattle.tk_text.specs.Pieces.{cut, judge, decided_by}
use Rattle.tk_text.specs.Lists.{list_extent, list_entries}
use Rattle.tk_text.specs.Tour.{entry_stop, entries_stop}
use Rattle.tk_text.specs.Solution.{judge_lines, solution_decided}
use Rattle.tk_text.specs.Rows.{place_rows, demand_rows}
use Rattle.tk_text.specs.FixedSections.{tokens_stop}

unfoldable pub on_literals : ⊤
unfolding digits lines tokens_of keyword_of cut judge decided_by answer_of list_extent
    list_entries entry_stop entries_stop place_rows demand_rows tokens_stop judge_lines solution_decided
on_literals = tt
