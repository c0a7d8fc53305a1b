-- What an answer unfolds to compute the definitions at an example.
use Rattle.std.specs.Prelude.{⊤}
use Rattle.std.specs.Fmt.{digits}
use Rattle.std.specs.Str.{chars, is_utf8}
use lib.Utf8.{encode}
use Rattle.tk_text.specs.Lex.{lines}
use Rattle.tk_text.specs.Texts.{answer_of}
use Rattle.tk_engines.specs.Requested.{requested_of, searched, ignored_keys}
use Rattle.tk_engines.specs.Keys.{key_of}
use Rattle.tk_engines.specs.Params.{judge_params, params_decided}
use Rattle.tk_engines.specs.Entries.{entry_of, word_entry}

unfoldable pub on_literals : ⊤
unfolding digits chars encode is_utf8 lines answer_of requested_of searched ignored_keys key_of judge_params
    params_decided entry_of word_entry
on_literals = tt
