-- How long the word of a key is.
use Rattle.std.proofs.Common.{◌≤◌, length, arith}
use Rattle.tk_params.specs.declared.key.Key.{Key}
use Rattle.tk_params.specs.declared.key.Key.TheVariants as keys
use Rattle.tk_params.specs.Keys.{key_word}

pub word_short : (key : Key) → length (key_word key) ≤ 40
word_short keys.ProblemFile = omega arith
word_short _ = omega arith
