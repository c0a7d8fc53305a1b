use Rattle.std.proofs.Common.{refl}
use Rattle.tk_tests.proofs.OnLiterals.{on_literals}
use Rattle.tk_tests.proofs.texts.examples.words.Goals as goal

pub returns : goal.returns
unfolding on_literals
returns c = record {
  keywords = refl;
  behind_words = refl;
  trimmed = refl;
  first_words = refl;
  names = refl;
  eof_tokens = refl;
  word_tokens = refl;
  lines = refl;
  tokens = refl;
}
