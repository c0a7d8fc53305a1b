use Rattle.std.proofs.Common.{◌≡◌, Some, refl}
use Rattle.tk_params.specs.Keys.{key_of, key_word}
use Rattle.tk_params.specs.declared.key.Key.{Key}
use Rattle.tk_params.specs.declared.key.Key.TheVariants as keys
use Rattle.tk_params.proofs.key.each_word_spells_its_key.Goals as goal

spelled_back : (key : Key) → key_of (key_word key) ≡ Some key
unfolding key_of
spelled_back keys.ProblemFile = refl
spelled_back _ = refl

pub returns : goal.returns
returns c = spelled_back
