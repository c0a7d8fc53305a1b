use Rattle.std.proofs.Common.{◌≡◌, ◌≢◌, Some, refl}
use Rattle.tk_words.specs.Words.{keyword_of, word}
use Rattle.tk_words.specs.declared.keyword.Keyword.{Keyword}
use Rattle.tk_words.specs.declared.keyword.Keyword.TheVariants as words
use Rattle.tk_words.proofs.keyword.each_word_spells_its_keyword.Goals as goal

spelled_back : (keyword : Keyword) → keyword ≢ words.Cost → keyword_of (word keyword) ≡ Some keyword
unfolding keyword_of
spelled_back words.Cost other = absurd (other refl)
spelled_back _ other = refl

pub returns : goal.returns
returns c = spelled_back
