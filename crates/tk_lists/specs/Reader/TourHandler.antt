-- The guarantees of the form of tour texts.
use Rattle.std.specs.Prelude.{◌≡◌, ◌≤◌, ℕ, not, ◌||◌, nat_le, true, false, List, [], ◌∷◌, ◌++◌, Some, None, ℤ, pos}
use Rattle.tk_problem.specs.declared.limits.TheConstants.{ENTRY_LIMIT}
use Rattle.tk_words.specs.declared.keyword.Keyword.{Keyword}
use Rattle.tk_words.specs.declared.keyword.Keyword.TheVariants as words
use Rattle.tk_lists.specs.declared.tour.TourWords.{TourWords}
use Rattle.tk_lists.specs.declared.tour.TourHandler.{TourHandler}
use Rattle.tk_words.specs.Lex.{Token}
use Rattle.tk_lines.specs.Pieces.{Piece, has, tokens_in}
use Rattle.tk_words.specs.Entry.{in_range, numbers_of}
use Rattle.tk_lines.specs.Reader.Handlers.{Promise}
use Rattle.tk_lines.specs.Lists.{list_entries, AreEntries}
use Rattle.tk_lists.specs.Tour.{entries_stop, tour_format}

-- the headers among the pieces are those that have been noted
pub record IsSeen (w : TourWords) (before : List Piece) : Type 0 where
  pub name : has words.Name before ≡ w.name
  pub kind : has words.Type before ≡ w.kind
  pub dimension : has words.Dimension before ≡ w.dimension

pub record TourHolds (s : TourHandler) (before : List Piece) : Type 0 where
  pub seen : IsSeen s.seen before
  pub section : has words.TourSection before ≡ s.seen.section
  pub cities : s.cities.items ≡ numbers_of (list_entries (tokens_in words.TourSection before))

pub record TourWants (s : TourHandler) (before : List Piece) (word : Keyword) (n : ℕ) (toks : List Token) : Type 0 where
  pub seen : IsSeen s.seen before
  pub word_is : word ≡ words.TourSection
  pub fresh : has words.TourSection before ≡ false
  pub section : s.seen.section ≡ true
  pub are : AreEntries toks
  pub fine : entries_stop 0 toks ≡ None
  pub cities : s.cities.items ≡ numbers_of toks

abbrev pub tour_promise : Promise (List ℕ) TourHandler
tour_promise =
    record {
      format = tour_format;
      holds = TourHolds;
      wants = TourWants;
      held = λ form. form.cities.items;
      complete = λ form. Unit {0};
    }

-- a number is stored as the next entry of the list
pub record IsNext (number : ℤ) (old new : List ℕ) : Type 0 where
  pub city : ℕ
  pub is : number ≡ pos city
  pub small : city ≤ 4294967295
  pub pushed : new ≡ old ++ city ∷ []

-- the number is out of range, or comes after the maximum number of entries
abbrev pub IsOut : ℤ → ℕ → Type 0
IsOut number count = (not (in_range 0 4294967295 (Some number)) || nat_le ENTRY_LIMIT count) ≡ true
