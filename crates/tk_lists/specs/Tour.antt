-- Tour texts.
use Rattle.std.specs.Prelude.{ℕ, suc, Bool, true, false, not, ◌||◌, nat_lt, nat_le, List, [], ◌∷◌, length, Option, Some}
use Rattle.std.specs.Prelude.{None, Result, if◌then◌else◌, codes, is_none}
use Rattle.tk_problem.specs.declared.limits.TheConstants.{ENTRY_LIMIT, TEXT_LIMIT}
use Rattle.tk_words.specs.declared.keyword.Keyword.{Keyword}
use Rattle.tk_words.specs.declared.keyword.Keyword.TheVariants as words
use Rattle.tk_words.specs.declared.fault.TextKind.{TextKind}
use Rattle.tk_words.specs.declared.fault.TextKind.TheVariants as kinds
use Rattle.tk_words.specs.declared.fault.TextFault.{TextFault}
use Rattle.tk_words.specs.Lex.{Token, after_word, trim, integer}
use Rattle.tk_words.specs.Texts.{Texts, texts_of}
use Rattle.tk_words.specs.Words.{spells}
use Rattle.tk_lines.specs.HeaderValue.{first_word}
use Rattle.tk_lists.specs.declared.texts.TourText.{TourText}
use Rattle.tk_lines.specs.Pieces.{Piece, Extent, Stop, After, first_at, checked, or_else, has, tokens_in, Format}
use Rattle.tk_lines.specs.Pieces.{decided_by}
use Rattle.tk_words.specs.Entry.{in_range, is_keyword, number_tests, numbers_of}
use Rattle.tk_lines.specs.Lists.{list_entries, list_extent, trailing_stop}

abbrev pub tour_extent : List Piece → Keyword → List Token → Extent
tour_extent before words.TourSection toks = list_extent toks
tour_extent before _ toks = record { count = 0; closed = true; at_eof = false }

-- the tests of an entry, given the number of entries before it
abbrev pub entry_tests : ℕ → Token → List (Bool × TextKind)
entry_tests k t = (is_keyword t.bytes, kinds.Truncated) ∷ (is_none (integer t.bytes), kinds.BadNumber)
    ∷ (not (in_range 0 4294967295 (integer t.bytes)) || nat_le ENTRY_LIMIT k, kinds.OutOfLimit) ∷ []

unfoldable pub entry_stop : ℕ → Token → Option Stop
entry_stop k t = checked 64 t (entry_tests k t)

-- the first stop among the entries
unfoldable pub entries_stop : ℕ → List Token → Option Stop
entries_stop k [] = None
entries_stop k (t ∷ ts) = or_else (entry_stop k t) (entries_stop (suc k) ts)

-- the tests of a header, apart from its length
abbrev pub tour_header : List Piece → Keyword → List ℕ → List (Bool × TextKind)
tour_header before words.Name bs =
    (nat_lt 1024 (length (trim (after_word bs))), kinds.TooLong) ∷ (has words.Name before, kinds.Repeated) ∷ []
tour_header before words.Comment bs = []
tour_header before words.Type bs =
    (has words.Type before, kinds.Repeated) ∷ (not (spells (first_word bs) (codes "TOUR")), kinds.Unsupported) ∷ []
tour_header before words.Dimension bs =
    (has words.Dimension before, kinds.Repeated) ∷ number_tests 1 ENTRY_LIMIT (first_word bs)
tour_header before _ bs = (true, kinds.Unsupported) ∷ []

-- the stop at a section: at its word, at its tokens, or after its last token on the line of that token
abbrev pub tour_section : List Piece → Keyword → ℕ → List Token → After → Option Stop
tour_section before words.TourSection n toks after =
    or_else (first_at n ((has words.TourSection before, kinds.Repeated) ∷ []))
    (or_else (entries_stop 0 (list_entries toks)) (trailing_stop after))
tour_section before _ n toks after = first_at n ((true, kinds.Unsupported) ∷ [])

abbrev pub tour_end : List Piece → Option TextKind
tour_end before =
    if not (has words.Type before) then Some (kinds.Missing words.Type)
    else (if not (has words.TourSection before) then Some (kinds.Missing words.TourSection) else None)

-- the format of tour texts
abbrev pub tour_format : Format (List ℕ)
tour_format = record {
  extent = tour_extent;
  header = tour_header;
  section = tour_section;
  at_end = tour_end;
  value = λ before. numbers_of (list_entries (tokens_in words.TourSection before));
}

-- the result that bytes decide: of the whole text if it has ended, otherwise of every text that begins with them
abbrev pub tour_decided : Bool → List ℕ → Option (Result (List ℕ) TextFault)
tour_decided = decided_by tour_format

-- tour texts
abbrev pub tour_texts : Texts (List ℕ) TextFault
tour_texts = texts_of tour_decided TEXT_LIMIT

abbrev pub as_tour : TourText → List ℕ
as_tour text = text.cities.items
