-- Examples of tour texts: their cities, their faults and the lines of these, and the answers that beginnings of texts
-- decide.
use Rattle.std.specs.Prelude.{ℕ, true, false, List, [], ◌∷◌, ◌++◌, Option, Some, None, Result, Ok, Err, codes}
use Rattle.std.specs.Prelude.{replicate}
use Rattle.tk_text.specs.declared.Keyword.TheVariants as words
use Rattle.tk_text.specs.declared.TextKind.{TextKind}
use Rattle.tk_text.specs.declared.TextKind.TheVariants as kinds
use Rattle.tk_text.specs.declared.TextFault.{TextFault}
use Rattle.tk_text.specs.Texts.{answer_of}
use Rattle.tk_text.specs.Pieces.{Stop, Fault}
use Rattle.tk_text.specs.Tour.{entry_stop, tour_decided, tour_texts}

abbrev pub TourAnswer : Type 0
TourAnswer = Option (Result (List ℕ) TextFault)

-- the answer to a text
abbrev pub tour_of : List ℕ → TourAnswer
tour_of text = tour_decided true text

-- the answer to all texts that begin with these bytes
abbrev pub tour_begun : List ℕ → TourAnswer
tour_begun text = tour_decided false text

-- these cities; a fault on this line; or no answer, since more bytes decide it
abbrev pub lists : List ℕ → TourAnswer
lists cities = Some (Ok cities)

abbrev pub fault : ℕ → TextKind → TourAnswer
fault line kind = Some (Err (record { line = line; kind = kind }))

abbrev pub undecided : TourAnswer
undecided = None

-- the answer to a text of which at most `limit` bytes are read
abbrev pub tour_within : ℕ × List ℕ → TourAnswer
tour_within (limit, text) = Some (answer_of (record tour_texts { limit = limit }) text)

-- a text whose numbers begin on line 3
abbrev pub tour : List ℕ → List ℕ
tour numbers = codes "TYPE : TOUR\nTOUR_SECTION\n" ++ numbers

abbrev pub tours : List (List ℕ × TourAnswer)
tours = (
  codes "NAME : p.40.tour\nCOMMENT : Length = 40\nTYPE : TOUR\nDIMENSION : 4\nTOUR_SECTION\n1\n3\n2\n4\n-1\nEOF\n",
  lists (1 ∷ 3 ∷ 2 ∷ 4 ∷ []),
)
    -- one more -1, on any line; the end of the text or EOF instead of -1
    ∷ (tour (codes "1 2 3 4\n-1\n-1\n"), lists (1 ∷ 2 ∷ 3 ∷ 4 ∷ []))
    ∷ (tour (codes "1 2 -1 -1\nEOF"), lists (1 ∷ 2 ∷ []))
    ∷ (tour (codes "1 2\n-1\n\n -001"), lists (1 ∷ 2 ∷ []))
    ∷ (tour (codes "3 1 2"), lists (3 ∷ 1 ∷ 2 ∷ []))
    ∷ (tour (codes "3 1\n2\n"), lists (3 ∷ 1 ∷ 2 ∷ []))
    ∷ (tour (codes "3 1 2 EOF\njunk"), lists (3 ∷ 1 ∷ 2 ∷ []))
    ∷ (tour (codes "3 1 2\neof: junk"), lists (3 ∷ 1 ∷ 2 ∷ []))
    ∷ (tour (codes "-1"), lists [])
    ∷ (tour (codes ""), lists [])
    -- nothing after EOF counts
    ∷ (tour (codes "2 1 -1\nEOF x\n%"), lists (2 ∷ 1 ∷ []))
    -- small letters, tabs and CR, no colon, blank lines, numbers on the word's own line
    ∷ (
      codes "\r\n\ttype:tour (best)\r\n dimension 2 cities\r\n\r\nTour_Section : +2 01\r\n-1\r\neof\r\n",
      lists (2 ∷ 1 ∷ []),
    )
    ∷ (codes "COMMENT\nCOMMENT : x\nTOUR_SECTION\n1 -1\nTYPE : TOUR\n", lists (1 ∷ []))
    -- the reader does not check that the list is a tour
    ∷ (tour (codes "0 4294967295 7 7 -1"), lists (0 ∷ 4294967295 ∷ 7 ∷ 7 ∷ []))
    ∷ []

abbrev pub tour_faults : List (List ℕ × TourAnswer)
tour_faults =
    (codes "TYPE : TOUR\nCOST : 5\n", fault 2 kinds.UnknownKeyword)
    ∷ (codes "TYPE : TOUR\nTOUR SECTION\n", fault 2 kinds.UnknownKeyword)
    ∷ (codes "TYPE : TOUR\n\ntype : TSP\n", fault 3 kinds.Repeated)
    ∷ (codes "NAME : a\nNAME : b\n", fault 2 kinds.Repeated)
    ∷ (codes "DIMENSION : 3\nDIMENSION : x\n", fault 2 kinds.Repeated)
    ∷ (tour (codes "1 -1\nTOUR_SECTION\nx\n"), fault 4 kinds.Repeated)
    ∷ (codes "", fault 1 (kinds.Missing words.Type))
    ∷ (codes "NAME : a\n", fault 2 (kinds.Missing words.Type))
    ∷ (codes "TOUR_SECTION\n1 2\n\n EOF", fault 4 (kinds.Missing words.Type))
    ∷ (codes "TYPE : TOUR", fault 1 (kinds.Missing words.TourSection))
    ∷ (codes "TYPE : TOUR\nEOF\n", fault 2 (kinds.Missing words.TourSection))
    ∷ (codes "TYPE : TSP\n", fault 1 kinds.Unsupported)
    ∷ (codes "TYPE :\n", fault 1 kinds.Unsupported)
    ∷ (codes "CAPACITY : 5\n", fault 1 kinds.Unsupported)
    ∷ (codes "VEHICLES : 5\n", fault 1 kinds.Unsupported)
    ∷ (codes "TYPE : TOUR\nDEPOT_SECTION\n1\n", fault 2 kinds.Unsupported)
    ∷ (codes "FIXED_EDGES_SECTION\n", fault 1 kinds.Unsupported)
    ∷ (codes "DIMENSION : 3x\n", fault 1 kinds.BadNumber)
    ∷ (codes "DIMENSION :\n", fault 1 kinds.BadNumber)
    ∷ (tour (codes "1 2\n3, 4"), fault 4 kinds.BadNumber)
    ∷ (tour (codes "1 EOF-x"), fault 3 kinds.BadNumber)
    ∷ (codes "DIMENSION : 0\n", fault 1 kinds.OutOfLimit)
    ∷ (codes "DIMENSION : 1\n", fault 2 (kinds.Missing words.Type))
    ∷ (codes "DIMENSION : 1000000\n", fault 2 (kinds.Missing words.Type))
    ∷ (codes "DIMENSION : 1000001\n", fault 1 kinds.OutOfLimit)
    ∷ (tour (codes "1\n-2"), fault 4 kinds.OutOfLimit)
    ∷ (tour (codes "4294967296"), fault 3 kinds.OutOfLimit)
    ∷ (tour (codes "1 2\nName: 3"), fault 4 kinds.Truncated)
    ∷ (tour (codes "1 2 EDGE_DATA_SECTION"), fault 3 kinds.Truncated)
    ∷ (codes "TYPE : TOUR\n5\n", fault 2 kinds.TrailingData)
    ∷ (tour (codes "1 -1 x\n"), fault 3 kinds.TrailingData)
    ∷ (tour (codes "1 -1 EOF\n"), fault 3 kinds.TrailingData)
    ∷ (tour (codes "1 -1 -1 -1\n"), fault 3 kinds.TrailingData)
    ∷ (tour (codes "1 2 -1\n3\n"), fault 4 kinds.TrailingData)
    ∷ (tour (codes "1 2 -1\n-1\n-1\n"), fault 5 kinds.TrailingData)
    ∷ (tour (replicate 65 48), fault 3 kinds.TooLong)
    ∷ (replicate 65 65 ++ codes "\n", fault 1 kinds.TooLong)
    ∷ (codes "NAME : " ++ replicate 1025 120, fault 1 kinds.TooLong)
    ∷ []

abbrev pub tour_beginnings : List (List ℕ × TourAnswer)
tour_beginnings =
    (codes "", undecided)
    ∷ (codes "\n ", undecided)
    ∷ (codes "%", fault 1 kinds.TrailingData)
    -- a word can continue
    ∷ (codes "FOO", undecided)
    ∷ (codes "FOO ", fault 1 kinds.UnknownKeyword)
    ∷ (replicate 65 65, fault 1 kinds.TooLong)
    -- the value of a header can continue
    ∷ (codes "TYPE : ATSP", undecided)
    ∷ (codes "TYPE : ATSP ", undecided)
    ∷ (codes "TYPE : ATSP\n", fault 1 kinds.Unsupported)
    ∷ (codes "TYPE : TOUR\nEO", undecided)
    ∷ (codes "TYPE : TOUR\nEOF", undecided)
    ∷ (codes "TYPE : TOUR\nEOF ", fault 2 (kinds.Missing words.TourSection))
    -- the word of a section, or a number, counts only when it has ended
    ∷ (codes "DEPOT_SECTION:", fault 1 kinds.Unsupported)
    ∷ (tour (codes "1 2x"), undecided)
    ∷ (tour (codes "1 2x "), fault 3 kinds.BadNumber)
    ∷ (tour (replicate 65 48), fault 3 kinds.TooLong)
    -- one more -1 can follow the -1
    ∷ (tour (codes "1 2 -1"), undecided)
    ∷ (tour (codes "1 2 -1\n"), undecided)
    ∷ (tour (codes "1 2 -1\n-"), undecided)
    ∷ (tour (codes "1 2 -1\n-1"), undecided)
    ∷ (tour (codes "1 2 -1 -00"), undecided)
    ∷ (tour (codes "1 2 -1 -" ++ replicate 17 48), undecided)
    ∷ (tour (codes "1 2 -1 -" ++ replicate 18 48), fault 3 kinds.TrailingData)
    ∷ (tour (codes "1 2 -1 -2"), fault 3 kinds.TrailingData)
    ∷ (tour (codes "1 2 -1 -12"), fault 3 kinds.TrailingData)
    ∷ (tour (codes "1 2 -1\n+"), fault 4 kinds.TrailingData)
    ∷ (tour (codes "1 2 -1\nEOF"), undecided)
    ∷ (tour (codes "1 2 -1\nEOF\n"), lists (1 ∷ 2 ∷ []))
    ∷ (tour (codes "1 2 -1 x"), fault 3 kinds.TrailingData)
    ∷ (tour (codes "1 2 -1 -1\n3"), fault 4 kinds.TrailingData)
    ∷ (tour (codes "1 2 EOF "), lists (1 ∷ 2 ∷ []))
    ∷ []

-- the numbers begin after 25 bytes; of a text that is too long, only the bytes up to the first one too many count
abbrev pub tours_within : List ((ℕ × List ℕ) × TourAnswer)
tours_within =
    ((31, tour (codes "2 1 -1")), lists (2 ∷ 1 ∷ []))
    ∷ ((30, tour (codes "2 1 -1")), fault 3 kinds.TooLong)
    -- the line is that of the first byte too many
    ∷ ((12, tour (codes "2 1 -1")), fault 2 kinds.TooLong)
    ∷ ((11, tour (codes "2 1 -1")), fault 1 kinds.TooLong)
    ∷ ((0, tour (codes "2 1 -1")), fault 1 kinds.TooLong)
    -- the bytes after EOF are not read
    ∷ ((32, tour (codes "2 1 EOF junk")), lists (2 ∷ 1 ∷ []))
    ∷ ((31, tour (codes "2 1 EOF junk")), fault 3 kinds.TooLong)
    -- a fault that the bytes contain
    ∷ ((28, tour (codes "2 x -1")), fault 3 kinds.BadNumber)
    ∷ ((27, tour (codes "2 x -1")), fault 3 kinds.TooLong)
    ∷ ((11, codes "TYPE : ATSP\n%"), fault 1 kinds.Unsupported)
    ∷ ((10, codes "TYPE : ATSP\n%"), fault 1 kinds.TooLong)
    ∷ ((3, codes "FOO BAR"), fault 1 kinds.UnknownKeyword)
    ∷ ((2, codes "FOO BAR"), fault 1 kinds.TooLong)
    ∷ ((0, codes "%"), fault 1 kinds.TrailingData)
    ∷ ((30, tour (codes "1 -1 x")), fault 3 kinds.TrailingData)
    ∷ ((30, tour (codes "1 -1 5")), fault 3 kinds.TrailingData)
    ∷ ((30, tour (codes "1 -1 -1")), fault 3 kinds.TooLong)
    ∷ []

-- a number after `count` others; 1,000,000 numbers are allowed
abbrev pub entry_after : ℕ × List ℕ → Option Stop
entry_after (count, bytes) = entry_stop count (record { bytes = bytes; line = 7; whole = true })

abbrev pub entries_after : List ((ℕ × List ℕ) × Option Stop)
entries_after =
    ((0, codes "5"), None)
    ∷ ((999999, codes "5"), None)
    ∷ ((1000000, codes "5"), Some (Fault 7 kinds.OutOfLimit))
    ∷ ((1000000, codes "x"), Some (Fault 7 kinds.BadNumber))
    ∷ []
