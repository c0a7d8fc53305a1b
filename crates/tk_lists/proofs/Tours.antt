-- What a tour's form keeps, piece by piece and entry by entry.
use Rattle.std.proofs.Common.{◌≡◌, ℕ, ◌<◌, ◌≤◌, Bool, true, false, not, ◌&&◌, ◌||◌, leb, ltb, List, [], ◌∷◌, ◌++◌}
use Rattle.std.proofs.Common.{length, Option, Some, None, ℤ, pos, negsuc, SFits, w64, to_z, of_z, refl, sym, ap, subst}
use Rattle.std.proofs.Common.{◌∙◌, append_assoc, arith}
use Rattle.std.specs.Prelude.{codes}
use Rattle.std.proofs.lemmas.Bool.{le-leb, lt-leb, le-ltb, ne_eqb}
use Rattle.std.proofs.lemmas.Int.{to_z-of_z}
use Rattle.std.proofs.Math.Bool.{or-false}
use Rattle.tk_problem.specs.declared.limits.TheConstants.{ENTRY_LIMIT}
use Rattle.tk_words.specs.declared.keyword.Keyword.{Keyword}
use Rattle.tk_words.specs.declared.keyword.Keyword.TheVariants as words
use Rattle.tk_words.specs.declared.fault.TextKind.{TextKind}
use Rattle.tk_words.specs.declared.fault.TextKind.TheVariants as kinds
use Rattle.tk_lists.specs.declared.tour.TourWords.{TourWords}
use Rattle.tk_lists.specs.declared.tour.TourHandler.{TourHandler}
use Rattle.tk_words.specs.Lex.{Token, integer, after_word, trim}
use Rattle.tk_words.specs.Words.{spells}
use Rattle.tk_lines.specs.HeaderValue.{first_word}
use Rattle.tk_lines.specs.Pieces.{Piece, After, Clean, Early, Trailing, Stop, Open, Fault, first_at, or_else, has}
use Rattle.tk_words.specs.MinusOne.{is_ending, is_minus_one}
use Rattle.tk_lines.specs.Reader.Handlers.{whole, taken, a_header, a_section, Goes, EndsWithMinusOne, EndsAtEof}
use Rattle.tk_lines.specs.Reader.Handlers.{StopsAt}
use Rattle.tk_words.specs.Entry.{is_keyword, is_eof, in_range, number_tests, numbers_of, natural_or_zero}
use Rattle.tk_lines.specs.Lists.{list_entries, trailing_stop, AreEntries}
use Rattle.tk_lists.specs.Tour.{entry_stop, entries_stop, tour_header, tour_section, tour_format}
use Rattle.tk_lists.specs.Reader.TourHandler.{IsSeen, TourHolds, TourWants, IsNext, IsOut}
use Rattle.tk_lines.proofs.Pieces.PieceLookups.{has-append, has-kept, has-new, tokens_in-new, tokens_in-header}
use Rattle.tk_lines.proofs.Pieces.PieceLookups.{tokens_in-none}
use Rattle.tk_lists.proofs.Lists.{are_more, entries_all, entries_ended, fine_more, fine_none, numbers_more}
use Rattle.tk_lists.proofs.Lists.{length-numbers, list_stops, list_ended, list_eof, list_open, list_covers, entry_long}
use Rattle.tk_lists.proofs.Lists.{entry_open}
use Rattle.tk_lines.proofs.Sections.ListTokens.{long_goes, open_goes}

-- ---- headers

seen_more : (w w' : TourWords) (before ps : List Piece) → IsSeen w before → (w.name || has words.Name ps) ≡ w'.name
    → (w.kind || has words.Type ps) ≡ w'.kind → (w.dimension || has words.Dimension ps) ≡ w'.dimension
    → IsSeen w' (before ++ ps)
seen_more w w' before ps h name kind dimension = record {
  name = has-append words.Name before ps ∙ rw h.name name;
  kind = has-append words.Type before ps ∙ rw h.kind kind;
  dimension = has-append words.Dimension before ps ∙ rw h.dimension dimension;
}

module _ (s s' : TourHandler) (before : List Piece) (word : Keyword) (v : List ℕ) (n : ℕ) (h : TourHolds s before)
    (cities : s'.cities.items ≡ s.cities.items) where
  -- a header that is no section, with the words that it leaves
  holds_header : (s.seen.name || has words.Name (a_header word v n)) ≡ s'.seen.name
      → (s.seen.kind || has words.Type (a_header word v n)) ≡ s'.seen.kind
      → (s.seen.dimension || has words.Dimension (a_header word v n)) ≡ s'.seen.dimension
      → s'.seen.section ≡ s.seen.section → has words.TourSection (a_header word v n) ≡ false
      → TourHolds s' (before ++ a_header word v n)
  holds_header name kind dimension section other = record {
    seen = seen_more s.seen s'.seen before (a_header word v n) h.seen name kind dimension;
    section = has-kept words.TourSection before (a_header word v n) other ∙ h.section ∙ sym section;
    cities = cities ∙ h.cities
        ∙ ap (λ (ts : List Token). numbers_of (list_entries ts))
        (sym (tokens_in-header words.TourSection before word v n));
  }

-- a header is taken
module _ (s : TourHandler) (b : Bool) (before : List Piece) (v : List ℕ) (n : ℕ) (h : TourHolds s before)
    (new : b ≡ true) where
  pub name_ok : s.seen.name ≡ false → length (trim (after_word v)) ≤ 1024 →
      TourHolds (record s { seen = record s.seen { name = b } }) (before ++ a_header words.Name v n)
      × (first_at n (tour_header before words.Name v) ≡ None)
  name_ok old short = (
    holds_header s (record s { seen = record s.seen { name = b } }) before words.Name v n h refl (rw old (sym new))
        (or-false s.seen.kind) (or-false s.seen.dimension) refl refl,
    rw (le-ltb _ _ short, h.seen.name ∙ old) refl,
  )

  pub kind_ok : s.seen.kind ≡ false → spells (first_word v) (codes "TOUR") ≡ true →
      TourHolds (record s { seen = record s.seen { kind = b } }) (before ++ a_header words.Type v n)
      × (first_at n (tour_header before words.Type v) ≡ None)
  kind_ok old tour = (
    holds_header s (record s { seen = record s.seen { kind = b } }) before words.Type v n h refl (or-false s.seen.name)
        (rw old (sym new)) (or-false s.seen.dimension) refl refl,
    rw (h.seen.kind ∙ old, tour) refl,
  )

  pub dimension_ok : s.seen.dimension ≡ false → first_at n (number_tests 1 ENTRY_LIMIT (first_word v)) ≡ None →
      TourHolds (record s { seen = record s.seen { dimension = b } }) (before ++ a_header words.Dimension v n)
      × (first_at n (tour_header before words.Dimension v) ≡ None)
  dimension_ok old fine = (
    holds_header s (record s { seen = record s.seen { dimension = b } }) before words.Dimension v n h refl
        (or-false s.seen.name) (or-false s.seen.kind) (rw old (sym new)) refl refl,
    rw (h.seen.dimension ∙ old) fine,
  )

pub comment_ok : (s : TourHandler) (before : List Piece) (v : List ℕ) (n : ℕ) → TourHolds s before →
    TourHolds s (before ++ a_header words.Comment v n)
comment_ok s before v n h =
    holds_header s s before words.Comment v n h refl (or-false s.seen.name) (or-false s.seen.kind)
    (or-false s.seen.dimension) refl refl

pub dimension_err : (s : TourHandler) (before : List Piece) (v : List ℕ) (n : ℕ) (k : TextKind) → TourHolds s before →
    s.seen.dimension ≡ false → first_at n (number_tests 1 ENTRY_LIMIT (first_word v)) ≡ Some (Fault n k) →
    first_at n (tour_header before words.Dimension v) ≡ Some (Fault n k)
dimension_err s before v n k h old stop = rw (h.seen.dimension ∙ old) stop

-- ---- sections

module _ (before : List Piece) (n : ℕ) (fresh : has words.TourSection before ≡ false) where
  section_by : (toks : List Token) (after : After) (s : Option Stop) → entries_stop 0 (list_entries toks) ≡ s →
      tour_section before words.TourSection n toks after ≡ or_else s (trailing_stop after)
  section_by toks after s h = rw (fresh, h) refl

  module _ (toks : List Token) (are : AreEntries toks) (fine : entries_stop 0 toks ≡ None) where
    all_fine : entries_stop 0 (list_entries toks) ≡ None
    all_fine = ap (entries_stop 0) (entries_all toks are) ∙ fine

    stops_at : (t : Token) (s : Stop) → is_ending t ≡ false → (t.whole && is_eof t.bytes) ≡ false
        → entry_stop (length toks) t ≡ Some s → (more : List Token) (after : After)
        → tour_section before words.TourSection n (taken tour_format before words.TourSection (toks ++ t ∷ more))
        after ≡ Some s
    stops_at t s a b stop more after = section_by _ after (Some s) (list_stops toks are fine t more s a b stop)

    tour_goes : Goes tour_format before words.TourSection n toks
    tour_goes = record {
      covers = list_covers toks are fine;
      long = λ t more after long. let g = long_goes t long in
          stops_at t (Fault t.line kinds.TooLong) g.0 g.1 (entry_long (length toks) t long) more after;
      opens = λ t after part short. let g = open_goes t part in
          stops_at t Open g.0 g.1 (entry_open (length toks) t part short) [] after;
      ends = list_open toks are fine;
      early = λ line. section_by toks (Early line false) None all_fine;
    }

    tour_ends : (t : Token) → is_ending t ≡ true →
        EndsWithMinusOne tour_format before words.TourSection n (toks ++ t ∷ [])
    tour_ends t end = record {
      extent = λ more. list_ended toks are fine t more end;
      clean = λ ones. section_by ((toks ++ t ∷ []) ++ ones) Clean None (ended ones);
      trailing = λ ones line. section_by ((toks ++ t ∷ []) ++ ones) (Trailing line) None (ended ones);
    }
      where
        ended : (ones : List Token) → entries_stop 0 (list_entries ((toks ++ t ∷ []) ++ ones)) ≡ None
        ended ones = ap (λ (ts : List Token). entries_stop 0 (list_entries ts)) (append_assoc toks (t ∷ []) ones)
            ∙ ap (entries_stop 0) (entries_ended toks ones t are end) ∙ fine

    tour_eof : (t : Token) → is_ending t ≡ false → (t.whole && is_eof t.bytes) ≡ true →
        EndsAtEof tour_format before words.TourSection n toks t
    tour_eof t a b = record {
      extent = λ more. list_eof toks are fine t more a b;
      early = section_by toks (Early t.line true) None all_fine;
    }

-- ---- what the form wants

module _ (s : TourHandler) (before : List Piece) (n : ℕ) where
  pub wants_none : (s' : TourHandler) → TourHolds s before → s.seen.section ≡ false
      → s'.seen ≡ record s.seen { section = true } → s'.cities.items ≡ s.cities.items
      → TourWants s' before words.TourSection n [] × Goes tour_format before words.TourSection n []
  unfolding list_entries
  wants_none s' h none seen cities =
      let fresh : has words.TourSection before ≡ false = h.section ∙ none in
      let empty : s.cities.items ≡ [] = h.cities
      ∙ ap (λ (ts : List Token). numbers_of (list_entries ts)) (tokens_in-none words.TourSection before fresh) in (
        record {
          seen = rw seen (record { name = h.seen.name; kind = h.seen.kind; dimension = h.seen.dimension });
          word_is = refl;
          fresh = fresh;
          section = rw seen refl;
          are = tt;
          fine = fine_none 0;
          cities = cities
              ∙ empty;
        },
        tour_goes before n fresh [] tt (fine_none 0),
      )

module _ (s s' : TourHandler) (before : List Piece) (word : Keyword) (n : ℕ) (toks : List Token)
    (w : TourWants s before word n toks) (seen : s'.seen ≡ s.seen) where
  still_seen : IsSeen s'.seen before
  still_seen = subst (λ (x : TourWords). IsSeen x before) (sym seen) w.seen

  -- after the section
  holds_section : (ts : List Token) (after : After) → s'.cities.items ≡ numbers_of (list_entries ts) →
      TourHolds s' (before ++ a_section words.TourSection n ts after)
  holds_section ts after cities = record {
    seen = seen_more s'.seen s'.seen before _ still_seen (or-false s'.seen.name) (or-false s'.seen.kind)
        (or-false s'.seen.dimension);
    section = has-new words.TourSection before (a_section words.TourSection n ts after) refl
        ∙ sym (ap (λ (x : TourWords). x.section) seen ∙ w.section);
    cities = cities
        ∙ ap (λ (xs : List Token). numbers_of (list_entries xs))
        (sym (tokens_in-new words.TourSection before (a_section words.TourSection n ts after) w.fresh));
  }

  pub early_ended : s'.cities.items ≡ s.cities.items → (line : ℕ) →
      TourHolds s' (before ++ a_section word n toks (Early line true))
      × (tour_section before word n toks (Early line true) ≡ None)
  early_ended cities line = rw w.word_is (
    holds_section toks (Early line true) (cities ∙ w.cities ∙ ap numbers_of (sym (entries_all toks w.are))),
    section_by before n w.fresh toks (Early line true) None (all_fine before n w.fresh toks w.are w.fine),
  )

  module _ (bytes : List ℕ) (line : ℕ) (short : length bytes ≤ 64) where
    not_long : ltb 64 (length bytes) ≡ false
    not_long = le-ltb _ _ short

    count_is : length s.cities.items ≡ length toks
    count_is = ap length w.cities ∙ length-numbers toks

    pub token_ending : s'.cities.items ≡ s.cities.items → is_minus_one (integer bytes) ≡ true
        → ((ones : List Token) →
        TourHolds s' (before ++ a_section word n ((toks ++ whole bytes line ∷ []) ++ ones) Clean))
        × EndsWithMinusOne tour_format before word n (toks ++ whole bytes line ∷ [])
    token_ending cities minus = rw w.word_is (
      λ ones. holds_section ((toks ++ whole bytes line ∷ []) ++ ones) Clean (cities ∙ w.cities
          ∙ ap numbers_of
          (sym (ap list_entries (append_assoc toks (whole bytes line ∷ []) ones)
          ∙ entries_ended toks ones (whole bytes line) w.are minus))),
      tour_ends before n w.fresh toks w.are w.fine (whole bytes line) minus,
    )

    pub token_eof : s'.cities.items ≡ s.cities.items → integer bytes ≡ None → is_eof bytes ≡ true
        → TourHolds s' (before ++ a_section word n toks (Early line true))
        × EndsAtEof tour_format before word n toks (whole bytes line)
    token_eof cities none eof = (
      (early_ended cities line).0,
      rw w.word_is (tour_eof before n w.fresh toks w.are w.fine (whole bytes line) (ap is_minus_one none) eof),
    )

    pub token_stops : (k : TextKind) → is_minus_one (integer bytes) ≡ false → is_eof bytes ≡ false →
        entry_stop (length toks) (whole bytes line) ≡ Some (Fault line k) →
        StopsAt tour_format before word n toks (whole bytes line) k
    token_stops k minus eof stop =
        rw w.word_is (stops_at before n w.fresh toks w.are w.fine (whole bytes line) (Fault line k) minus eof stop)

    pub word_stops : integer bytes ≡ None → is_keyword bytes ≡ true → is_eof bytes ≡ false →
        StopsAt tour_format before word n toks (whole bytes line) kinds.Truncated
    unfolding entry_stop
    word_stops none word_is eof = token_stops kinds.Truncated (ap is_minus_one none) eof (rw (not_long, word_is) refl)

    pub other_stops : integer bytes ≡ None → is_keyword bytes ≡ false → is_eof bytes ≡ false →
        StopsAt tour_format before word n toks (whole bytes line) kinds.BadNumber
    unfolding entry_stop
    other_stops none word_is eof =
        token_stops kinds.BadNumber (ap is_minus_one none) eof (rw (not_long, word_is, none) refl)

    module _ (z : ℤ) (is : integer bytes ≡ Some z) (goes : is_minus_one (Some z) ≡ false)
        (no_word : is_keyword bytes ≡ false) (no_eof : is_eof bytes ≡ false) where
      pub out_stops : IsOut z (length s.cities.items) →
          StopsAt tour_format before word n toks (whole bytes line) kinds.OutOfLimit
      unfolding entry_stop
      out_stops out =
          let over : (not (in_range 0 4294967295 (Some z)) || leb ENTRY_LIMIT (length toks)) ≡ true =
          subst (λ (k : ℕ). IsOut z k) count_is out in
          token_stops kinds.OutOfLimit (ap is_minus_one is ∙ goes) no_eof (rw (not_long, no_word, is, over) refl)

      pub token_more : length s.cities.items < ENTRY_LIMIT → IsNext z s.cities.items s'.cities.items →
          TourWants s' before word n (toks ++ whole bytes line ∷ [])
          × Goes tour_format before word n (toks ++ whole bytes line ∷ [])
      unfolding entry_stop
      token_more room next =
          let minus : is_ending (whole bytes line) ≡ false = ap is_minus_one is ∙ goes in
          let low : leb 0 next.city ≡ true = le-leb _ _ (omega arith) in
          let high : leb next.city 4294967295 ≡ true = le-leb _ _ next.small in
          let few : leb ENTRY_LIMIT (length toks) ≡ false = lt-leb _ _ (omega (arith, room, count_is)) in
          let number : integer bytes ≡ Some (pos next.city) = is ∙ ap (λ (x : ℤ). Some x) next.is in
          let here : entry_stop (length toks) (whole bytes line) ≡ None =
          rw (not_long, no_word, number, low, high, few) refl in
          let are = are_more toks (whole bytes line) w.are minus no_eof in
          let fine =
          fine_more 0 toks (whole bytes line) w.fine
          (ap (λ (k : ℕ). entry_stop k (whole bytes line)) (omega arith) ∙ here) in
          let cities : s'.cities.items ≡ numbers_of (toks ++ whole bytes line ∷ []) = next.pushed
          ∙ ap (λ (ns : List ℕ). ns ++ next.city ∷ []) w.cities
          ∙ ap (λ (o : Option ℤ). numbers_of toks ++ natural_or_zero o ∷ []) (sym number)
          ∙ sym (numbers_more toks (whole bytes line)) in (
            record {
              seen = still_seen;
              word_is = w.word_is;
              fresh = w.fresh;
              section = ap (λ (x : TourWords). x.section) seen ∙ w.section;
              are = are;
              fine = fine;
              cities = cities;
            },
            rw w.word_is (tour_goes before n w.fresh (toks ++ whole bytes line ∷ []) are fine),
          )

-- ---- whether a number is -1, as the code tests it

pub minus_is : (z : ℤ) → SFits w64 z → of_z w64 z ≡ 18446744073709551615 → is_minus_one (Some z) ≡ true
minus_is z f h = let e : z ≡ negsuc 0 = sym (to_z-of_z w64 z f) ∙ ap (to_z w64) h in rw e refl

pub minus_not : (z : ℤ) → (of_z w64 z ≡ 18446744073709551615 → ⊥) → is_minus_one (Some z) ≡ false
minus_not (pos n) h = refl
minus_not (negsuc n) h = ne_eqb n 0 (λ e. h (ap (λ (k : ℕ). of_z w64 (negsuc k)) e))
