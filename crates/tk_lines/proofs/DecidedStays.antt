-- What is decided of a text's pieces stays.
use Rattle.std.proofs.Common.{◌≡◌, ℕ, suc, ◌≤◌, ⊎_elim, Bool, true, false, cond, eqb, leb, ltb, not, ◌&&◌, List}
use Rattle.std.proofs.Common.{[], ◌∷◌, ◌++◌, length, take, get_or, Option, Some, None, Result, refl, sym, ap, subst}
use Rattle.std.proofs.Common.{◌∙◌, arith}
use Rattle.std.proofs.lemmas.List.{append-nil, get_or_past, take_all}
use Rattle.std.proofs.lemmas.Bool.{eqb-true, ltb-true, lt-ltb}
use Rattle.tk_words.specs.declared.keyword.Keyword.{Keyword}
use Rattle.tk_words.specs.declared.keyword.Role.{Role}
use Rattle.tk_words.specs.declared.keyword.Role.TheVariants.{BeginsHeader, BeginsSection, EndsText}
use Rattle.tk_words.specs.declared.fault.TextFault.{TextFault}
use Rattle.tk_words.specs.Lex.{LF, Line, Token, onto_line, lines, tokens, tokens_of, is_blank, is_letter, is_word_byte}
use Rattle.tk_words.specs.Lex.{is_empty, front, behind, after_word}
use Rattle.tk_words.specs.TextLaws.{StaysDecided}
use Rattle.tk_words.specs.Words.{keyword_of, role}
use Rattle.tk_words.proofs.BoolLaws.{and_false}
use Rattle.tk_lines.specs.Pieces.{After, Clean, Trailing, Piece, Stray, LongWord, OpenWord, Unknown, Header, Section}
use Rattle.tk_lines.specs.Pieces.{End, Extent, Extents, Open, Format, after_tokens, section_at, last_line}
use Rattle.tk_lines.specs.Pieces.{piece_by, piece_of, pieces_at, covered, cut, end_token, end_piece, checked, stopped}
use Rattle.tk_lines.specs.Pieces.{judge, decided_by}
use Rattle.tk_lines.proofs.LinesAndMoreBytes.{a_line, AreLong, IsLonger, Lasts, TokensGrow, lines_grow, lines_nothing}
use Rattle.tk_lines.proofs.LinesAndMoreBytes.{tokens_after, tokens_before, tokens_behind, line_tokens_grow}
use Rattle.tk_lines.proofs.LinesAndMoreBytes.{open_or_long}
use Rattle.tk_lines.proofs.LinesAndMoreBytes.{stopped_kept, stopped_stays}
use Rattle.tk_lines.proofs.Headers.ByteRuns.{front_grows}
use Rattle.tk_lines.proofs.MiddleOfLine.{behind-more, front-more, lines-byte, lines-LF}
use Rattle.tk_lines.proofs.Sections.MiddleOfSection.{cut-blank, cut-covered, tokens_of-gap}
use Rattle.tk_lines.proofs.Sections.SectionBytes.{first_token}
use Rattle.tk_lines.proofs.EndedTexts.{all_append}
use Rattle.tk_lines.proofs.Sections.SectionEnds.{StandsFrom, From, from_weaker, last_line-append, last_line_from}
use Rattle.tk_lines.proofs.Sections.SectionEnds.{tokens_of_from}
use Rattle.tk_lines.proofs.SettledSections.{EndsOpen, IsSettled, IsSteady, TakesAll, settled_same}

-- ---- the lines after a section's last token

-- lines from line n on, none of them before one that precedes it
abbrev Rising : ℕ → List Line → Type 0
Rising n [] = Unit {0}
Rising n (l ∷ ls) = (n ≤ l.number) × Rising l.number ls

rising_onto : (n b : ℕ) (ls : List Line) → Rising n ls → Rising n (onto_line b ls)
rising_onto n b [] h = tt
rising_onto n b (l ∷ ls) h = h

rising_weaker : (m n : ℕ) (ls : List Line) → m ≤ n → Rising n ls → Rising m ls
rising_weaker m n [] le h = tt
rising_weaker m n (l ∷ ls) le h = (omega (arith, le, h.0), h.1)

rising_lines : (e : Bool) (bs : List ℕ) (n : ℕ) → Rising n (lines e n bs)
rising_lines e [] n = rw (lines_nothing e n) (omega arith, tt)
rising_lines e (b ∷ bs) n = by_lf (eqb b LF) refl (λ m. rising_lines e bs m)
  where
    by_lf : (t : Bool) → eqb b LF ≡ t → ((m : ℕ) → Rising m (lines e m bs)) → Rising n (lines e n (b ∷ bs))
    by_lf true is ih =
        let lf : b ≡ LF = eqb-true b LF is in
        subst (λ (c : ℕ). Rising n (lines e n (c ∷ bs))) (sym lf)
        (rw (lines-LF e n bs)
        (omega arith, rising_weaker n (suc n) (lines e (suc n) bs) (omega arith) (ih (suc n))))
    by_lf false is ih = rw (lines-byte e n b bs is) (rising_onto n b (lines e n bs) (ih n))

rising_tokens : (n : ℕ) (ls : List Line) → Rising n ls → From n (tokens ls)
rising_tokens n [] h = tt
rising_tokens n (l ∷ ls) h =
    from_weaker n l.number (tokens (l ∷ ls)) h.0
    (all_append (StandsFrom l.number) (tokens_of l.whole l.number l.bytes) (tokens ls)
    (tokens_of_from l.whole l.number l.bytes) (rising_tokens l.number ls h.1))

-- the tokens of a line that is not blank reach it
reached : (w : Bool) (n : ℕ) (bs : List ℕ) (m c : ℕ) (cs : List ℕ) → behind is_blank bs ≡ c ∷ cs →
    n ≤ last_line m (tokens_of w n bs)
reached w n [] m c cs h = absurd cc
reached w n (b ∷ bs) m c cs h = by_blank (is_blank b) refl (reached w n bs m c cs)
  where
    by_blank : (t : Bool) → is_blank b ≡ t → (behind is_blank bs ≡ c ∷ cs → n ≤ last_line m (tokens_of w n bs)) →
        n ≤ last_line m (tokens_of w n (b ∷ bs))
    by_blank true k ih = rw (tokens_of-gap w n b bs k) (ih (rw k at h))
    by_blank false k ih =
        let u = first_token w n b bs k in
        let come : From n (record { bytes = b ∷ u.bytes; line = n; whole = u.whole } ∷ u.rest) =
        rw u.is at (tokens_of_from w n (b ∷ bs)) in
        rw u.is (last_line_from n n u.rest (omega arith) come.1)

cut_nothing : (extent : Extents) (before : List Piece) (upto : ℕ) → cut extent before upto [] ≡ []
unfolding cut
cut_nothing extent before upto = refl

-- all tokens of lines belong to the piece before, so that there are no pieces among them
cut_taken : (extent : Extents) (ls : List Line) (k m : ℕ) (before : List Piece) → Rising k ls →
    cut extent before (last_line m (tokens ls)) ls ≡ []
cut_taken extent [] k m before h = cut_nothing extent before m
cut_taken extent (l ∷ ls) k m before h =
    by_blank (behind is_blank l.bytes) refl (ap (λ (u : ℕ). cut extent before u ls) last
    ∙ cut_taken extent ls l.number (last_line m (tokens_of l.whole l.number l.bytes)) before h.1)
  where
    last : last_line m (tokens (l ∷ ls)) ≡ last_line (last_line m (tokens_of l.whole l.number l.bytes)) (tokens ls)
    last = last_line-append m (tokens_of l.whole l.number l.bytes) (tokens ls)

    by_blank : (r : List ℕ) → behind is_blank l.bytes ≡ r → cut extent before (last_line m (tokens (l ∷ ls))) ls ≡ [] →
        cut extent before (last_line m (tokens (l ∷ ls))) (l ∷ ls) ≡ []
    by_blank [] e rest = cut-blank extent before (last_line m (tokens (l ∷ ls))) l ls e ∙ rest
    by_blank (c ∷ cs) e rest =
        let le : l.number ≤ last_line (last_line m (tokens_of l.whole l.number l.bytes)) (tokens ls) =
        last_line_from l.number (last_line m (tokens_of l.whole l.number l.bytes)) (tokens ls)
        (reached l.whole l.number l.bytes m c cs e) (rising_tokens l.number ls h.1) in
        cut-covered extent before (last_line m (tokens (l ∷ ls))) l ls (omega (arith, le, last)) ∙ rest

-- ---- the end of lines of which the last may go on

end_last : (l : Line) (front : List Line) (n : ℕ) (bs : List ℕ) →
    end_token l (front ++ a_line n bs false ∷ []) ≡ record { bytes = []; line = n; whole = false }
end_last l [] n bs = refl
end_last l (k ∷ front) n bs = end_last k front n bs

end_piece_last : (front : List Line) (n : ℕ) (bs : List ℕ) →
    end_piece (front ++ a_line n bs false ∷ []) ≡ End n false ∷ []
end_piece_last [] n bs = refl
end_piece_last (l ∷ front) n bs = rw (end_last l front n bs) refl

abbrev open_end : ℕ → Token
open_end n = record { bytes = []; line = n; whole = false }

ends_open : (last n : ℕ) (closed : Bool) → EndsOpen (after_tokens last closed (open_end n))
ends_open last n true = by_test (eqb n last)
  where
    by_test : (t : Bool) → EndsOpen (cond (t && false) (Trailing last) Clean)
    by_test true = tt
    by_test false = tt
ends_open last n false = refl

-- a section that takes all tokens
taken_all : (extent : Extents) (before : List Piece) (word : Keyword) (first : ℕ) (ts : List Token) (n : ℕ)
    → TakesAll (extent before word ts) ts
    → section_at extent before word first ts (open_end n) ≡ Section word first ts
    (after_tokens (last_line first ts) (extent before word ts).closed (open_end n)) ∷ []
taken_all extent before word first ts n h =
    let e = extent before word ts in
    rw (take_all e.count ts h.all, get_or_past ts e.count (open_end n) h.all, h.goes) refl

-- ---- from the pieces before some lines on

module _ {V : Type 0} (f : Format V) (steady : IsSteady f) (a : Result V TextFault) (n : ℕ) (others : List Piece) where
  -- what some lines decide though more may follow, and other lines in their place
  abbrev Moves : List Piece → ℕ → List Line → List Line → List Piece → List Piece → Type 0
  Moves before upto ls ms new new' =
      judge f before ((new ++ cut f.extent (before ++ new) (covered upto new) ls) ++ End n false ∷ []) ≡ Some a
      → judge f before ((new' ++ cut f.extent (before ++ new') (covered upto new') ms) ++ others) ≡ Some a

  abbrev Stays : List Line → List Line → Type 0
  Stays ls ms = (before : List Piece) (upto : ℕ) →
      judge f before (cut f.extent before upto ls ++ End n false ∷ []) ≡ Some a →
      judge f before (cut f.extent before upto ms ++ others) ≡ Some a

  module _ (before : List Piece) (upto : ℕ) (ls ms : List Line) (stay : Stays ls ms) where
    moves_none : Moves before upto ls ms [] []
    moves_none h = rw (append-nil before) (stay before upto (rw (append-nil before) at h))

    moves_cond : (t : Bool) (x x' y y' : List Piece) → Moves before upto ls ms x x' → Moves before upto ls ms y y' →
        Moves before upto ls ms (cond t x y) (cond t x' y')
    moves_cond true x x' y y' g h = g
    moves_cond false x x' y y' g h = h

    moves_stray : (line : ℕ) → Moves before upto ls ms (Stray line ∷ []) (Stray line ∷ [])
    unfolding judge
    moves_stray line h = h

    moves_long : (line : ℕ) → Moves before upto ls ms (LongWord line ∷ []) (LongWord line ∷ [])
    unfolding judge
    moves_long line h = h

    moves_unknown : (line : ℕ) → Moves before upto ls ms (Unknown line ∷ []) (Unknown line ∷ [])
    unfolding judge
    moves_unknown line h = h

    moves_end : (line : ℕ) → Moves before upto ls ms (End line true ∷ []) (End line true ∷ [])
    unfolding judge
    moves_end line h = h

    moves_open : (line : ℕ) (new : List Piece) → Moves before upto ls ms (OpenWord line ∷ []) new
    unfolding judge
    moves_open line new h = absurd cc

    moves_header : (word : Keyword) (v : Token) → Moves before upto ls ms (Header word v ∷ []) (Header word v ∷ [])
    unfolding judge
    moves_header word v h =
        let now : List Piece = before ++ Header word v ∷ [] in
        stopped_kept (checked 4096 v (f.header before word v.bytes))
        (judge f now (cut f.extent now upto ls ++ End n false ∷ []))
        (judge f now (cut f.extent now upto ms ++ others)) a (stay now upto) h

    moves_longer : (word : Keyword) (v u : Token) → IsLonger v u →
        Moves before upto ls ms (Header word v ∷ []) (Header word u ∷ [])
    unfolding judge
    moves_longer word v u g h =
        ⊎_elim opens longs (open_or_long 4096 v u (f.header before word v.bytes) (f.header before word u.bytes) g)
      where
        opens : checked 4096 v (f.header before word v.bytes) ≡ Some Open →
            stopped (checked 4096 u (f.header before word u.bytes))
            (judge f (before ++ Header word u ∷ []) (cut f.extent (before ++ Header word u ∷ []) upto ms
            ++ others)) ≡ Some a
        opens o = absurd (let j = rw o at h in cc)

        longs : AreLong 4096 v u (f.header before word v.bytes) (f.header before word u.bytes)
            → stopped (checked 4096 u (f.header before word u.bytes))
            (judge f (before ++ Header word u ∷ []) (cut f.extent (before ++ Header word u ∷ []) upto ms
            ++ others)) ≡ Some a
        longs b = rw b.new (rw b.old at h)

    -- a section that stays
    moves_same : (word : Keyword) (first : ℕ) (ts : List Token) (after : After) (line : ℕ) (t : Bool)
        → Moves before upto ls ms (Section word first ts after ∷ cond t (End line true ∷ []) [])
        (Section word first ts after ∷ cond t (End line true ∷ []) [])
    unfolding judge
    moves_same word first ts after line true h = h
    moves_same word first ts after line false h =
        let now : List Piece = before ++ Section word first ts after ∷ [] in
        stopped_kept (f.section before word first ts after)
        (judge f now (cut f.extent now (last_line first ts) ls ++ End n false ∷ []))
        (judge f now (cut f.extent now (last_line first ts) ms ++ others)) a (stay now (last_line first ts)) h

    -- a section that takes all tokens, and has a fault
    moves_all : (word : Keyword) (first : ℕ) (front last rest : List Token) (end : Token) → Lasts last rest
        → TakesAll (f.extent before word (front ++ last)) (front ++ last)
        → ((now : List Piece) → cut f.extent now (last_line first (front ++ last)) ls ≡ [])
        → Moves before upto ls ms
        (Section word first (front ++ last)
        (after_tokens (last_line first (front ++ last)) (f.extent before word (front ++ last)).closed (open_end n))
        ∷ []) (section_at f.extent before word first (front ++ rest) end)
    unfolding judge
    moves_all word first front last rest end h all none k =
        let ts : List Token = front ++ last in
        let us : List Token = front ++ rest in
        let e : Extent = f.extent before word ts in
        let e' : Extent = f.extent before word us in
        let after : After = after_tokens (last_line first ts) e.closed (open_end n) in
        let after' : After = after_tokens (last_line first (take e'.count us)) e'.closed (get_or us e'.count end) in
        let now : List Piece = before ++ Section word first ts after ∷ [] in
        let nothing : judge f now (cut f.extent now (last_line first ts) ls ++ End n false ∷ []) ≡ None =
        rw (none now) refl in
        stopped_stays (f.section before word first ts after) (f.section before word first (take e'.count us) after')
        (judge f now (cut f.extent now (last_line first ts) ls ++ End n false ∷ [])) _ a nothing
        (λ line c s. steady.faults before word first front last rest after after' line c h all.all
        (ends_open (last_line first ts) n e.closed) s) k

    moves_section : (word : Keyword) (first : ℕ) (ts us : List Token) (end : Token) → TokensGrow ts us
        → ((now : List Piece) → cut f.extent now (last_line first ts) ls ≡ [])
        → Moves before upto ls ms (section_at f.extent before word first ts (open_end n))
        (section_at f.extent before word first us end)
    moves_section word first ts us end g none =
        rw (g.old, g.new)
        (⊎_elim settled all (steady.extends before word g.front g.last g.rest (open_end n) end g.lasts))
      where
        settled : IsSettled (f.extent before word (g.front ++ g.last)) (f.extent before word (g.front ++ g.rest))
            (g.front ++ g.last) (g.front ++ g.rest) (open_end n) end
            → Moves before upto ls ms (section_at f.extent before word first (g.front ++ g.last) (open_end n))
            (section_at f.extent before word first (g.front ++ g.rest) end)
        settled s =
            let e : Extent = f.extent before word (g.front ++ g.last) in
            let next : Token = get_or (g.front ++ g.last) e.count (open_end n) in
            let same = settled_same f.extent before word first (g.front ++ g.last) (g.front ++ g.rest)
            (open_end n) end s in
            subst (λ (new : List Piece). Moves before upto ls ms
            (section_at f.extent before word first (g.front ++ g.last) (open_end n)) new) (sym same)
            (moves_same word first (take e.count (g.front ++ g.last))
            (after_tokens (last_line first (take e.count (g.front ++ g.last))) e.closed next) next.line e.at_eof)

        all : TakesAll (f.extent before word (g.front ++ g.last)) (g.front ++ g.last)
            → Moves before upto ls ms (section_at f.extent before word first (g.front ++ g.last) (open_end n))
            (section_at f.extent before word first (g.front ++ g.rest) end)
        all t =
            subst (λ (new : List Piece). Moves before upto ls ms new
            (section_at f.extent before word first (g.front ++ g.rest) end))
            (sym (taken_all f.extent before word first (g.front ++ g.last) n t))
            (moves_all word first g.front g.last g.rest end g.lasts t
            (λ now. ap (λ (xs : List Token). cut f.extent now (last_line first xs) ls) (sym g.old) ∙ none now))

    -- a line whose word is known, and one in its place with the same word
    module _ (l : Line) (bytes : List ℕ) (whole : Bool) (y z : List ℕ)
        (headers : (word : Keyword) → Moves before upto ls ms (Header word
        (record { bytes = y; line = l.number; whole = l.whole }) ∷ [])
        (Header word (record { bytes = z; line = l.number; whole = whole }) ∷ []))
        (grown : TokensGrow (tokens_of l.whole l.number (after_word y)
        ++ tokens ls) (tokens_of whole l.number (after_word z) ++ tokens ms))
        (ends : end_token l ls ≡ open_end n)
        (none : (now : List Piece) → cut f.extent now (last_line l.number
        (tokens_of l.whole l.number (after_word y) ++ tokens ls)) ls ≡ []) where
      moves_role : (word : Keyword) (r : Role) →
          Moves before upto ls ms (piece_by f.extent before l ls y word r)
          (piece_by f.extent before (a_line l.number bytes whole) ms z word r)
      moves_role word BeginsHeader = headers word
      moves_role word BeginsSection =
          rw ends
          (moves_section word l.number (tokens_of l.whole l.number (after_word y) ++ tokens ls)
          (tokens_of whole l.number (after_word z) ++ tokens ms)
          (end_token (a_line l.number bytes whole) ms) grown none)
      moves_role word EndsText = moves_end l.number

      moves_of : (word : Option Keyword) →
          Moves before upto ls ms (piece_of f.extent before l ls y word)
          (piece_of f.extent before (a_line l.number bytes whole) ms z word)
      moves_of None = moves_unknown l.number
      moves_of (Some word) = moves_role word (role word)

    -- a line that is the same in both
    module _ (l : Line) (grown : TokensGrow (tokens ls) (tokens ms)) (ends : end_token l ls ≡ open_end n)
        (rising : Rising l.number ls) where
      moves_line : (bs : List ℕ) →
          Moves before upto ls ms (pieces_at f.extent before l ls bs) (pieces_at f.extent before l ms bs)
      moves_line [] = moves_none
      moves_line (b ∷ bs) =
          let word : List ℕ = front is_word_byte (b ∷ bs) in
          let y : List ℕ = behind is_word_byte (b ∷ bs) in
          let first : List Token = tokens_of l.whole l.number (after_word y) in
          let none : (now : List Piece) → cut f.extent now (last_line l.number (first ++ tokens ls)) ls ≡ [] =
          λ now. ap (λ (u : ℕ). cut f.extent now u ls) (last_line-append l.number first (tokens ls))
          ∙ cut_taken f.extent ls l.number (last_line l.number first) now rising in
          moves_cond (not (is_letter b)) _ _ _ _ (moves_stray l.number)
          (moves_cond (ltb 64 (length word)) _ _ _ _ (moves_long l.number)
          (moves_cond (not l.whole && is_empty y) _ _ _ _ (moves_open l.number (OpenWord l.number ∷ []))
          (moves_of l l.bytes l.whole y y (λ w. moves_header w (record { bytes = y; line = l.number; whole = l.whole }))
          (tokens_before first (tokens ls) (tokens ms) grown) ends none (keyword_of word))))

  module _ (bytes more : List ℕ) (whole : Bool) (rest : List Line) where
    abbrev old : Line
    old = a_line n bytes false

    abbrev new : Line
    new = a_line n (bytes ++ more) whole

    nothing_stays : Stays [] rest
    unfolding cut judge
    nothing_stays before upto h = absurd cc

    -- the last line, which may go on
    module _ (before : List Piece) (upto : ℕ) where
      moves_nothing : (x : List Piece) → Moves before upto [] rest [] x
      unfolding cut judge
      moves_nothing x h = absurd cc

      long_or_open : (t t' u : Bool) (x x' : List Piece) → (t ≡ true → t' ≡ true) → u ≡ true
          → Moves before upto [] rest (cond t (LongWord n ∷ []) (cond u (OpenWord n ∷ []) x))
          (cond t' (LongWord n ∷ []) x')
      long_or_open true t' u x x' g e = rw (g refl) (moves_long before upto [] rest nothing_stays n)
      long_or_open false t' u x x' g e =
          rw e (moves_open before upto [] rest nothing_stays n (cond t' (LongWord n ∷ []) x'))

      -- what a line that begins with a letter makes of its word, and of what comes after it
      abbrev worded : Line → List Line → List ℕ → List ℕ → List Piece
      worded l ls word y = cond (ltb 64 (length word)) (LongWord n ∷ [])
          (cond (not l.whole && is_empty y) (OpenWord n ∷ []) (piece_of f.extent before l ls y (keyword_of word)))

      moves_word : (d : ℕ) (ds word : List ℕ) →
          Moves before upto [] rest (worded old [] word (d ∷ ds)) (worded new rest word ((d ∷ ds) ++ more))
      moves_word d ds word =
          let u : Token = record { bytes = d ∷ ds; line = n; whole = false } in
          let v : Token = record { bytes = (d ∷ ds) ++ more; line = n; whole = whole } in
          let longer : IsLonger u v = record { partial = refl; some = refl; line = refl; more = more; bytes = refl } in
          let first : List Token = tokens_of false n (after_word (d ∷ ds)) in
          let first' : List Token = tokens_of whole n (after_word ((d ∷ ds) ++ more)) in
          let grown : TokensGrow (first ++ []) (first' ++ tokens rest) =
          rw (append-nil first) (tokens_behind first first' (tokens rest) (tokens_after whole n (d ∷ ds) more)) in
          rw (and_false (not whole)) (
          moves_cond before upto [] rest nothing_stays (ltb 64 (length word))
          _ _ _ _ (moves_long before upto [] rest nothing_stays n) (
          moves_of before upto [] rest nothing_stays old (bytes ++ more) whole (d ∷ ds) ((d ∷ ds) ++ more)
          (λ w. moves_longer before upto [] rest nothing_stays w u v longer) grown refl
          (λ now. cut_nothing f.extent now (last_line n (first ++ []))) (keyword_of word)
          )
          )

      moves_open_line : (b : ℕ) (bs : List ℕ) →
          Moves before upto [] rest (pieces_at f.extent before old [] (b ∷ bs))
          (pieces_at f.extent before new rest ((b ∷ bs) ++ more))
      moves_open_line b bs =
          moves_cond before upto [] rest nothing_stays (not (is_letter b))
          _ _ _ _ (moves_stray before upto [] rest nothing_stays n) (by_tail (behind is_word_byte (b ∷ bs)) refl)
        where
          by_tail : (y : List ℕ) → behind is_word_byte (b ∷ bs) ≡ y → Moves before upto [] rest
              (worded old [] (front is_word_byte (b ∷ bs)) (behind is_word_byte (b ∷ bs)))
              (worded new rest (front is_word_byte ((b ∷ bs) ++ more)) (behind is_word_byte ((b ∷ bs) ++ more)))
          by_tail [] e =
              long_or_open (ltb 64 (length (front is_word_byte (b ∷ bs))))
              (ltb 64 (length (front is_word_byte ((b ∷ bs) ++ more))))
              (is_empty (behind is_word_byte (b ∷ bs))) _ _
              (λ t. lt-ltb _ _ (omega (arith, ltb-true _ _ t, front_grows is_word_byte (b ∷ bs) more e)))
              (ap is_empty e)
          by_tail (d ∷ ds) e =
              rw (front-more is_word_byte (b ∷ bs) more d ds e, e, behind-more is_word_byte (b ∷ bs) more d ds e)
              (moves_word d ds (front is_word_byte (b ∷ bs)))

      moves_last : Moves before upto [] rest (pieces_at f.extent before old [] (behind is_blank bytes))
          (pieces_at f.extent before new rest (behind is_blank (bytes ++ more)))
      moves_last = by_held (behind is_blank bytes) refl
        where
          by_held : (held : List ℕ) → behind is_blank bytes ≡ held →
              Moves before upto [] rest (pieces_at f.extent before old [] (behind is_blank bytes))
              (pieces_at f.extent before new rest (behind is_blank (bytes ++ more)))
          by_held [] e = rw e (moves_nothing (pieces_at f.extent before new rest (behind is_blank (bytes ++ more))))
          by_held (b ∷ bs) e = rw (e, behind-more is_blank bytes more b bs e) (moves_open_line b bs)

    lines_stay : (front : List Line) (k : ℕ) → Rising k (front ++ old ∷ []) →
        Stays (front ++ old ∷ []) (front ++ new ∷ rest)
    unfolding cut
    lines_stay [] k rising before upto =
        moves_cond before upto [] rest nothing_stays (leb n upto) [] []
        _ _ (moves_none before upto [] rest nothing_stays) (moves_last before upto)
    lines_stay (l ∷ front) k rising before upto =
        let ls : List Line = front ++ old ∷ [] in
        let ms : List Line = front ++ new ∷ rest in
        let stay : Stays ls ms = lines_stay front l.number rising.1 in
        moves_cond before upto ls ms stay (leb l.number upto) [] [] _ _ (moves_none before upto ls ms stay)
        (moves_line before upto ls ms stay l (line_tokens_grow front n bytes more whole rest) (end_last l front n bytes)
        rising.1 (behind is_blank l.bytes))

-- what a steady format's texts decide stays
pub decided_stays : {V : Type 0} (f : Format V) → IsSteady f → StaysDecided (decided_by f)
unfolding decided_by
decided_stays f steady bs a h e more =
    let g = lines_grow e bs more 1 in
    let rising : Rising 1 (g.front ++ a_line g.number g.bytes false ∷ []) = rw g.old at (rising_lines false bs 1) in
    let ls : List Line = g.front ++ a_line g.number g.bytes false ∷ [] in
    let ms : List Line = g.front ++ a_line g.number (g.bytes ++ g.more) g.whole ∷ g.rest in
    let all : judge f [] (cut f.extent [] 0 ls ++ end_piece ls) ≡ Some a = rw g.old at h in
    let old : judge f [] (cut f.extent [] 0 ls ++ End g.number false ∷ []) ≡ Some a =
    sym (ap (λ (ps : List Piece). judge f [] (cut f.extent [] 0 ls ++ ps))
    (end_piece_last g.front g.number g.bytes)) ∙ all in
    rw g.new (lines_stay f steady a g.number (end_piece ms) g.bytes g.more g.whole g.rest g.front 1 rising [] 0 old)
