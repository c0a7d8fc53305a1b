-- Sections of which more tokens change nothing that is decided.
use Rattle.std.proofs.Common.{◌≡◌, ℕ, zero, suc, ◌-◌, ◌<◌, ◌≤◌, ◌⊎◌, ⊎_elim, inl, inr, Bool, true, false, cond}
use Rattle.std.proofs.Common.{◌&&◌, ◌||◌, List, [], ◌∷◌, ◌++◌, length, take, get_or, Option, Some, None, refl, sym, ap}
use Rattle.std.proofs.Common.{◌∙◌, arith}
use Rattle.std.proofs.lemmas.List.{length-append}
use Rattle.tk_words.specs.declared.keyword.Keyword.{Keyword}
use Rattle.tk_words.specs.declared.fault.TextKind.{TextKind}
use Rattle.tk_words.specs.Lex.{Token, is_empty, integer}
use Rattle.tk_words.specs.Entry.{is_eof}
use Rattle.tk_words.specs.MinusOne.{is_minus_one, is_ending, begins_minus_one, may_be_ending, one_more}
use Rattle.tk_words.proofs.NumberLaws.MinusOne.{no_more, no_more_with_one}
use Rattle.tk_lines.specs.Lists.{with_one, list_extent, list_entries, trailing_stop}
use Rattle.tk_lines.specs.Pieces.{After, Clean, Trailing, Early, Piece, Section, End, Extent, Extents, Stop, Open}
use Rattle.tk_lines.specs.Pieces.{Fault, Format, after_tokens, section_at, last_line, checked, or_else}
use Rattle.tk_lines.proofs.LinesAndMoreBytes.{AreLong, IsLonger, Lasts, or_else_kept, open_or_long, checked_grown}
use Rattle.tk_lines.proofs.Sections.SectionEnds.{take_past}
use Rattle.tk_lines.proofs.Sections.ListTokens.{long_goes, open_goes, no_minus_one}

-- ---- what more tokens leave

-- the token after a section's, as far as its end tells of it
abbrev pub NextIs : Bool → Token → Token → Type 0
NextIs true t u = (u.line ≡ t.line) × (is_empty u.bytes ≡ is_empty t.bytes)
NextIs false t u = u ≡ t

-- a section that ends before the last of the tokens stays as it is
pub record IsSettled (e e' : Extent) (ts us : List Token) (end end' : Token) : Type 0 where
  pub extent : e' ≡ e
  pub taken : take e.count us ≡ take e.count ts
  pub next : NextIs e.closed (get_or ts e.count end) (get_or us e.count end')

-- a section that takes all of the tokens
pub record TakesAll (e : Extent) (ts : List Token) : Type 0 where
  pub all : length ts ≤ e.count
  pub goes : e.at_eof ≡ false

abbrev pub Extends : Extent → Extent → List Token → List Token → Token → Token → Type 0
Extends e e' ts us end end' = IsSettled e e' ts us end end' ⊎ TakesAll e ts

-- nothing comes after the tokens
abbrev pub EndsOpen : After → Type 0
EndsOpen Clean = Unit {0}
EndsOpen (Trailing line) = ⊥
EndsOpen (Early line whole) = whole ≡ false

-- more tokens leave a section that has ended, and each fault of a section that has not
pub record IsSteady {V : Type 0} (f : Format V) : Type 0 where
  pub extends : (before : List Piece) (word : Keyword) (front last rest : List Token) (end end' : Token)
      → Lasts last rest
      → Extends (f.extent before word (front ++ last)) (f.extent before word (front ++ rest)) (front ++ last)
      (front ++ rest) end end'
  pub faults : (before : List Piece) (word : Keyword) (n : ℕ) (front last rest : List Token) (after after' : After)
      (line : ℕ) (k : TextKind) → Lasts last rest
      → length (front ++ last) ≤ (f.extent before word (front ++ last)).count → EndsOpen after
      → f.section before word n (front ++ last) after ≡ Some (Fault line k)
      → f.section before word n (take (f.extent before word (front ++ rest)).count (front ++ rest)) after' ≡ Some
      (Fault line k)

-- ---- the pieces of a section that has ended

-- a section's pieces, by how far it goes
abbrev made : Extent → Keyword → ℕ → List Token → Token → List Piece
made e word n toks next = Section word n toks (after_tokens (last_line n toks) e.closed next)
    ∷ cond e.at_eof (End next.line true ∷ []) []

next_line : (closed : Bool) (t u : Token) → NextIs closed t u → u.line ≡ t.line
next_line true t u h = h.0
next_line false t u h = ap (λ (x : Token). x.line) h

next_after : (last : ℕ) (closed : Bool) (t u : Token) → NextIs closed t u →
    after_tokens last closed u ≡ after_tokens last closed t
next_after last true t u h = rw (h.0, h.1) refl
next_after last false t u h = ap (λ (x : Token). Early x.line x.whole) h

made_same : (e : Extent) (word : Keyword) (n : ℕ) (toks : List Token) (t u : Token) → NextIs e.closed t u →
    made e word n toks u ≡ made e word n toks t
made_same e word n toks t u h = rw (next_after (last_line n toks) e.closed t u h, next_line e.closed t u h) refl

pub settled_same : (extent : Extents) (before : List Piece) (word : Keyword) (n : ℕ) (ts us : List Token)
    (end end' : Token)
    → IsSettled (extent before word ts) (extent before word us) ts us end end' →
    section_at extent before word n us end' ≡ section_at extent before word n ts end
settled_same extent before word n ts us end end' s =
    let e = extent before word ts in
    ap (λ (x : Extent). made x word n (take x.count us) (get_or us x.count end')) s.extent
    ∙ ap (λ (toks : List Token). made e word n toks (get_or us e.count end')) s.taken
    ∙ made_same e word n (take e.count ts) (get_or ts e.count end) (get_or us e.count end') s.next

-- ---- the first so many tokens

pub front_taken : (c : ℕ) (front last rest : List Token) → Lasts last rest → c < length (front ++ last) →
    take c (front ++ rest) ≡ take c (front ++ last)
front_taken zero front last rest h lt = refl
front_taken (suc c) [] (t ∷ s ∷ last) rest h lt = absurd h
front_taken (suc c) [] _ rest h lt = absurd (omega (arith, lt))
front_taken (suc c) (x ∷ front) last rest h lt =
    ap (λ (ts : List Token). x ∷ ts) (front_taken c front last rest h (omega (arith, lt)))

pub longer_next : (t u : Token) → IsLonger t u → (u.line ≡ t.line) × (is_empty u.bytes ≡ is_empty t.bytes)
longer_next t u g = (g.line, ap is_empty g.bytes ∙ on t.bytes g.more g.some ∙ sym g.some)
  where
    on : (xs ys : List ℕ) → is_empty xs ≡ false → is_empty (xs ++ ys) ≡ false
    on [] ys h = absurd cc
    on (x ∷ xs) ys h = refl

pub next_taken : (c : ℕ) (front last rest : List Token) (end end' : Token) → Lasts last rest →
    c < length (front ++ last) → NextIs true (get_or (front ++ last) c end) (get_or (front ++ rest) c end')
next_taken c [] [] rest end end' h lt = absurd (omega (arith, lt))
next_taken zero [] (t ∷ []) [] end end' h lt = absurd h
next_taken zero [] (t ∷ []) (u ∷ rest) end end' h lt = longer_next t u h
next_taken (suc c) [] (t ∷ []) rest end end' h lt = absurd (omega (arith, lt))
next_taken c [] (t ∷ s ∷ last) rest end end' h lt = absurd h
next_taken zero (x ∷ front) last rest end end' h lt = (refl, refl)
next_taken (suc c) (x ∷ front) last rest end end' h lt = next_taken c front last rest end end' h (omega (arith, lt))

pub lasts_length : (last rest : List Token) → Lasts last rest → length last ≤ length rest
lasts_length [] rest h = omega arith
lasts_length (t ∷ []) (u ∷ rest) h = omega arith
lasts_length _ rest h = absurd h

-- ---- sections of no tokens

pub nothing_extends : (front last rest : List Token) (end end' : Token) → Lasts last rest
    → Extends (record { count = 0; closed = true; at_eof = false })
    (record { count = 0; closed = true; at_eof = false }) (front ++ last) (front ++ rest) end end'
nothing_extends [] [] rest end end' h = inr (record { all = omega arith; goes = refl })
nothing_extends [] (t ∷ []) (u ∷ rest) end end' h =
    inl (record { extent = refl; taken = refl; next = longer_next t u h })
nothing_extends [] _ rest end end' h = absurd h
nothing_extends (x ∷ front) last rest end end' h = inl (record { extent = refl; taken = refl; next = (refl, refl) })

-- ---- lists

list_ends : (t : Token) (ts : List Token) → is_ending t ≡ true →
    list_extent (t ∷ ts) ≡ record { count = suc (one_more ts); closed = true; at_eof = false }
unfolding list_extent
list_ends t ts h = rw h refl

list_at_eof : (t : Token) (ts : List Token) → is_ending t ≡ false → (t.whole && is_eof t.bytes) ≡ true →
    list_extent (t ∷ ts) ≡ record { count = 0; closed = false; at_eof = true }
unfolding list_extent
list_at_eof t ts h k = rw (h, k) refl

list_goes : (t : Token) (ts : List Token) → is_ending t ≡ false → (t.whole && is_eof t.bytes) ≡ false →
    list_extent (t ∷ ts) ≡ with_one (list_extent ts)
unfolding list_extent
list_goes t ts h k = rw (h, k) refl

pub list_nothing : list_extent [] ≡ record { count = 0; closed = false; at_eof = false }
unfolding list_extent
list_nothing = refl

-- a token that is no beginning of a -1 becomes none
one_more_longer : (t u : Token) (us : List Token) → IsLonger t u → (is_ending t || may_be_ending t) ≡ false →
    one_more (u ∷ us) ≡ 0
one_more_longer t u us g none = by_bytes t.bytes refl
  where
    begins : begins_minus_one t.bytes ≡ false
    begins = rw g.partial at none

    by_bytes : (bs : List ℕ) → t.bytes ≡ bs → one_more (u ∷ us) ≡ 0
    by_bytes [] e = absurd (let j = sym (ap is_empty e) ∙ g.some in cc)
    by_bytes (b ∷ bs) e =
        let is : u.bytes ≡ (b ∷ bs) ++ g.more = g.bytes ∙ ap (λ (x : List ℕ). x ++ g.more) e in
        let none_begins : begins_minus_one (b ∷ bs) ≡ false = ap begins_minus_one (sym e) ∙ begins in
        no_minus_one u.whole (is_minus_one (integer u.bytes)) (is_minus_one (integer (u.bytes ++ 49 ∷ [])))
        (ap (λ (x : List ℕ). is_minus_one (integer x)) is ∙ no_more b bs g.more none_begins)
        (ap (λ (x : List ℕ). is_minus_one (integer (x ++ 49 ∷ []))) is ∙ no_more_with_one b bs g.more none_begins)

-- a token more at the front
pub one_extends : (x : Token) (e e' : Extent) (ts us : List Token) (end end' : Token) → Extends e e' ts us end end' →
    Extends (with_one e) (with_one e') (x ∷ ts) (x ∷ us) end end'
one_extends x e e' ts us end end' h = ⊎_elim settled all h
  where
    settled : IsSettled e e' ts us end end' → Extends (with_one e) (with_one e') (x ∷ ts) (x ∷ us) end end'
    settled s =
        inl (record { extent = ap with_one s.extent; taken = ap (λ (xs : List Token). x ∷ xs) s.taken; next = s.next })

    all : TakesAll e ts → Extends (with_one e) (with_one e') (x ∷ ts) (x ∷ us) end end'
    all a = inr (record { all = omega (arith, a.all); goes = a.goes })

abbrev ended_list : ℕ → Extent
ended_list more = record { count = suc more; closed = true; at_eof = false }

-- a list that a -1 ends
ended_extends : (x : Token) (front last rest : List Token) (end end' : Token) → Lasts last rest
    → Extends (ended_list (one_more (front ++ last))) (ended_list (one_more (front ++ rest))) (x ∷ front ++ last)
    (x ∷ front ++ rest) end end'
ended_extends x [] [] rest end end' h = inr (record { all = omega arith; goes = refl })
ended_extends x [] (t ∷ []) (u ∷ rest) end end' h = by_more (is_ending t || may_be_ending t) refl
  where
    by_more : (b : Bool) → (is_ending t || may_be_ending t) ≡ b →
        Extends (ended_list (one_more (t ∷ []))) (ended_list (one_more (u ∷ rest))) (x ∷ t ∷ []) (x ∷ u ∷ rest) end end'
    by_more true e = let one : one_more (t ∷ []) ≡ 1 = rw e refl in
        inr (record { all = omega (arith, one); goes = refl })
    by_more false e =
        let old : one_more (t ∷ []) ≡ 0 = rw e refl in
        rw (old, one_more_longer t u rest h e) (inl (record { extent = refl; taken = refl; next = longer_next t u h }))
ended_extends x [] _ rest end end' h = absurd h
ended_extends x (y ∷ front) last rest end end' h = by_more (is_ending y || may_be_ending y) front last rest h
  where
    by_more : (b : Bool) (front last rest : List Token) → Lasts last rest →
        Extends (ended_list (cond b 1 0)) (ended_list (cond b 1 0)) (x ∷ y ∷ front ++ last)
        (x ∷ y ∷ front ++ rest) end end'
    by_more false front last rest h = inl (record { extent = refl; taken = refl; next = (refl, refl) })
    by_more true front last rest h =
        one_extends x _ _ _ _ end end'
        (one_extends y _ _ _ _ end end' (nothing_extends front last rest end end' h))

pub list_extends : (front last rest : List Token) (end end' : Token) → Lasts last rest →
    Extends (list_extent (front ++ last)) (list_extent (front ++ rest)) (front ++ last) (front ++ rest) end end'
list_extends [] [] rest end end' h =
    inr (record { all = omega arith; goes = ap (λ (e : Extent). e.at_eof) list_nothing })
list_extends [] (t ∷ []) (u ∷ rest) end end' h =
    let g = open_goes t h.partial in
    let is = list_goes t [] g.0 g.1 in
    let one : (list_extent (t ∷ [])).count ≡ suc (list_extent []).count = ap (λ (e : Extent). e.count) is in
    inr (record {
      all = omega (arith, one);
      goes = ap (λ (e : Extent). e.at_eof) is
          ∙ ap (λ (e : Extent). e.at_eof) list_nothing;
    })
list_extends [] _ rest end end' h = absurd h
list_extends (x ∷ front) last rest end end' h =
    by_kind (is_ending x) refl (x.whole && is_eof x.bytes) refl (list_extends front last rest end end' h)
  where
    by_kind : (s : Bool) → is_ending x ≡ s → (t : Bool) → (x.whole && is_eof x.bytes) ≡ t
        → Extends (list_extent (front ++ last)) (list_extent (front ++ rest)) (front ++ last) (front ++ rest) end end'
        → Extends (list_extent (x ∷ front ++ last)) (list_extent (x ∷ front ++ rest)) (x ∷ front ++ last)
        (x ∷ front ++ rest) end end'
    by_kind true i t j k =
        rw (list_ends x (front ++ last) i, list_ends x (front ++ rest) i) (ended_extends x front last rest end end' h)
    by_kind false i true j k =
        rw (list_at_eof x (front ++ last) i j, list_at_eof x (front ++ rest) i j)
        (inl (record { extent = refl; taken = refl; next = refl }))
    by_kind false i false j k =
        rw (list_goes x (front ++ last) i j, list_goes x (front ++ rest) i j)
        (one_extends x (list_extent (front ++ last)) (list_extent (front ++ rest)) (front ++ last)
        (front ++ rest) end end' k)

-- ---- faults

-- the first stop among tokens, of which each is tested by what is known of those before it
abbrev pub stops : {S : Type 0} → (S → Token → List (Bool × TextKind)) → (S → Token → S) → S → List Token → Option Stop
stops tests next s [] = None
stops tests next s (t ∷ ts) = let rest = stops tests next (next s t) ts in or_else (checked 64 t (tests s t)) rest

lasts_taken : (c : ℕ) (last rest : List Token) → Lasts last rest → length last ≤ c → Lasts last (take c rest)
lasts_taken c [] rest h le = tt
lasts_taken zero (t ∷ []) (u ∷ rest) h le = absurd (omega (arith, le))
lasts_taken (suc c) (t ∷ []) (u ∷ rest) h le = h
lasts_taken c _ rest h le = absurd h

entries_goes : (t : Token) (ts : List Token) → is_ending t ≡ false → list_entries (t ∷ ts) ≡ t ∷ list_entries ts
unfolding list_entries
entries_goes t ts h = rw h refl

entries_end : (t : Token) (ts : List Token) → is_ending t ≡ true → list_entries (t ∷ ts) ≡ []
unfolding list_entries
entries_end t ts h = rw h refl

entries_nothing : list_entries [] ≡ []
unfolding list_entries
entries_nothing = refl

module _ {S : Type 0} (tests : S → Token → List (Bool × TextKind)) (next : S → Token → S) (line : ℕ)
    (k : TextKind) where
  abbrev pub Faults : S → List Token → Type 0
  Faults s ts = stops tests next s ts ≡ Some (Fault line k)

  pub stops_grown : (s : S) (front last rest : List Token) → Lasts last rest → Faults s (front ++ last) →
      Faults s (front ++ rest)
  stops_grown s [] [] rest h f = absurd cc
  stops_grown s [] (t ∷ []) (u ∷ rest) h f =
      checked_grown 64 t u (tests s t) (tests s u) None (stops tests next (next s u) rest) line k h f
  stops_grown s [] _ rest h f = absurd h
  stops_grown s (x ∷ front) last rest h f =
      or_else_kept (checked 64 x (tests s x)) (stops tests next (next s x) (front ++ last))
      (stops tests next (next s x) (front ++ rest)) (Fault line k) (stops_grown (next s x) front last rest h) f

  -- of the first so many tokens, where these are all that there were
  pub stops_taken : (s : S) (c : ℕ) (front last rest : List Token) → Lasts last rest → length (front ++ last) ≤ c →
      Faults s (front ++ last) → Faults s (take c (front ++ rest))
  stops_taken s c front last rest h le f =
      rw (take_past c front rest (omega (arith, le, length-append front last)))
      (stops_grown s front last (take (c - length front) rest)
      (lasts_taken (c - length front) last rest h (omega (arith, le, length-append front last))) f)

  -- of a list's entries
  pub list_stops : (s : S) (front last rest : List Token) → Lasts last rest
      → length (front ++ last) ≤ (list_extent (front ++ last)).count
      → Faults s (list_entries (front ++ last)) →
      Faults s (list_entries (take (list_extent (front ++ rest)).count (front ++ rest)))
  list_stops s [] [] rest h le f = absurd (let j = sym (ap (stops tests next s) entries_nothing) ∙ f in cc)
  list_stops s [] (t ∷ []) (u ∷ rest) h le f = ⊎_elim opens longs (open_or_long 64 t u (tests s t) (tests s u) h)
    where
      first : or_else (checked 64 t (tests s t)) (stops tests next (next s t) []) ≡ Some (Fault line k)
      first =
          sym (ap (stops tests next s) (entries_goes t [] (open_goes t h.partial).0
          ∙ ap (λ (xs : List Token). t ∷ xs) entries_nothing)) ∙ f

      opens : checked 64 t (tests s t) ≡ Some Open →
          Faults s (list_entries (take (list_extent (u ∷ rest)).count (u ∷ rest)))
      opens o = absurd (let j = rw o at first in cc)

      longs : AreLong 64 t u (tests s t) (tests s u) →
          Faults s (list_entries (take (list_extent (u ∷ rest)).count (u ∷ rest)))
      longs b =
          let g = long_goes u b.long in
          let more : List Token = take (list_extent rest).count rest in
          ap (λ (e : Extent). stops tests next s (list_entries (take e.count (u ∷ rest)))) (list_goes u rest g.0 g.1)
          ∙ ap (stops tests next s) (entries_goes u more g.0)
          ∙ checked_grown 64 t u (tests s t) (tests s u) (stops tests next (next s t) [])
          (stops tests next (next s u) (list_entries more)) line k h first
  list_stops s [] _ rest h le f = absurd h
  list_stops s (x ∷ front) last rest h le f =
      by_kind (is_ending x) refl (x.whole && is_eof x.bytes) refl (list_stops (next s x) front last rest h)
    where
      by_kind : (a : Bool) → is_ending x ≡ a → (b : Bool) → (x.whole && is_eof x.bytes) ≡ b
          → (length (front ++ last) ≤ (list_extent (front ++ last)).count
          → Faults (next s x) (list_entries (front ++ last))
          → Faults (next s x) (list_entries (take (list_extent (front ++ rest)).count (front ++ rest))))
          → Faults s (list_entries (take (list_extent (x ∷ front ++ rest)).count (x ∷ front ++ rest)))
      by_kind true i b j ih = absurd (let l = sym (ap (stops tests next s) (entries_end x (front ++ last) i)) ∙ f in cc)
      by_kind false i true j ih =
          let none : (list_extent (x ∷ front ++ last)).count ≡ 0 =
          ap (λ (e : Extent). e.count) (list_at_eof x (front ++ last) i j) in
          absurd (omega (arith, le, none))
      by_kind false i false j ih =
          let one : (list_extent (x ∷ front ++ last)).count ≡ suc (list_extent (front ++ last)).count =
          ap (λ (e : Extent). e.count) (list_goes x (front ++ last) i j) in
          let more : List Token = take (list_extent (front ++ rest)).count (front ++ rest) in
          ap (λ (e : Extent). stops tests next s (list_entries (take e.count (x ∷ front ++ rest))))
          (list_goes x (front ++ rest) i j)
          ∙ ap (stops tests next s) (entries_goes x more i)
          ∙ or_else_kept (checked 64 x (tests s x)) (stops tests next (next s x) (list_entries (front ++ last)))
          (stops tests next (next s x) (list_entries more)) (Fault line k) (ih (omega (arith, le, one)))
          (sym (ap (stops tests next s) (entries_goes x (front ++ last) i)) ∙ f)

-- a fault of a section that has not ended stands at its word or at one of its tokens
pub section_kept : (w x x' y y' : Option Stop) (s : Stop) → y ≡ None → (x ≡ Some s → x' ≡ Some s) →
    or_else w (or_else x y) ≡ Some s → or_else w (or_else x' y') ≡ Some s
section_kept (Some z) x x' y y' s none g h = h
section_kept None None x' y y' s none g h = absurd (let j = sym none ∙ h in cc)
section_kept None (Some z) x' y y' s none g h = ap (λ (o : Option Stop). or_else o y') (g h)

pub open_trailing : (after : After) → EndsOpen after → trailing_stop after ≡ None
open_trailing Clean h = refl
open_trailing (Trailing line) h = absurd h
open_trailing (Early line whole) h = refl
