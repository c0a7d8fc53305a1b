-- Lines and tokens of bytes, and of these with more bytes behind them.
use Rattle.std.proofs.Common.{◌≡◌, ℕ, suc, ◌<◌, ⊎_elim, ◌⊎◌, inl, inr, Bool, true, false, cond, eqb, ltb, not, List, []}
use Rattle.std.proofs.Common.{◌∷◌, ◌++◌, length, Option, Some, None, Result, refl, sym, ap, subst, ◌∙◌, append_assoc}
use Rattle.std.proofs.Common.{arith}
use Rattle.std.proofs.lemmas.List.{append-nil, length-append}
use Rattle.std.proofs.lemmas.Bool.{eqb-true, ltb-true, lt-ltb}
use Rattle.tk_words.specs.declared.fault.TextKind.{TextKind}
use Rattle.tk_words.specs.declared.fault.TextKind.TheVariants as kinds
use Rattle.tk_words.specs.declared.fault.TextFault.{TextFault}
use Rattle.tk_words.specs.Lex.{LF, Line, Token, onto_line, onto_token, lines, tokens, tokens_of, is_blank, is_empty}
use Rattle.tk_words.specs.Lex.{behind, after_word, without_colon_before}
use Rattle.tk_words.proofs.BoolLaws.{or_true}
use Rattle.tk_lines.specs.Pieces.{Stop, Open, Fault, checked, or_else, stopped}
use Rattle.tk_lines.proofs.MiddleOfLine.{behind-more, lines-byte, lines-LF}
use Rattle.tk_lines.proofs.Sections.MiddleOfSection.{tokens_of-more, tokens_of-end, tokens_of-gap, tokens_of-none}
use Rattle.tk_lines.proofs.Sections.SectionEnds.{first_line}
use Rattle.tk_lines.proofs.Sections.SectionBytes.{first_token}

-- ---- lines

abbrev pub a_line : ℕ → List ℕ → Bool → Line
a_line n bs w = record { number = n; bytes = bs; whole = w }

-- lines of which the last may go on, and the same lines with more on the last, and others behind it
pub record LinesGrow (ls ms : List Line) : Type 0 where
  pub front : List Line
  pub number : ℕ
  pub bytes : List ℕ
  pub more : List ℕ
  pub whole : Bool
  pub rest : List Line
  pub old : ls ≡ front ++ a_line number bytes false ∷ []
  pub new : ms ≡ front ++ a_line number (bytes ++ more) whole ∷ rest

grown : (front : List Line) (n : ℕ) (bs more : List ℕ) (w : Bool) (rest : List Line) →
    LinesGrow (front ++ a_line n bs false ∷ []) (front ++ a_line n (bs ++ more) w ∷ rest)
grown front n bs more w rest = record {
  front = front;
  number = n;
  bytes = bs;
  more = more;
  whole = w;
  rest = rest;
  old = refl;
  new = refl;
}

grow_front : (l : Line) (ls ms : List Line) → LinesGrow ls ms → LinesGrow (l ∷ ls) (l ∷ ms)
grow_front l ls ms g = rw (g.old, g.new) (grown (l ∷ g.front) g.number g.bytes g.more g.whole g.rest)

grow_onto : (b : ℕ) (ls ms : List Line) → LinesGrow ls ms → LinesGrow (onto_line b ls) (onto_line b ms)
grow_onto b ls ms g = rw (g.old, g.new) (by_front g.front)
  where
    by_front : (front : List Line) →
        LinesGrow (onto_line b (front ++ a_line g.number g.bytes false ∷ []))
        (onto_line b (front ++ a_line g.number (g.bytes ++ g.more) g.whole ∷ g.rest))
    by_front [] = grown [] g.number (b ∷ g.bytes) g.more g.whole g.rest
    by_front (l ∷ front) =
        grown (record l { bytes = b ∷ l.bytes } ∷ front) g.number g.bytes g.more g.whole g.rest

pub lines_nothing : (e : Bool) (n : ℕ) → lines e n [] ≡ a_line n [] e ∷ []
unfolding lines
lines_nothing e n = refl

pub lines_grow : (e : Bool) (bs more : List ℕ) (n : ℕ) → LinesGrow (lines false n bs) (lines e n (bs ++ more))
lines_grow e [] more n =
    let k = first_line e n more in
    rw (lines_nothing false n, k.is) (grown [] n [] k.bytes k.whole k.rest)
lines_grow e (b ∷ bs) more n = by_lf (eqb b LF) refl (λ m. lines_grow e bs more m)
  where
    by_lf : (t : Bool) → eqb b LF ≡ t → ((m : ℕ) → LinesGrow (lines false m bs) (lines e m (bs ++ more))) →
        LinesGrow (lines false n (b ∷ bs)) (lines e n (b ∷ bs ++ more))
    by_lf true is ih =
        let lf : b ≡ LF = eqb-true b LF is in
        subst (λ (c : ℕ). LinesGrow (lines false n (c ∷ bs)) (lines e n (c ∷ bs ++ more))) (sym lf)
        (rw (lines-LF false n bs, lines-LF e n (bs ++ more))
        (grow_front (a_line n [] true) (lines false (suc n) bs) (lines e (suc n) (bs ++ more)) (ih (suc n))))
    by_lf false is ih =
        rw (lines-byte false n b bs is, lines-byte e n b (bs ++ more) is)
        (grow_onto b (lines false n bs) (lines e n (bs ++ more)) (ih n))

-- ---- tokens

-- a token that may go on, and one that has more bytes
pub record IsLonger (t u : Token) : Type 0 where
  pub partial : t.whole ≡ false
  pub some : is_empty t.bytes ≡ false
  pub line : u.line ≡ t.line
  pub more : List ℕ
  pub bytes : u.bytes ≡ t.bytes ++ more

-- nothing, or a last token that may go on, and what stands there with more bytes
abbrev pub Lasts : List Token → List Token → Type 0
Lasts [] us = Unit {0}
Lasts (t ∷ []) [] = ⊥
Lasts (t ∷ []) (u ∷ us) = IsLonger t u
Lasts (t ∷ s ∷ ts) us = ⊥

-- tokens of which the last may go on, and the tokens that stand there with more bytes
pub record TokensGrow (ts us : List Token) : Type 0 where
  pub front : List Token
  pub last : List Token
  pub rest : List Token
  pub old : ts ≡ front ++ last
  pub new : us ≡ front ++ rest
  pub lasts : Lasts last rest

lasts_more : (ts us more : List Token) → Lasts ts us → Lasts ts (us ++ more)
lasts_more [] us more h = tt
lasts_more (t ∷ []) (u ∷ us) more h = h
lasts_more _ us more h = absurd h

tokens_grown : (front last rest : List Token) → Lasts last rest → TokensGrow (front ++ last) (front ++ rest)
tokens_grown front last rest h =
    record { front = front; last = last; rest = rest; old = refl; new = refl; lasts = h }

tokens_front : (t : Token) (ts us : List Token) → TokensGrow ts us → TokensGrow (t ∷ ts) (t ∷ us)
tokens_front t ts us g = rw (g.old, g.new) (tokens_grown (t ∷ g.front) g.last g.rest g.lasts)

pub tokens_before : (xs ts us : List Token) → TokensGrow ts us → TokensGrow (xs ++ ts) (xs ++ us)
tokens_before [] ts us g = g
tokens_before (x ∷ xs) ts us g = tokens_front x (xs ++ ts) (xs ++ us) (tokens_before xs ts us g)

pub tokens_behind : (ts us more : List Token) → TokensGrow ts us → TokensGrow ts (us ++ more)
tokens_behind ts us more g =
    rw (g.old, g.new, append_assoc g.front g.rest more)
    (tokens_grown g.front g.last (g.rest ++ more) (lasts_more g.last g.rest more g.lasts))

tokens_onto : (b : ℕ) (ts us : List Token) → TokensGrow ts us → TokensGrow (onto_token b ts) (onto_token b us)
tokens_onto b ts us g = rw (g.old, g.new) (by_front g.front g.last g.rest g.lasts)
  where
    by_front : (front last rest : List Token) → Lasts last rest →
        TokensGrow (onto_token b (front ++ last)) (onto_token b (front ++ rest))
    by_front [] [] rest h = tokens_grown [] [] (onto_token b rest) tt
    by_front [] (t ∷ []) (u ∷ rest) h =
        tokens_grown [] (record t { bytes = b ∷ t.bytes } ∷ []) (record u { bytes = b ∷ u.bytes } ∷ rest) (record {
          partial = h.partial;
          some = refl;
          line = h.line;
          more = h.more;
          bytes = ap (λ (xs : List ℕ). b ∷ xs) h.bytes;
        })
    by_front [] _ rest h = absurd h
    by_front (x ∷ front) last rest h = tokens_grown (record x { bytes = b ∷ x.bytes } ∷ front) last rest h

pub tokens_grow : (w : Bool) (n : ℕ) (bs x : List ℕ) → TokensGrow (tokens_of false n bs) (tokens_of w n (bs ++ x))
tokens_grow w n [] x = rw (tokens_of-none false n) (tokens_grown [] [] (tokens_of w n x) tt)
tokens_grow w n (b ∷ []) x = by_blank (is_blank b) refl
  where
    by_blank : (t : Bool) → is_blank b ≡ t → TokensGrow (tokens_of false n (b ∷ [])) (tokens_of w n (b ∷ x))
    by_blank true h =
        rw (tokens_of-gap false n b [] h, tokens_of-none false n) (tokens_grown [] [] (tokens_of w n (b ∷ x)) tt)
    by_blank false h =
        let t : Token = record { bytes = b ∷ []; line = n; whole = false } in
        let u = first_token w n b x h in
        rw (tokens_of-end false n b [] h refl, tokens_of-none false n, u.is)
        (tokens_grown [] (t ∷ []) (record { bytes = b ∷ u.bytes; line = n; whole = u.whole } ∷ u.rest)
        (record { partial = refl; some = refl; line = refl; more = u.bytes; bytes = refl }))
tokens_grow w n (b ∷ c ∷ bs) x = by_blanks (is_blank b) refl (is_blank c) refl (tokens_grow w n (c ∷ bs) x)
  where
    by_blanks : (s : Bool) → is_blank b ≡ s → (t : Bool) → is_blank c ≡ t →
        TokensGrow (tokens_of false n (c ∷ bs)) (tokens_of w n (c ∷ bs ++ x)) →
        TokensGrow (tokens_of false n (b ∷ c ∷ bs)) (tokens_of w n (b ∷ c ∷ bs ++ x))
    by_blanks true h t k g = rw (tokens_of-gap false n b (c ∷ bs) h, tokens_of-gap w n b (c ∷ bs ++ x) h) g
    by_blanks false h true k g =
        rw (tokens_of-end false n b (c ∷ bs) h (ap not k), tokens_of-end w n b (c ∷ bs ++ x) h (ap not k), or_true w)
        (tokens_front (record { bytes = b ∷ []; line = n; whole = true }) (tokens_of false n (c ∷ bs))
        (tokens_of w n (c ∷ bs ++ x)) g)
    by_blanks false h false k g =
        rw (tokens_of-more false n b (c ∷ bs) h (ap not k), tokens_of-more w n b (c ∷ bs ++ x) h (ap not k))
        (tokens_onto b (tokens_of false n (c ∷ bs)) (tokens_of w n (c ∷ bs ++ x)) g)

-- the same behind a word
after_more : (tail x : List ℕ) (c : ℕ) (cs : List ℕ) → behind is_blank tail ≡ c ∷ cs →
    after_word (tail ++ x) ≡ after_word tail ++ x
after_more tail x c cs e = ap without_colon_before (behind-more is_blank tail x c cs e) ∙ by_colon (eqb c 58)
    ∙ ap (λ (y : List ℕ). without_colon_before y ++ x) (sym e)
  where
    by_colon : (t : Bool) → cond t (cs ++ x) (c ∷ cs ++ x) ≡ cond t cs (c ∷ cs) ++ x
    by_colon true = refl
    by_colon false = refl

pub tokens_after : (w : Bool) (n : ℕ) (tail x : List ℕ) →
    TokensGrow (tokens_of false n (after_word tail)) (tokens_of w n (after_word (tail ++ x)))
tokens_after w n tail x = by_rest (behind is_blank tail) refl
  where
    by_rest : (r : List ℕ) → behind is_blank tail ≡ r →
        TokensGrow (tokens_of false n (after_word tail)) (tokens_of w n (after_word (tail ++ x)))
    by_rest [] e =
        let none : tokens_of false n (after_word tail) ≡ [] =
        ap (λ (y : List ℕ). tokens_of false n (without_colon_before y)) e ∙ tokens_of-none false n in
        rw none (tokens_grown [] [] (tokens_of w n (after_word (tail ++ x))) tt)
    by_rest (c ∷ cs) e = rw (after_more tail x c cs e) (tokens_grow w n (after_word tail) x)

-- the tokens of lines
pub line_tokens_grow : (front : List Line) (n : ℕ) (bs more : List ℕ) (w : Bool) (rest : List Line) →
    TokensGrow (tokens (front ++ a_line n bs false ∷ [])) (tokens (front ++ a_line n (bs ++ more) w ∷ rest))
line_tokens_grow [] n bs more w rest =
    rw (append-nil (tokens_of false n bs))
    (tokens_behind (tokens_of false n bs) (tokens_of w n (bs ++ more)) (tokens rest) (tokens_grow w n bs more))
line_tokens_grow (l ∷ front) n bs more w rest =
    tokens_before (tokens_of l.whole l.number l.bytes) (tokens (front ++ a_line n bs false ∷ []))
    (tokens (front ++ a_line n (bs ++ more) w ∷ rest)) (line_tokens_grow front n bs more w rest)

-- ---- what stops

-- a token that is too long already, and one with more bytes
pub record AreLong (limit : ℕ) (t u : Token) (tests tests' : List (Bool × TextKind)) : Type 0 where
  pub long : limit < length u.bytes
  pub old : checked limit t tests ≡ Some (Fault t.line kinds.TooLong)
  pub new : checked limit u tests' ≡ Some (Fault t.line kinds.TooLong)

-- a token that may go on is too long for good, or more bytes decide
pub open_or_long : (limit : ℕ) (t u : Token) (tests tests' : List (Bool × TextKind)) → IsLonger t u →
    (checked limit t tests ≡ Some Open) ⊎ AreLong limit t u tests tests'
open_or_long limit t u tests tests' g = by_long (ltb limit (length t.bytes)) refl
  where
    by_long : (long : Bool) → ltb limit (length t.bytes) ≡ long → (checked limit t tests ≡ Some Open)
        ⊎ AreLong limit t u tests tests'
    by_long true is =
        let lt : limit < length u.bytes =
        omega (arith, ltb-true _ _ is, ap length g.bytes, length-append t.bytes g.more) in
        let longer : ltb limit (length u.bytes) ≡ true = lt-ltb _ _ lt in
        inr (record { long = lt; old = rw is refl; new = rw (longer, g.line) refl })
    by_long false is = inl (rw (is, g.partial) refl)

-- a first fault stays the first one
pub or_else_kept : (x y y' : Option Stop) (s : Stop) → (y ≡ Some s → y' ≡ Some s) → or_else x y ≡ Some s →
    or_else x y' ≡ Some s
or_else_kept None y y' s g h = g h
or_else_kept (Some z) y y' s g h = h

pub checked_grown : (limit : ℕ) (t u : Token) (tests tests' : List (Bool × TextKind)) (y y' : Option Stop) (line : ℕ)
    (k : TextKind) → IsLonger t u → or_else (checked limit t tests) y ≡ Some (Fault line k) →
    or_else (checked limit u tests') y' ≡ Some (Fault line k)
checked_grown limit t u tests tests' y y' line k g h = ⊎_elim opens longs (open_or_long limit t u tests tests' g)
  where
    opens : checked limit t tests ≡ Some Open → or_else (checked limit u tests') y' ≡ Some (Fault line k)
    opens o = absurd (let j = rw o at h in cc)

    longs : AreLong limit t u tests tests' → or_else (checked limit u tests') y' ≡ Some (Fault line k)
    longs b = rw b.new (rw b.old at h)

-- what is said of a stop, or of what comes after it
pub stopped_kept : {V : Type 0} (s : Option Stop) (x x' : Option (Result V TextFault)) (a : Result V TextFault) →
    (x ≡ Some a → x' ≡ Some a) → stopped s x ≡ Some a → stopped s x' ≡ Some a
stopped_kept None x x' a g h = g h
stopped_kept (Some Open) x x' a g h = h
stopped_kept (Some (Fault line k)) x x' a g h = h

-- where nothing comes after it, a fault is all that can be said
pub stopped_stays : {V : Type 0} (s s' : Option Stop) (x x' : Option (Result V TextFault)) (a : Result V TextFault) →
    x ≡ None → ((line : ℕ) (k : TextKind) → s ≡ Some (Fault line k) → s' ≡ Some (Fault line k)) → stopped s x ≡ Some a →
    stopped s' x' ≡ Some a
stopped_stays None s' x x' a none g h = absurd (let j = sym none ∙ h in cc)
stopped_stays (Some Open) s' x x' a none g h = absurd cc
stopped_stays (Some (Fault line k)) s' x x' a none g h = ap (λ (y : Option Stop). stopped y x') (g line k refl) ∙ h
