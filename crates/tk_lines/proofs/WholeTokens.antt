-- A token that stands whole in some bytes.
use Rattle.std.proofs.Common.{◌≤◌, ◌+◌, ◌-◌, get_or, take, take-add, drop, ◌≡◌, ℕ, ◌<◌, ◌||◌, ◌==◌, false}
use Rattle.std.proofs.Common.{eqb, List, [], ◌∷◌, ◌++◌, All, length, sym, ap, ◌∙◌, arith}
use Rattle.std.proofs.lemmas.List.{append_assoc, append-nil, take_more, take_rest, length-append}
use Rattle.std.proofs.lemmas.List.{length-drop, length-take}
use Rattle.std.proofs.lemmas.List.Elements.{All-head, All-tail}
use Rattle.tk_words.specs.declared.keyword.Keyword.{Keyword}
use Rattle.tk_words.specs.FirstToken.{IsFirstToken}
use Rattle.tk_words.proofs.FirstBytes.{line_short}
use Rattle.tk_words.specs.Texts.{line_behind}
use Rattle.tk_words.specs.Lex.{LF, Token, is_blank, IsUnbroken}
use Rattle.tk_lines.specs.Reader.Handlers.{Promise}
use Rattle.tk_lines.specs.Pieces.{Piece, Format}
use Rattle.tk_lines.specs.Reader.Places.{anything, this, IsInSection, Fed, AtToken}
use Rattle.tk_lines.specs.declared.reader.PieceReader.{PieceReader}
use Rattle.tk_lines.specs.declared.line_state.LineState.TheVariants as places
use Rattle.std.proofs.lemmas.Bool.{or_parts}
use Rattle.tk_lines.proofs.KnownStates.{at_place}
use Rattle.tk_lines.proofs.Sections.SectionSteps.{token_byte}
use Rattle.tk_lines.proofs.OneByteAfter.{token_narrow}
use Rattle.tk_lines.proofs.LineSteps.{line_behind-byte}

abbrev pub IsSolid : List ℕ → Type 0
IsSolid bs = All (λ b. (is_blank b || b == 10) ≡ false) bs

solid_head : (b : ℕ) (bs : List ℕ) → IsSolid (b ∷ bs) → (is_blank b ≡ false) × (eqb b LF ≡ false)
solid_head b bs all = or_parts _ _ (All-head (λ b. (is_blank b || b == 10) ≡ false) b bs all)

solid_tail : (b : ℕ) (bs : List ℕ) → IsSolid (b ∷ bs) → IsSolid bs
solid_tail b bs all = All-tail (λ b. (is_blank b || b == 10) ≡ false) b bs all

run_of : (bs : List ℕ) → 0 < length bs → IsSolid bs → IsUnbroken bs
run_of [] some all = absurd (omega arith)
run_of (b ∷ []) some all = (solid_head b [] all).0
run_of (b ∷ c ∷ bs) some all =
    ((solid_head b (c ∷ bs) all).0, run_of (c ∷ bs) (omega arith) (solid_tail b (c ∷ bs) all))

line_on : (bs run : List ℕ) → IsSolid run → line_behind (bs ++ run) ≡ line_behind bs
line_on bs [] all = ap line_behind (append-nil bs)
line_on bs (b ∷ run) all = ap line_behind (sym (append_assoc bs (b ∷ []) run))
    ∙ line_on (bs ++ b ∷ []) run (solid_tail b run all) ∙ line_behind-byte bs b (solid_head b run all).1

module _ {V S : Type 0} (f : Format V) (W : S → List Piece → Keyword → ℕ → List Token → Type 0) (form : S)
    (line : ℕ) where
  token_on : (held bs run : List ℕ) → IsSolid run → AtToken f W anything form line held bs →
      AtToken f W anything form line (held ++ run) (bs ++ run)
  token_on held bs [] all a = rw (append-nil held, append-nil bs) a
  token_on held bs (b ∷ run) all a =
      let next =
      token_byte f W form line b bs held (solid_head b run all).1 (token_narrow f W (this b) form line bs held a) in
      let rest = token_on (held ++ b ∷ []) (bs ++ b ∷ []) run (solid_tail b run all) next in
      rw (append_assoc held (b ∷ []) run, append_assoc bs (b ∷ []) run) at rest

-- ---- the first token of some bytes, after `s` of them

module _ (bytes : List ℕ) (s : ℕ) (le : s ≤ length bytes) (token : List ℕ)
    (first : IsFirstToken token (take (length bytes - s) (drop s bytes))) (n : ℕ) (is : n ≡ length token) where
  pub token_within : s + n < length bytes
  token_within = omega (arith, is, first.within, le, length-take (length bytes - s) (drop s bytes), length-drop s bytes)

  token_front : token ≡ take n (drop s bytes)
  token_front =
      first.begins ∙ ap (λ l. take (length token) l) (take_rest bytes s) ∙ ap (λ k. take k (drop s bytes)) (sym is)

  pub token_run : IsUnbroken token
  token_run = run_of token (omega (arith, first.some)) first.solid

  pub token_taken : (bs : List ℕ) → ((bs ++ take s bytes) ++ token) ++ get_or bytes (s + n) 0 ∷ []
      ≡ bs ++ take (s + n + 1) bytes
  token_taken bs =
      let whole : (bs ++ take s bytes) ++ token ≡ bs ++ take (s + n) bytes =
      append_assoc bs (take s bytes) token
      ∙ ap (λ l. bs ++ l)
      (ap (λ l. take s bytes ++ l) token_front ∙ sym (take-add s n bytes)) in
      ap (λ l. l ++ get_or bytes (s + n) 0 ∷ []) whole
      ∙ append_assoc bs (take (s + n) bytes) (get_or bytes (s + n) 0 ∷ [])
      ∙ ap (λ l. bs ++ l) (sym (take_more bytes (s + n) 0 token_within))

  pub token_stands : {V S : Type 0} {p : Promise V S} (r : PieceReader S) (bs : List ℕ) → r.place ≡ places.Gap →
      Fed p anything r (bs ++ take s bytes) →
      IsInSection p (this (get_or bytes (s + n) 0)) r token ((bs ++ take s bytes) ++ token)
  token_stands {p = p} r bs gap fed = record {
    line = fed.line ∙ sym (line_on (bs ++ take s bytes) token first.solid);
    at = token_narrow p.format p.wants (this (get_or bytes (s + n) 0)) r.form r.line _ _
        (token_on p.format p.wants r.form r.line [] (bs ++ take s bytes) token first.solid
        (at_place places.Gap gap fed));
  }

pub line_within : (bs bytes : List ℕ) (s : ℕ) → line_behind (bs ++ take s bytes) ≤ length bs + s + 1
line_within bs bytes s =
    omega (arith, line_short (bs ++ take s bytes), length-append bs (take s bytes), length-take s bytes)
