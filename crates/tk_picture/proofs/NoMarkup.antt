-- No byte of a name that is shown is one of markup.
use Rattle.std.proofs.Common.{◌≡◌, ◌≢◌, ℕ, ◌<◌, Bool, true, false, List, [], ◌∷◌, length, get_or, refl, sym, ◌∙◌, arith}
use Rattle.std.proofs.Common.{append-nil}
use Rattle.std.specs.Prelude.{All, codes, flat_map, ◌==◌, if◌then◌else◌}
use Rattle.std.specs.Char.{encode_utf8}
use Rattle.std.specs.Str.{chars}
use Rattle.std.specs.Str.Lossy.{utf8_lossy}
use Rattle.std.proofs.lemmas.Bool.{eqb-false}
use Rattle.std.proofs.lemmas.List.{get_or_default}
use Rattle.std.proofs.lemmas.List.Elements.{All-append, All-cons, All-nil}
use Rattle.std.proofs.lemmas.Str.{inside_one}
use Rattle.tk_picture.specs.Names.{IsNoMarkup, is_plain, shown_byte, shown_name}

-- a byte of a character is below 128 only if it is the character
byte_of : (c b k d : ℕ) → b < 128 → k < length (encode_utf8 c) → get_or (encode_utf8 c) k d ≡ b → c ≡ b
byte_of c b k d low within is =
    let at : get_or (encode_utf8 c) k 0 ≡ b = get_or_default (encode_utf8 c) k 0 d within ∙ is in
    inside_one c [] (encode_utf8 c) k (sym (append-nil (encode_utf8 c))) within (omega (arith, at, low)) ∙ at

no_markup_char : (c : ℕ) → c ≢ 60 → c ≢ 62 → c ≢ 34 → All IsNoMarkup (encode_utf8 c)
no_markup_char c less greater quote k d within = (
  λ is. less (byte_of c 60 k d (omega arith) within is),
  λ is. greater (byte_of c 62 k d (omega arith) within is),
  λ is. quote (byte_of c 34 k d (omega arith) within is),
)

abbrev no_markup_test : List ℕ → Bool
no_markup_test [] = true
no_markup_test (b ∷ bs) = if b == 60 then false
    else (if b == 62 then false else (if b == 34 then false else no_markup_test bs))

either_of : (b : Bool) (s t : List ℕ) → (b ≡ true → All IsNoMarkup s) → (b ≡ false → All IsNoMarkup t) →
    All IsNoMarkup (if b then s else t)
either_of true s t first second = first refl
either_of false s t first second = second refl

no_markup_step : (b : ℕ) (bs : List ℕ) (x y z : Bool) → (b == 60) ≡ x → (b == 62) ≡ y → (b == 34) ≡ z
    → (if x then false else (if y then false else (if z then false else no_markup_test bs))) ≡ true
    → (no_markup_test bs ≡ true → All IsNoMarkup bs) → All IsNoMarkup (b ∷ bs)
no_markup_step b bs false false false e f g p rest =
    All-cons IsNoMarkup b bs (eqb-false b 60 e, eqb-false b 62 f, eqb-false b 34 g) (rest p)
no_markup_step b bs _ _ _ e f g p rest = absurd cc

no_markup_text : (bs : List ℕ) → no_markup_test bs ≡ true → All IsNoMarkup bs
no_markup_text [] passes = All-nil IsNoMarkup
no_markup_text (b ∷ bs) passes =
    no_markup_step b bs (b == 60) (b == 62) (b == 34) refl refl refl passes (no_markup_text bs)

no_markup_shown : (c : ℕ) → All IsNoMarkup (shown_byte c)
no_markup_shown c =
    either_of (c == 38) (codes "&amp;") _ (λ _. no_markup_text (codes "&amp;") refl) (λ _.
    either_of (c == 60) (codes "&lt;") _ (λ _. no_markup_text (codes "&lt;") refl) (λ less.
    either_of (c == 62) (codes "&gt;") _ (λ _. no_markup_text (codes "&gt;") refl) (λ greater.
    either_of (c == 34) (codes "&quot;") _ (λ _. no_markup_text (codes "&quot;") refl) (λ quote.
    either_of (is_plain c) (encode_utf8 c) (codes "?")
    (λ _. no_markup_char c (eqb-false c 60 less) (eqb-false c 62 greater) (eqb-false c 34 quote))
    (λ _. no_markup_text (codes "?") refl)))))

no_markup_all : (cs : List ℕ) → All IsNoMarkup (flat_map shown_byte cs)
no_markup_all [] = All-nil IsNoMarkup
no_markup_all (c ∷ cs) = All-append IsNoMarkup (shown_byte c) (flat_map shown_byte cs) (no_markup_shown c)
    (no_markup_all cs)

pub no_markup_name : (name : List ℕ) → All IsNoMarkup (shown_name name)
no_markup_name name = no_markup_all (chars (utf8_lossy name))
