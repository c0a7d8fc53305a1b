-- Bytes that are none of the formats' words.
use Rattle.std.proofs.Common.{◌≡◌, ◌≢◌, ℕ, suc, ◌-◌, ◌<◌, ◌≤◌, Bool, true, false, cond, eqb, leb, ltb, ◌&&◌, List, []}
use Rattle.std.proofs.Common.{◌∷◌, length, get_or, take, Some, None, ℤ, refl, sym, ap, ◌∙◌, arith}
use Rattle.std.specs.Char.{to_ascii_uppercase, is_ascii_digit}
use Rattle.std.specs.List.{find}
use Rattle.std.proofs.lemmas.Bool.{and_parts, cond_both, eqb-true, ne_eqb, le-leb, leb-true, ltb-true, ltb-false}
use Rattle.std.proofs.lemmas.Bool.{lt-leb}
use Rattle.tk_words.specs.declared.keyword.Keyword.{Keyword}
use Rattle.tk_words.specs.declared.keyword.Keyword.TheVariants as words
use Rattle.tk_words.specs.Lex.{is_letter, natural, integer}
use Rattle.tk_words.specs.Words.{all_keywords, spells, begins_word, keyword_of, word}
use Rattle.tk_words.proofs.BoolLaws.{and_false, or_true}
use Rattle.tk_words.proofs.Spelling.{differ_in_length}
use Rattle.tk_words.specs.Entry.{without_colon}

-- a word begins with a letter and has at most 20 bytes
in_form : (keyword : Keyword) → (begins_word (word keyword) && leb (length (word keyword)) 20) ≡ true
in_form words.Name = refl
in_form _ = refl

none_found : (test : Keyword → Bool) (ks : List Keyword) → ((k : Keyword) → test k ≡ false) → find test ks ≡ None
none_found test [] h = refl
none_found test (k ∷ ks) h = rw (h k) (none_found test ks h)

-- no word is spelled where no text of that form is
keyword_of-none : (bs : List ℕ) →
    ((text : List ℕ) → (begins_word text && leb (length text) 20) ≡ true → spells bs text ≡ false) →
    keyword_of bs ≡ None
unfolding keyword_of
keyword_of-none bs h =
    none_found (λ keyword. spells bs (word keyword)) all_keywords (λ keyword. h (word keyword) (in_form keyword))

letter_low : (b : ℕ) → 97 ≤ b → b ≤ 122 → is_letter b ≡ true
letter_low b l h = let p : leb 97 b ≡ true = le-leb _ _ l in let q : leb b 122 ≡ true = le-leb _ _ h in
    rw (p, q) (or_true (leb 65 b && leb b 90))

upper_other : (b c : ℕ) → is_letter b ≡ false → is_letter c ≡ true → eqb (to_ascii_uppercase b) c ≡ false
upper_other b c h k = by_test (ltb b 97) refl (ltb b 123) refl
  where
    same : eqb b c ≡ false
    same = ne_eqb b c (λ e. let m = sym h ∙ ap is_letter e ∙ k in absurd (let n = m in cc))

    by_test : (low : Bool) → ltb b 97 ≡ low → (high : Bool) → ltb b 123 ≡ high →
        eqb (cond low b (cond high (b - 32) b)) c ≡ false
    by_test true p high q = same
    by_test false p true q = let m = sym h ∙ letter_low b (ltb-false _ _ p) (omega (arith, ltb-true _ _ q)) in
        absurd (let n = m in cc)
    by_test false p false q = same

pub keyword_of-other : (b : ℕ) (bs : List ℕ) → is_letter b ≡ false → keyword_of (b ∷ bs) ≡ None
keyword_of-other b bs h = keyword_of-none (b ∷ bs) by_text
  where
    by_text : (text : List ℕ) → (begins_word text && leb (length text) 20) ≡ true → spells (b ∷ bs) text ≡ false
    by_text [] is = absurd cc
    by_text (c ∷ cs) is = rw (upper_other b c h (and_parts (is_letter c) _ is).0) refl

pub keyword_of-long : (bs : List ℕ) → 20 < length bs → keyword_of bs ≡ None
keyword_of-long bs h = keyword_of-none bs (λ text is. differ_in_length bs text
    (λ e. let short = leb-true _ _ (and_parts (begins_word text) _ is).1 in omega (arith, h, e, short)))

-- ---- a colon at the end

pub without_colon-last : (bs : List ℕ) → get_or bs (length bs - 1) 0 ≡ 58 → without_colon bs ≡ take (length bs - 1) bs
without_colon-last [] e = absurd (omega (arith, e))
without_colon-last (b ∷ []) e = let is : b ≡ 58 = e in rw is refl
without_colon-last (b ∷ c ∷ bs) e =
    let n : suc (suc (length bs)) - 1 ≡ suc (length bs) = omega arith in
    let m : suc (length bs) - 1 ≡ length bs = omega arith in
    let last : get_or (c ∷ bs) (length (c ∷ bs) - 1) 0 ≡ 58 = rw m (rw n at e) in
    rw n (ap (λ (xs : List ℕ). b ∷ xs) (without_colon-last (c ∷ bs) last ∙ rw m refl))

pub without_colon-other : (bs : List ℕ) → get_or bs (length bs - 1) 0 ≢ 58 → without_colon bs ≡ bs
without_colon-other [] h = refl
without_colon-other (b ∷ []) h = let ne : eqb b 58 ≡ false = ne_eqb b 58 h in rw ne refl
without_colon-other (b ∷ c ∷ bs) h =
    let n : suc (suc (length bs)) - 1 ≡ suc (length bs) = omega arith in
    let m : suc (length bs) - 1 ≡ length bs = omega arith in
    ap (λ (xs : List ℕ). b ∷ xs) (without_colon-other (c ∷ bs) (λ e. h (rw n (rw m at e))))

pub without_colon-empty : (bs : List ℕ) → eqb (length bs) 0 ≡ true → without_colon bs ≡ bs
without_colon-empty [] h = refl
without_colon-empty (b ∷ bs) h = absurd (omega (arith, eqb-true _ _ h))

-- ---- an integer is no word

headed : (b : ℕ) (bs : List ℕ) → is_letter b ≡ false → keyword_of (without_colon (b ∷ bs)) ≡ None
unfolding keyword_of
headed b [] h =
    cond_both (eqb b 58) [] (b ∷ []) (λ l. keyword_of l ≡ None) (λ t. refl) (λ t. keyword_of-other b [] h)
headed b (c ∷ bs) h = keyword_of-other b (without_colon (c ∷ bs)) h

letter_digit : (b : ℕ) → is_letter b ≡ true → is_ascii_digit b ≡ false
letter_digit b h = by_test (leb b 57) refl
  where
    by_test : (t : Bool) → leb b 57 ≡ t → (leb 48 b && t) ≡ false
    by_test false p = and_false (leb 48 b)
    by_test true p =
        let a : leb 65 b ≡ false = lt-leb 65 b (omega (arith, leb-true _ _ p)) in
        let c : leb 97 b ≡ false = lt-leb 97 b (omega (arith, leb-true _ _ p)) in
        absurd (let k = rw (a, c) at h in cc)

no_natural : (b : ℕ) (bs : List ℕ) → is_letter b ≡ true → natural (b ∷ bs) ≡ None
no_natural b bs h =
    rw (letter_digit b h) (cond_both (ltb 18 (length (b ∷ bs))) None None (λ o. o ≡ None) (λ t. refl) (λ t. refl))

no_integer : (b : ℕ) (bs : List ℕ) → is_letter b ≡ true → integer (b ∷ bs) ≡ None
no_integer b bs h = by_sign (eqb b 45) refl (eqb b 43) refl
  where
    by_sign : (s : Bool) → eqb b 45 ≡ s → (t : Bool) → eqb b 43 ≡ t → integer (b ∷ bs) ≡ None
    by_sign true p t q = let is = eqb-true b 45 p in absurd (let k = rw is at h in cc)
    by_sign false p true q = let is = eqb-true b 43 q in absurd (let k = rw is at h in cc)
    by_sign false p false q = rw (p, q, no_natural b bs h) refl

-- a word begins with a letter
pub other-no_word : (bs : List ℕ) → begins_word bs ≡ false → keyword_of (without_colon bs) ≡ None
unfolding keyword_of
other-no_word [] h = refl
other-no_word (b ∷ bs) h = headed b bs h

-- and no integer does
pub integer-no_word : (bs : List ℕ) (z : ℤ) → integer bs ≡ Some z → keyword_of (without_colon bs) ≡ None
unfolding keyword_of
integer-no_word [] z h = refl
integer-no_word (b ∷ bs) z h = by_letter (is_letter b) refl
  where
    by_letter : (t : Bool) → is_letter b ≡ t → keyword_of (without_colon (b ∷ bs)) ≡ None
    by_letter false l = headed b bs l
    by_letter true l = absurd (let m = sym h ∙ no_integer b bs l in let n = m in cc)
