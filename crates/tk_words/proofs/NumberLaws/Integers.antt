-- What a sign and digits spell.
use Rattle.std.proofs.Common.{◌≡◌, ℕ, suc, ◌-◌, ◌<◌, List, [], ◌∷◌, length, get_or, take, drop}
use Rattle.std.proofs.Common.{Option, None, Some, option_map, ℤ, pos, neg_ℤ, refl, sym, ap, ◌∙◌, arith}
use Rattle.std.proofs.lemmas.List.{take_all}
use Rattle.tk_words.specs.Lex.{integer, natural, signed}

signed_minus : (o : Option ℕ) → signed (λ n. neg_ℤ (pos n)) o ≡ option_map neg_ℤ (signed pos o)
signed_minus None = refl
signed_minus (Some n) = refl

pub integer-minus : (bs : List ℕ) (r : Option ℤ) → 0 < length bs → get_or bs 0 0 ≡ 45 →
    r ≡ signed pos (natural (take (length bs - 1) (drop 1 bs))) → integer bs ≡ option_map neg_ℤ r
integer-minus [] r some minus e = absurd (omega arith)
integer-minus (b ∷ bs) r some minus e =
    let is : b ≡ 45 = minus in
    let all : take (suc (length bs) - 1) bs ≡ bs = take_all (suc (length bs) - 1) bs (omega arith) in
    rw is (signed_minus (natural bs) ∙ ap (option_map neg_ℤ) (sym (rw all at e)))

pub integer-plus : (bs : List ℕ) → 0 < length bs → get_or bs 0 0 ≡ 43 →
    integer bs ≡ signed pos (natural (take (length bs - 1) (drop 1 bs)))
integer-plus [] some plus = absurd (omega arith)
integer-plus (b ∷ bs) some plus =
    let is : b ≡ 43 = plus in
    let all : take (suc (length bs) - 1) bs ≡ bs = take_all (suc (length bs) - 1) bs (omega arith) in
    rw (is, all) refl
