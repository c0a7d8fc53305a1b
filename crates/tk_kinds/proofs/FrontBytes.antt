-- The front of bytes, by the bytes after it.
use Rattle.std.proofs.Common.{◌≡◌, ◌∙◌, ◌++◌, ℕ, Bool, true, false, List, [], ◌∷◌, take, drop, cond, refl, ap, sym}
use Rattle.std.proofs.lemmas.List.{append_cancel_right, take-append-drop}
use Rattle.tk_words.specs.Lex.{front, behind}

joined : (t : Bool) (b : ℕ) (bs before after : List ℕ) → before ++ after ≡ bs →
    cond t (b ∷ before) [] ++ cond t after (b ∷ bs) ≡ b ∷ bs
joined true b bs before after e = ap (λ l. b ∷ l) e
joined false b bs before after e = refl

front-behind : (p : ℕ → Bool) (bs : List ℕ) → front p bs ++ behind p bs ≡ bs
front-behind p [] = refl
front-behind p (b ∷ bs) = joined (p b) b bs (front p bs) (behind p bs) (front-behind p bs)

-- as many bytes as come before those behind the front are the front
pub take_front : (p : ℕ → Bool) (bs : List ℕ) (k : ℕ) → drop k bs ≡ behind p bs → take k bs ≡ front p bs
take_front p bs k e =
    append_cancel_right (take k bs) (front p bs) (drop k bs)
    (take-append-drop k bs ∙ sym (ap (λ l. front p bs ++ l) e ∙ front-behind p bs))
