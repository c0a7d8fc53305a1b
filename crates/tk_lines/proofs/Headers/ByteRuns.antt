-- Runs of bytes, and one byte more.
use Rattle.std.proofs.Common.{◌≡◌, ℕ, zero, suc, ◌<◌, ◌≤◌, Bool, true, false, cond, eqb, ◌&&◌, List, [], ◌∷◌, ◌++◌}
use Rattle.std.proofs.Common.{length, take, refl, sym, ap, ◌∙◌, append_assoc, arith}
use Rattle.std.proofs.lemmas.List.{append-nil, length-append}
use Rattle.std.proofs.Math.Seq.{take-nil}
use Rattle.tk_words.proofs.BoolLaws.{and_false}
use Rattle.tk_words.specs.Lex.{is_blank, is_empty, front, behind, after_word, without_colon_before, trim_end}
use Rattle.tk_lines.specs.Reader.ValueScanner.{IsEmpty, Settled}

behind-all_step : (p : ℕ → Bool) (x : ℕ) (xs ys : List ℕ) (t : Bool) →
    (behind p xs ≡ [] → behind p (xs ++ ys) ≡ behind p ys) → cond t (behind p xs) (x ∷ xs) ≡ [] →
    cond t (behind p (xs ++ ys)) (x ∷ (xs ++ ys)) ≡ behind p ys
behind-all_step p x xs ys true ih k = ih k
behind-all_step p x xs ys false ih k = absurd cc

pub behind-all : (p : ℕ → Bool) (xs ys : List ℕ) → behind p xs ≡ [] → behind p (xs ++ ys) ≡ behind p ys
behind-all p [] ys h = refl
behind-all p (x ∷ xs) ys h = behind-all_step p x xs ys (p x) (behind-all p xs ys) h

front-all_step : (p : ℕ → Bool) (x : ℕ) (xs ys : List ℕ) (t : Bool) →
    (behind p xs ≡ [] → front p (xs ++ ys) ≡ xs ++ front p ys) → cond t (behind p xs) (x ∷ xs) ≡ [] →
    cond t (x ∷ front p (xs ++ ys)) [] ≡ x ∷ (xs ++ front p ys)
front-all_step p x xs ys true ih k = ap (λ (zs : List ℕ). x ∷ zs) (ih k)
front-all_step p x xs ys false ih k = absurd cc

pub front-all : (p : ℕ → Bool) (xs ys : List ℕ) → behind p xs ≡ [] → front p (xs ++ ys) ≡ xs ++ front p ys
front-all p [] ys h = refl
front-all p (x ∷ xs) ys h = front-all_step p x xs ys (p x) (front-all p xs ys) h

pub front-whole : (p : ℕ → Bool) (xs : List ℕ) → behind p xs ≡ [] → front p xs ≡ xs
front-whole p xs h = ap (front p) (sym (append-nil xs)) ∙ front-all p xs [] h ∙ append-nil xs

pub front_grows : (p : ℕ → Bool) (xs ys : List ℕ) → behind p xs ≡ [] → length (front p xs) ≤ length (front p (xs ++ ys))
front_grows p xs ys h =
    omega (arith, ap length (front-whole p xs h), ap length (front-all p xs ys h), length-append xs (front p ys))

behind-on_step : (p : ℕ → Bool) (x : ℕ) (xs ys : List ℕ) (t : Bool) →
    ((IsEmpty (behind p xs) → ⊥) → behind p (xs ++ ys) ≡ behind p xs ++ ys) →
    (IsEmpty (cond t (behind p xs) (x ∷ xs)) → ⊥) →
    cond t (behind p (xs ++ ys)) (x ∷ (xs ++ ys)) ≡ cond t (behind p xs) (x ∷ xs) ++ ys
behind-on_step p x xs ys true ih k = ih k
behind-on_step p x xs ys false ih k = refl

pub behind-on : (p : ℕ → Bool) (xs ys : List ℕ) → (IsEmpty (behind p xs) → ⊥) → behind p (xs ++ ys) ≡ behind p xs ++ ys
behind-on p [] ys h = absurd (h tt)
behind-on p (x ∷ xs) ys h = behind-on_step p x xs ys (p x) (behind-on p xs ys) h

front-on_step : (p : ℕ → Bool) (x : ℕ) (xs ys : List ℕ) (t : Bool) →
    ((IsEmpty (behind p xs) → ⊥) → front p (xs ++ ys) ≡ front p xs) → (IsEmpty (cond t (behind p xs) (x ∷ xs)) → ⊥) →
    cond t (x ∷ front p (xs ++ ys)) [] ≡ cond t (x ∷ front p xs) []
front-on_step p x xs ys true ih k = ap (λ (zs : List ℕ). x ∷ zs) (ih k)
front-on_step p x xs ys false ih k = refl

pub front-on : (p : ℕ → Bool) (xs ys : List ℕ) → (IsEmpty (behind p xs) → ⊥) → front p (xs ++ ys) ≡ front p xs
front-on p [] ys h = absurd (h tt)
front-on p (x ∷ xs) ys h = front-on_step p x xs ys (p x) (front-on p xs ys) h

pub trim_end-blank : (xs : List ℕ) (b : ℕ) → is_blank b ≡ true → trim_end (xs ++ b ∷ []) ≡ trim_end xs
trim_end-blank [] b h = rw h refl
trim_end-blank (x ∷ xs) b h = ap (λ (r : List ℕ). cond (is_blank x && is_empty r) [] (x ∷ r)) (trim_end-blank xs b h)

not_empty : (x y : ℕ) (xs ys : List ℕ) → cond (is_blank x && is_empty (xs ++ y ∷ ys)) [] (x ∷ (xs ++ y ∷ ys)) ≡ x
    ∷ (xs ++ y ∷ ys)
not_empty x y [] ys = rw (and_false (is_blank x)) refl
not_empty x y (z ∷ xs) ys = rw (and_false (is_blank x)) refl

pub trim_end-solid : (xs : List ℕ) (b : ℕ) → is_blank b ≡ false → trim_end (xs ++ b ∷ []) ≡ xs ++ b ∷ []
trim_end-solid [] b h = rw h refl
trim_end-solid (x ∷ xs) b h = rw (trim_end-solid xs b h) (not_empty x b xs [])

pub take-room : (k : ℕ) (w : List ℕ) (b : ℕ) → length (take k w) < k → take k (w ++ b ∷ []) ≡ take k w ++ b ∷ []
take-room zero w b h = absurd (omega arith)
take-room (suc k) [] b h = ap (λ (x : List ℕ). b ∷ x) (take-nil k)
take-room (suc k) (x ∷ w) b h = ap (λ (zs : List ℕ). x ∷ zs) (take-room k w b (omega arith))

pub take-full : (k : ℕ) (w ys : List ℕ) → length (take k w) ≡ k → take k (w ++ ys) ≡ take k w
take-full zero w ys h = refl
take-full (suc k) [] ys h = absurd (omega arith)
take-full (suc k) (x ∷ w) ys h = ap (λ (zs : List ℕ). x ∷ zs) (take-full k w ys (omega arith))

-- ---- the colon after a word

pub settled_more : (v x : List ℕ) → Settled v → Settled (v ++ x)
settled_more v x h more = ap after_word (append_assoc v x more) ∙ h (x ++ more)
    ∙ sym (append_assoc (after_word v) x more) ∙ ap (λ (y : List ℕ). y ++ more) (sym (h x))

pub after_colon : (v more : List ℕ) → behind is_blank v ≡ [] → after_word (v ++ 58 ∷ more) ≡ more
after_colon v more h = ap without_colon_before (behind-all is_blank v (58 ∷ more) h)

pub settled_colon : (v : List ℕ) → behind is_blank v ≡ [] → Settled (v ++ 58 ∷ [])
settled_colon v h more = ap after_word (append_assoc v (58 ∷ []) more) ∙ after_colon v more h
    ∙ sym (ap (λ (y : List ℕ). y ++ more) (after_colon v [] h))

pub after_other : (v : List ℕ) (b : ℕ) (more : List ℕ) → behind is_blank v ≡ [] → is_blank b ≡ false →
    eqb b 58 ≡ false → after_word (v ++ b ∷ more) ≡ b ∷ more
after_other v b more h solid other = ap without_colon_before (behind-all is_blank v (b ∷ more) h)
    ∙ rw (solid, other) refl

pub settled_other : (v : List ℕ) (b : ℕ) → behind is_blank v ≡ [] → is_blank b ≡ false → eqb b 58 ≡ false →
    Settled (v ++ b ∷ [])
settled_other v b h solid other more = ap after_word (append_assoc v (b ∷ []) more) ∙ after_other v b more h solid other
    ∙ sym (ap (λ (y : List ℕ). y ++ more) (after_other v b [] h solid other))
