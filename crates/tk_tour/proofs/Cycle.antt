-- Laws of rotations and cycles.
use Rattle.std.proofs.Common.{◌≡◌, ℕ, ◌⊎◌, ⊎_elim, inl, inr, List, [], ◌∷◌, ◌++◌, refl, sym, ap, ◌∙◌, subst}
use Rattle.std.specs.Prelude.{reverse}
use Rattle.std.proofs.lemmas.List.{append-nil, append_assoc, reverse-append, reverse-reverse}
use Rattle.tk_tour.specs.Tour.{IsRotation, SameCycle, IsPath}

-- of two cuts of a list, one or the other comes first
abbrev pub CutsMeet : List ℕ → List ℕ → List ℕ → List ℕ → Type 0
CutsMeet q p r s = ((t : List ℕ) × (q ≡ r ++ t) × (s ≡ t ++ p)) ⊎ ((t : List ℕ) × (r ≡ q ++ t) × (p ≡ t ++ s))

pub cuts_meet : (q p r s : List ℕ) → q ++ p ≡ r ++ s → CutsMeet q p r s
cuts_meet [] p r s e = inr (r, refl, e)
cuts_meet (x ∷ q) p [] s e = inl (x ∷ q, refl, sym e)
cuts_meet (x ∷ q) p (y ∷ r) s e =
    let e' : q ++ p ≡ r ++ s = cc in
    let same : x ≡ y = cc in
    ⊎_elim (λ h. inl (h.0, cc, h.2)) (λ h. inr (h.0, cc, h.2)) (cuts_meet q p r s e')

pub IsRotation-refl : (xs : List ℕ) → IsRotation xs xs
IsRotation-refl xs = record { front = xs; back = []; before = sym (append-nil xs); after = refl }

pub IsRotation-append : (xs ys : List ℕ) → IsRotation (xs ++ ys) (ys ++ xs)
IsRotation-append xs ys = record { front = xs; back = ys; before = refl; after = refl }

pub IsRotation-sym : {xs ys : List ℕ} → IsRotation xs ys → IsRotation ys xs
IsRotation-sym f = record { front = f.back; back = f.front; before = f.after; after = f.before }

pub IsRotation-trans : {xs ys zs : List ℕ} → IsRotation xs ys → IsRotation ys zs → IsRotation xs zs
IsRotation-trans {xs} {ys} {zs} f g =
    let C : Type 0 = IsRotation xs zs in
    let one : (t : List ℕ) × (f.back ≡ g.front ++ t) × (g.back ≡ t ++ f.front) → C = λ h. record {
      front = f.front ++ g.front;
      back = h.0;
      before = f.before ∙ ap (λ v. f.front ++ v) h.1 ∙ sym (append_assoc f.front g.front h.0);
      after = g.after ∙ ap (λ v. v ++ g.front) h.2 ∙ append_assoc h.0 f.front g.front;
    } in
    let two : (t : List ℕ) × (g.front ≡ f.back ++ t) × (f.front ≡ t ++ g.back) → C = λ h. record {
      front = h.0;
      back = g.back ++ f.back;
      before = f.before ∙ ap (λ v. v ++ f.back) h.2 ∙ append_assoc h.0 g.back f.back;
      after = g.after ∙ ap (λ v. g.back ++ v) h.1 ∙ sym (append_assoc g.back f.back h.0);
    } in
    ⊎_elim one two (cuts_meet f.back f.front g.front g.back (sym f.after ∙ g.before))

pub IsRotation-reverse : {xs ys : List ℕ} → IsRotation xs ys → IsRotation (reverse xs) (reverse ys)
IsRotation-reverse f = record {
  front = reverse f.back;
  back = reverse f.front;
  before = ap reverse f.before ∙ reverse-append f.front f.back;
  after = ap reverse f.after ∙ reverse-append f.back f.front;
}

pub SameCycle-sym : {xs ys : List ℕ} → SameCycle xs ys → SameCycle ys xs
SameCycle-sym {xs} {ys} h =
    let back : IsRotation xs (reverse ys) → IsRotation ys (reverse xs) = λ f.
    IsRotation-sym (rw (reverse-reverse ys) at (IsRotation-reverse {xs = xs} {ys = reverse ys} f)) in
    ⊎_elim (λ f. inl (IsRotation-sym f)) (λ f. inr (back f)) h

pub SameCycle-trans : {xs ys zs : List ℕ} → SameCycle xs ys → SameCycle ys zs → SameCycle xs zs
SameCycle-trans {xs} {ys} {zs} h k =
    ⊎_elim
    (λ f. ⊎_elim (λ g. inl (IsRotation-trans f g)) (λ g. inr (IsRotation-trans f g)) k)
    (λ f. ⊎_elim
    (λ g. inr (IsRotation-trans f (IsRotation-reverse g)))
    (λ g. inl (IsRotation-trans f (rw (reverse-reverse zs) at (IsRotation-reverse {xs = ys} {ys = reverse zs} g))))
    k)
    h

-- xs ++ reverse ys and reverse xs ++ ys are the same cycle
pub SameCycle-either_side : (xs ys : List ℕ) → SameCycle (xs ++ reverse ys) (reverse xs ++ ys)
SameCycle-either_side xs ys =
    inr (record {
      front = xs;
      back = reverse ys;
      before = refl;
      after = reverse-append (reverse xs) ys ∙ ap (λ v. reverse ys ++ v) (reverse-reverse xs);
    })

pub SameCycle-append : (xs ys : List ℕ) → SameCycle (xs ++ ys) (ys ++ xs)
SameCycle-append xs ys = inl (IsRotation-append xs ys)

-- the same cycle, beginning with its second part, or given by an equal list
pub turn : (t xs ys : List ℕ) → SameCycle t (xs ++ ys) → SameCycle t (ys ++ xs)
turn t xs ys h = SameCycle-trans h (SameCycle-append xs ys)

pub same : (t xs ys : List ℕ) → xs ≡ ys → SameCycle t xs → SameCycle t ys
same t xs ys e h = let P : List ℕ → Type 0 = λ v. SameCycle t v in subst P e h

-- two paths one after another, and a reversed path
pub IsPath-append : {d x y a : ℕ} {front back : List ℕ} → IsPath d front x → IsPath y back a →
    IsPath d (front ++ back) a
IsPath-append {d} {x} {y} {a} {front} {back} f g = (
  (f.0.0 ++ back, ap (λ v. v ++ back) f.0.1),
  (front ++ g.1.0, ap (λ v. front ++ v) g.1.1 ∙ sym (append_assoc front g.1.0 (a ∷ []))),
)

pub IsPath-reverse : {b c : ℕ} {path : List ℕ} → IsPath b path c → IsPath c (reverse path) b
IsPath-reverse {b} {c} {path} h = (
  (reverse h.1.0, ap reverse h.1.1 ∙ reverse-append h.1.0 (c ∷ [])),
  (reverse h.0.0, ap reverse h.0.1 ∙ reverse-append (b ∷ []) h.0.0),
)
