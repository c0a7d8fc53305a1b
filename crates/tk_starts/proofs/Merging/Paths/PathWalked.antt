-- The walk along a path.
use Rattle.std.proofs.Common.{◌≡◌, ◌≢◌, ℕ, ◌+◌, ◌≤◌, ◌<◌, true, cond, eqb, List, [], ◌∷◌, ◌++◌, length, refl, sym, ap}
use Rattle.std.proofs.Common.{◌∙◌, arith, ⊎_elim, subst}
use Rattle.std.proofs.lemmas.Bool.{eq-eqb, ne_eqb, cond-true, cond-false, cases_eq}
use Rattle.std.proofs.lemmas.List.{append_assoc, append-nil, length-append}
use Rattle.tk_distance.specs.Holding.{holds}
use Rattle.tk_distance.specs.Cities.{IsCity}
use Rattle.tk_starts.specs.PathEnds.{AreBoth, Follows, IsWay}
use Rattle.tk_starts.proofs.Merging.Paths.PathLists.{holds-here, holds-later, Follows-one}

-- c, reached from `before`, is the first of the list, or 0 where the list is empty
abbrev pub Ahead : (ℕ → ℕ) → (ℕ → ℕ) → ℕ → ℕ → List ℕ → Type 0
Ahead one two before c [] = c ≡ 0
Ahead one two before c (d ∷ rest) = (d ≡ c) × (0 < c) × Follows one two before c rest

-- the cities walked so far, and the rest of the path
pub record OnWay (n : ℕ) (one two : ℕ → ℕ) (a : ℕ) (cities : List ℕ) (before c : ℕ) : Type 0 where
  pub xs : List ℕ
  pub rest : List ℕ
  pub way : IsWay n one two a xs
  pub whole : cities ++ rest ≡ a ∷ xs
  pub ahead : Ahead one two before c rest
  pub inside : (b : ℕ) → holds rest b ≡ true → IsCity n b

pub OnWay-init : (n : ℕ) (one two : ℕ → ℕ) (a : ℕ) (xs : List ℕ) → IsWay n one two a xs → OnWay n one two a [] 0 a
OnWay-init n one two a xs w =
    record {
      xs = xs;
      rest = a ∷ xs;
      way = w;
      whole = refl;
      ahead = (refl, (w.inside a (holds-here a xs)).0, w.follows);
      inside = w.inside;
    }

pub ahead_city : (n : ℕ) (one two : ℕ → ℕ) (before c : ℕ) (rest : List ℕ) → c ≢ 0 → Ahead one two before c rest →
    ((b : ℕ) → holds rest b ≡ true → IsCity n b) → IsCity n c × (1 ≤ length rest)
ahead_city n one two before c [] ne h i = absurd (ne h)
ahead_city n one two before c (d ∷ rest) ne h i =
    (subst (λ (x : ℕ). IsCity n x) h.0 (i d (holds-here d rest)), omega arith)

next_city : (p q before y : ℕ) → AreBoth p q before y → cond (eqb p before) q p ≡ y
next_city p q before y h =
    ⊎_elim
    (λ (k : p ≡ before). cond-true _ q p (eq-eqb p before k) ∙ ⊎_elim (λ w. w.1) (λ w. w.1 ∙ (sym k ∙ w.0)) h)
    (λ (k : p ≢ before). cond-false _ q p (ne_eqb p before k) ∙ ⊎_elim (λ w. absurd (k w.0)) (λ w. w.0) h)
    (cases_eq p before)

next_ahead : (one two : ℕ → ℕ) (before c next : ℕ) (rest : List ℕ) → next ≡ cond (eqb (one c) before) (two c) (one c) →
    Follows one two before c rest → Ahead one two c next rest
unfolding Follows
next_ahead one two before c next [] e f = e ∙ next_city _ _ before 0 f
next_ahead one two before c next (d ∷ rest) e f =
    let t : d ≡ next = sym (e ∙ next_city _ _ before d f.0) in
    (t, subst (λ (x : ℕ). 0 < x) t f.1, subst (λ (x : ℕ). Follows one two c x rest) t f.2)

more : (n : ℕ) (one two : ℕ → ℕ) (a : ℕ) (cities : List ℕ) (before c next : ℕ) (xs rest : List ℕ) →
    IsWay n one two a xs → cities ++ rest ≡ a ∷ xs → Ahead one two before c rest →
    ((b : ℕ) → holds rest b ≡ true → IsCity n b) →
    c ≢ 0 → next ≡ cond (eqb (one c) before) (two c) (one c) → OnWay n one two a (cities ++ c ∷ []) c next
more n one two a cities before c next xs [] w e h i ne k = absurd (ne h)
more n one two a cities before c next xs (d ∷ rest) w e h i ne k =
    record {
      xs = xs;
      rest = rest;
      way = w;
      whole = append_assoc cities (c ∷ []) rest ∙ (ap (λ (x : ℕ). cities ++ x ∷ rest) (sym h.0) ∙ e);
      ahead = next_ahead one two before c next rest k h.2;
      inside = λ b m. i b (holds-later d b rest m);
    }

ended : (one two : ℕ → ℕ) (before c : ℕ) (rest : List ℕ) → c ≡ 0 → Ahead one two before c rest → rest ≡ []
ended one two before c [] e h = refl
ended one two before c (d ∷ rest) e h = absurd (omega (arith, e, h.1))

module _ {n : ℕ} {one two : ℕ → ℕ} {a : ℕ} {cities : List ℕ} {before c : ℕ}
    (o : OnWay n one two a cities before c) where
  pub OnWay-more : (next : ℕ) → c ≢ 0 → next ≡ cond (eqb (one c) before) (two c) (one c) →
      OnWay n one two a (cities ++ c ∷ []) c next
  OnWay-more next ne k = more n one two a cities before c next o.xs o.rest o.way o.whole o.ahead o.inside ne k

  -- a city is still to come
  pub OnWay-city : c ≢ 0 → IsCity n c × (length cities < n + 1)
  OnWay-city ne =
      let h = ahead_city n one two before c o.rest ne o.ahead o.inside in
      (h.0, omega (arith, h.1, o.way.short, length-append cities o.rest, ap length o.whole))

  pub OnWay-end : c ≡ 0 → (ys : List ℕ) → Follows one two 0 a ys → cities ≡ a ∷ ys
  OnWay-end e ys f =
      sym (append-nil cities)
      ∙ (ap (λ (x : List ℕ). cities ++ x) (sym (ended one two before c o.rest e o.ahead))
      ∙ (o.whole ∙ ap (λ (x : List ℕ). a ∷ x) (Follows-one one two 0 a o.xs ys o.way.follows f)))
