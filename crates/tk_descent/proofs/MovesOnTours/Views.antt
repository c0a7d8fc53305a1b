-- Moves by paths whose ends compute.
use Rattle.std.proofs.Common.{◌≡◌, ℕ, ◌≤◌, ◌⊎◌, List, [], ◌∷◌, ◌++◌, length, reverse, refl, ap, inl, inr, subst, sym}
use Rattle.tk_tour.specs.Moves.{OrMove}
use Rattle.tk_tour.specs.Tour.{SameCycle, IsPath}
use Rattle.tk_descent.specs.Offers.{Makes}
use Rattle.tk_descent.specs.Machine.{IsOfferOn}
use Rattle.tk_descent.specs.declared.offer.Offer.{Offer}
use Rattle.tk_descent.specs.declared.offer.Offer.TheVariants.{Two, Or}
use Rattle.tk_descent.proofs.MovesOnTours.Paths.{Spans, last_from}
use Rattle.tk_descent.proofs.MovesOnTours.Steps.{split_last}

first_of : (X : List ℕ) (b a : ℕ) → Spans X b a → (rest : List ℕ) × (X ≡ b ∷ rest)
first_of [] b a h = absurd h
first_of (c ∷ X) b a h = (X, ap (λ z. z ∷ X) h.0)

pub path_of : (X : List ℕ) (b a : ℕ) → Spans X b a → IsPath b X a
path_of X b a h = (first_of X b a h, split_last X b a h)

last_push : (u : ℕ) (us : List ℕ) (a : ℕ) → last_from u (us ++ a ∷ []) ≡ a
last_push u [] a = refl
last_push u (v ∷ us) a = last_push v us a

pub spans_of : (X : List ℕ) (b a : ℕ) → IsPath b X a → Spans X b a
spans_of X b a h = spans_cut X b a h.0.0 h.0.1 h.1.0 h.1.1
  where
    spans_cut : (X : List ℕ) (b a : ℕ) (us : List ℕ) → X ≡ b ∷ us → (vs : List ℕ) → X ≡ vs ++ a ∷ [] → Spans X b a
    spans_cut X b a us h [] k = subst (λ z. Spans z b a) (sym k) (let e : a ≡ b = cc in (e, refl))
    spans_cut X b a us h (v ∷ vs) k = subst (λ z. Spans z b a) (sym k) (let e : v ≡ b = cc in (e, last_push v vs a))

-- the cycle is a path from d to a and one from b to c
pub record Halves (C : List ℕ) (a b c d : ℕ) : Type 0 where
  pub kept : List ℕ
  pub turned : List ℕ
  pub cycle : SameCycle C (kept ++ turned)
  pub is_kept : Spans kept d a
  pub is_turned : Spans turned b c

-- the cycle is a segment of at most m cities from x to e, a path from b to c and one from d to a
pub record Parts (m : ℕ) (C : List ℕ) (a x e b c d : ℕ) : Type 0 where
  pub segment : List ℕ
  pub ahead : List ℕ
  pub rest : List ℕ
  pub cycle : SameCycle C (segment ++ ahead ++ rest)
  pub short : length segment ≤ m
  pub is_segment : Spans segment x e
  pub is_ahead : Spans ahead b c
  pub is_rest : Spans rest d a

abbrev pub Made : ℕ → Offer → List ℕ → List ℕ → Type 0
Made m (Two a b c d) old new = (h : Halves old a b c d) × SameCycle new (h.kept ++ reverse h.turned)
Made m (Or a x e b y w) old new =
    ((p : Parts m old a x e b y w) × SameCycle new (p.ahead ++ p.segment ++ p.rest))
    ⊎ ((p : Parts m old a x e b w y) × SameCycle new (p.ahead ++ reverse p.segment ++ p.rest))

abbrev pub IsMadeOn : ℕ → Offer → List ℕ → Type 0
IsMadeOn m o C = (D : List ℕ) × Made m o C D

abbrev parts_of : {m : ℕ} {C D : List ℕ} {a x e b y w c d : ℕ} (h : OrMove m C D a x e b y w) → IsPath b h.ahead c →
    IsPath d h.rest a → Parts m C a x e b c d
parts_of {a = a} {x = x} {e = e} {b = b} {c = c} {d = d} h ahead rest = record {
  segment = h.segment;
  ahead = h.ahead;
  rest = h.rest;
  cycle = h.before;
  short = h.short;
  is_segment = spans_of h.segment x e h.is_segment;
  is_ahead = spans_of h.ahead b c ahead;
  is_rest = spans_of h.rest d a rest;
}

pub made_of : (m : ℕ) (o : Offer) (C D : List ℕ) → Makes m o C D → Made m o C D
made_of m (Two a b c d) C D h = (
  record {
    kept = h.kept;
    turned = h.turned;
    cycle = h.before;
    is_kept = spans_of h.kept d a h.is_kept;
    is_turned = spans_of h.turned b c h.is_turned;
  },
  h.after,
)
made_of m (Or a x e b y w) C D h =
    elim (h.after) [ inl k ↦ inl (parts_of h k.0 k.1, k.2) | inr k ↦ inr (parts_of h k.0 k.1, k.2) ]

put : {m : ℕ} {C D : List ℕ} {a x e b y w c d : ℕ} (p : Parts m C a x e b c d) →
    ((IsPath b p.ahead y × IsPath w p.rest a × SameCycle D (p.ahead ++ p.segment ++ p.rest))
    ⊎ (IsPath b p.ahead w × IsPath y p.rest a × SameCycle D (p.ahead ++ reverse p.segment ++ p.rest))) →
    OrMove m C D a x e b y w
put {x = x} {e = e} p after = record {
  segment = p.segment;
  ahead = p.ahead;
  rest = p.rest;
  short = p.short;
  is_segment = path_of p.segment x e p.is_segment;
  before = p.cycle;
  after = after;
}

pub makes_of : (m : ℕ) (o : Offer) (C D : List ℕ) → Made m o C D → Makes m o C D
makes_of m (Two a b c d) C D (h, k) = record {
  kept = h.kept;
  turned = h.turned;
  is_kept = path_of h.kept d a h.is_kept;
  is_turned = path_of h.turned b c h.is_turned;
  before = h.cycle;
  after = k;
}
makes_of m (Or a x e b y w) C D (inl (p, k)) =
    put p (inl (path_of p.ahead b y p.is_ahead, path_of p.rest w a p.is_rest, k))
makes_of m (Or a x e b y w) C D (inr (p, k)) =
    put p (inr (path_of p.ahead b w p.is_ahead, path_of p.rest y a p.is_rest, k))

pub made_on : (m : ℕ) (o : Offer) (C : List ℕ) → IsOfferOn m o C → IsMadeOn m o C
made_on m o C (D, h) = (D, made_of m o C D h)

pub offer_on : (m : ℕ) (o : Offer) (C : List ℕ) → IsMadeOn m o C → IsOfferOn m o C
offer_on m o C (D, h) = (D, makes_of m o C D h)
