-- Whether an offer is allowed, by the loads of the paths that it cuts.
use Rattle.std.proofs.Common.{◌≡◌, ℕ, Bool, true, false, eqb, List, ◌++◌, reverse, refl, sym, ◌∙◌, ap, arith, subst}
use Rattle.std.proofs.Common.{inl, inr, append_assoc}
use Rattle.tk_distance.specs.Holding.{IsDistinct}
use Rattle.tk_tour.specs.Tour.{IsRotation, SameCycle, next_city}
use Rattle.tk_descent.specs.Machine.{IsOfferOn}
use Rattle.tk_descent.specs.declared.offer.Offer.{Offer}
use Rattle.tk_descent.specs.declared.offer.Offer.TheVariants.{Two, Or}
use Rattle.tk_descent.proofs.MovesOnTours.Length.{Spans-append}
use Rattle.tk_descent.proofs.MovesOnTours.Paths.{Spans}
use Rattle.tk_descent.proofs.MovesOnTours.Steps.{turned as turn_round, rotation-trans, cycle-turn, next_of}
use Rattle.tk_descent.proofs.MovesOnTours.Steps.{length-rotation}
use Rattle.tk_descent.proofs.OfferLists.Made.{not_next, mirrored_move}
use Rattle.tk_descent.proofs.OfferLists.Ways.{rotated, rotated_back}
use Rattle.tk_descent.proofs.MovesOnTours.Views.{Halves, Parts, made_on, path_of}
use Rattle.tk_rings.specs.After.{after}
use Rattle.tk_rings.specs.AfterLaws.{two_is, way_of, forward_of, straight, other, after_is}
use Rattle.tk_rings.specs.Capacities.{demand_in, is_copy, loads_of, way, IsFitting, is_allowed}
use Rattle.tk_rings.specs.Loads.{HasLoads, WasClosed}
use Rattle.tk_rings.specs.Rings.{join, turned, is_closed, fits}
use Rattle.tk_rings.specs.StretchLaws.{flags, view, st-append, st-reverse, fits-cycle}
use Rattle.tk_rings.specs.Walking.{back}
use Rattle.tk_rings.specs.declared.stretch.Stretch.{Stretch}
use Rattle.tk_rings.specs.declared.walk.Walk.{Walk}
use Rattle.tk_rings.proofs.DepotWalks.{loads_back}

-- the two paths that a 2-opt offer cuts, and the ring before and after its move by their loads
pub record TwoPaths (q : ℕ) (demands C : List ℕ) (a b c d : ℕ) (forward : Bool) : Type 0 where
  pub kept : Stretch
  pub reversed : Stretch
  pub has_kept : HasLoads q demands C (record { from = d; to = a; forward = forward }) kept
  pub has_reversed : HasLoads q demands C (record { from = b; to = c; forward = forward }) reversed
  pub before : is_closed q (join q kept reversed) ≡ true
  pub after : is_closed q (join q kept (turned reversed)) ≡ is_allowed q demands C (Two a b c d)

-- the three paths that an Or-offer cuts, with the segment as it is put
pub record ThreePaths (q : ℕ) (demands C : List ℕ) (o : Offer) (segment ahead rest : Walk) : Type 0 where
  pub s : Stretch
  pub a : Stretch
  pub r : Stretch
  pub has_segment : HasLoads q demands C segment s
  pub has_ahead : HasLoads q demands C ahead a
  pub has_rest : HasLoads q demands C rest r
  pub before : WasClosed q s a r
  pub after : is_closed q (join q (join q a s) r) ≡ is_allowed q demands C o

module _ (q : ℕ) (demands : List ℕ) (C : List ℕ) (dis : IsDistinct C) (fit : IsFitting q demands C) where
  abbrev st : List ℕ → Stretch
  st xs = loads_of q demands xs

  -- the ring of two paths
  closed_two : (X Y : List ℕ) → SameCycle C (X ++ Y) → is_closed q (join q (st X) (st Y)) ≡ true
  closed_two X Y same =
      sym (ap (is_closed q) (st-append q (demand_in demands) (is_copy demands) X Y))
      ∙ fits-cycle q (demand_in demands) (is_copy demands) C (X ++ Y) same ∙ fit.1

  -- the routes of a path fit
  pub path_fits : (forward : Bool) (path rest : List ℕ) → IsRotation (way forward C) (path ++ rest) →
      (st path).fits ≡ true
  path_fits forward path rest on =
      (flags q (view q (demand_in demands) (is_copy demands) path) (view q (demand_in demands) (is_copy demands) rest)
      (closed_two path rest (same_way forward on))).0
    where
      same_way : (f : Bool) → IsRotation (way f C) (path ++ rest) → SameCycle C (path ++ rest)
      same_way true r = rotated C (path ++ rest) r
      same_way false r = rotated_back C (path ++ rest) r

  pub two_paths : (a b c d : ℕ) (t : Bool) → IsOfferOn 3 (Two a b c d) C → t ≡ eqb (next_city C a) b →
      TwoPaths q demands C a b c d t
  two_paths a b c d t on test = by_halves (made_on 3 (Two a b c d) C on).1.0
    where
      by_halves : (h : Halves C a b c d) → TwoPaths q demands C a b c d t
      by_halves h =
          let K = h.kept in
          let T = h.turned in
          let rT : IsRotation (way t C) (T ++ K) =
          subst (λ z. IsRotation (way z C) (T ++ K)) (sym test)
          (way_of C (T ++ K) a b dis fit.0 (Spans-append T K b c d a h.is_turned h.is_kept)
          (cycle-turn C K T h.cycle)) in
          record {
            kept = st K;
            reversed = st T;
            has_kept = record {
              path = K;
              rest = T;
              on = rotation-trans (way t C) (T ++ K) (K ++ T) rT (turn_round T K);
              ends = path_of K d a h.is_kept;
              loads = refl;
            };
            has_reversed = record { path = T; rest = K; on = rT; ends = path_of T b c h.is_turned; loads = refl };
            before = closed_two K T h.cycle;
            after = ap (λ z. is_closed q (join q (st K) z))
                (sym (st-reverse q (demand_in demands) (is_copy demands) T))
                ∙ sym (ap (is_closed q) (st-append q (demand_in demands) (is_copy demands) K (reverse T)))
                ∙ sym (ap (λ z. fits q (demand_in demands) (is_copy demands) z) (two_is C dis fit.0 a b c d h));
          }

  module _ (a x e b y w : ℕ) (n : next_city C a ≡ x) where
    -- the rotations that begin with each of the three paths
    module _ (c d : ℕ) (p : Parts 3 C a x e b c d) where
      abbrev S : List ℕ
      S = p.segment

      abbrev A : List ℕ
      A = p.ahead

      abbrev R : List ℕ
      R = p.rest

      whole : IsRotation C ((S ++ A) ++ R)
      whole = forward_of C ((S ++ A) ++ R) a x dis fit.0
          (Spans-append (S ++ A) R x c d a (Spans-append S A x e b c p.is_segment p.is_ahead) p.is_rest) p.cycle n

      at_segment : IsRotation C (S ++ (A ++ R))
      at_segment = subst (λ z. IsRotation C z) (append_assoc S A R) whole

      at_ahead : IsRotation C (A ++ (R ++ S))
      at_ahead = subst (λ z. IsRotation C z) (append_assoc A R S)
          (rotation-trans C (S ++ (A ++ R)) ((A ++ R) ++ S) at_segment (turn_round S (A ++ R)))

      at_rest : IsRotation C (R ++ (S ++ A))
      at_rest = rotation-trans C ((S ++ A) ++ R) (R ++ (S ++ A)) whole (turn_round (S ++ A) R)

      rest_spans : Spans (R ++ (S ++ A)) d c
      rest_spans = Spans-append R (S ++ A) d a x c p.is_rest (Spans-append S A x e b c p.is_segment p.is_ahead)

      comes_next : next_city C c ≡ d
      comes_next = next_of C (R ++ (S ++ A)) d c at_rest rest_spans dis

      comes_not : next_city C d ≡ c → ⊥
      comes_not = not_next C (R ++ (S ++ A)) d c at_rest dis rest_spans
          (omega (arith, fit.0, length-rotation C (R ++ (S ++ A)) at_rest))

      -- the loads of the three paths, before the move and after it, where X is the segment as it is put
      was_closed : is_closed q (join q (join q (st S) (st A)) (st R)) ≡ true
      was_closed =
          ap (λ z. is_closed q (join q z (st R))) (sym (st-append q (demand_in demands) (is_copy demands) S A))
          ∙ closed_two (S ++ A) R (inl whole)

      now_closed : (X : List ℕ) → is_closed q (join q (join q (st A) (st X)) (st R))
          ≡ fits q (demand_in demands) (is_copy demands) (A ++ X ++ R)
      now_closed X =
          ap (λ z. is_closed q (join q z (st R))) (sym (st-append q (demand_in demands) (is_copy demands) A X))
          ∙ ap (is_closed q) (sym (st-append q (demand_in demands) (is_copy demands) (A ++ X) R))

      has_segment : HasLoads q demands C (record { from = x; to = e; forward = true }) (st S)
      has_segment =
          record { path = S; rest = A ++ R; on = at_segment; ends = path_of S x e p.is_segment; loads = refl }

      has_ahead : HasLoads q demands C (record { from = b; to = c; forward = true }) (st A)
      has_ahead = record { path = A; rest = R ++ S; on = at_ahead; ends = path_of A b c p.is_ahead; loads = refl }

      has_rest : HasLoads q demands C (record { from = d; to = a; forward = true }) (st R)
      has_rest = record { path = R; rest = S ++ A; on = at_rest; ends = path_of R d a p.is_rest; loads = refl }

    module _ (on : IsOfferOn 3 (Or a x e b y w) C) where
      pub straight_paths : next_city C y ≡ w →
          ThreePaths q demands C (Or a x e b y w) (record { from = x; to = e; forward = true })
          (record { from = b; to = y; forward = true }) (record { from = w; to = a; forward = true })
      straight_paths f =
          elim ((made_on 3 (Or a x e b y w) C on).1) [
            | inl (p, k) ↦
                record {
                  s = st p.segment;
                  a = st p.ahead;
                  r = st p.rest;
                  has_segment = has_segment y w p;
                  has_ahead = has_ahead y w p;
                  has_rest = has_rest y w p;
                  before = inl (was_closed y w p);
                  after = now_closed y w p p.segment
                      ∙ sym (ap (λ z. fits q (demand_in demands) (is_copy demands) z)
                      (straight C dis fit.0 a x e b y w p));
                }
            | inr (p, k) ↦ absurd (comes_not w y p f)
          ]

      pub turned_paths : (next_city C y ≡ w → ⊥) →
          ThreePaths q demands C (Or a x e b y w) (back (record { from = x; to = e; forward = true }))
          (record { from = b; to = w; forward = true }) (record { from = y; to = a; forward = true })
      turned_paths f =
          elim ((made_on 3 (Or a x e b y w) C on).1) [
            | inl (p, k) ↦ absurd (f (comes_next y w p))
            | inr (p, k) ↦
                record {
                  s = turned (st p.segment);
                  a = st p.ahead;
                  r = st p.rest;
                  has_segment = loads_back q demands C (record { from = x; to = e; forward = true }) (st p.segment)
                      (has_segment w y p) (back (record { from = x; to = e; forward = true })) refl;
                  has_ahead = has_ahead w y p;
                  has_rest = has_rest w y p;
                  before = inr (was_closed w y p);
                  after = ap (λ z. is_closed q (join q (join q (st p.ahead) z) (st p.rest)))
                      (sym (st-reverse q (demand_in demands) (is_copy demands) p.segment))
                      ∙ now_closed w y p (reverse p.segment)
                      ∙ sym (ap (λ z. fits q (demand_in demands) (is_copy demands) z)
                      (other C dis fit.0 a x e b y w p));
                }
          ]

  -- an Or-offer seen from the other end of its segment
  pub mirrored_allowed : (a x e b y w : ℕ) → IsOfferOn 3 (Or a x e b y w) C →
      is_allowed q demands C (Or b e x a w y) ≡ is_allowed q demands C (Or a x e b y w)
  mirrored_allowed a x e b y w (D, made) =
      fits-cycle q (demand_in demands) (is_copy demands) D (after C (Or b e x a w y))
      (after_is C D dis fit.0 (Or b e x a w y) (mirrored_move 3 C D a x e b y w made))
      ∙ sym (fits-cycle q (demand_in demands) (is_copy demands) D (after C (Or a x e b y w))
      (after_is C D dis fit.0 (Or a x e b y w) made))

pub mirrored_on : (C : List ℕ) (a x e b y w : ℕ) → IsOfferOn 3 (Or a x e b y w) C → IsOfferOn 3 (Or b e x a w y) C
mirrored_on C a x e b y w (D, made) = (D, mirrored_move 3 C D a x e b y w made)
