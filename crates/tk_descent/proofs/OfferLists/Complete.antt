-- For each move of a city, the list of the city contains an offer that makes the same cycle.
use Rattle.std.proofs.Common.{◌≡◌, ℕ, zero, suc, ◌+◌, ◌<◌, ◌≤◌, ◌≢◌, ◌⊎◌, Bool, true, false, cond, ◌||◌, ◌&&◌, eqb, leb}
use Rattle.std.proofs.Common.{List, [], ◌∷◌, ◌++◌, length, reverse, refl, sym, ◌∙◌, ap, arith, inl, inr, subst, take}
use Rattle.std.proofs.Common.{flat_map, append_assoc, length-append, get_or}
use Rattle.std.proofs.lemmas.List.{reverse-append, reverse-reverse, length-reverse}
use Rattle.std.proofs.lemmas.Bool.{or_cases, or_from, or_left, or_right, le-leb, and_from, eqb-true, ne_eqb, both_ways}
use Rattle.std.proofs.lemmas.Bool.{cond-true}
use Rattle.tk_tour.specs.Tour.{IsRotation, SameCycle, next_city, prev_city}
use Rattle.tk_descent.proofs.MovesOnTours.Views.{Made, Parts, made_of, makes_of}
use Rattle.tk_descent.proofs.MovesOnTours.Paths.{Spans}
use Rattle.tk_distance.specs.Holding.{IsDistinct, holds}
use Rattle.tk_descent.specs.Offers.{offers_between, covers, segment_of_one, all_segments, segment_count}
use Rattle.tk_descent.specs.Offers.{or_offer, or_offers, offers, removed, added}
use Rattle.tk_descent.specs.WakeMachine.{IsOfferOf}
use Rattle.tk_descent.proofs.OfferLists.Listed.{IsListed, HasSameSteps, IsComplete}
use Rattle.tk_descent.specs.declared.offer.Segment.{Segment}
use Rattle.tk_descent.specs.declared.offer.Offer.{Offer}
use Rattle.tk_descent.specs.declared.offer.Offer.TheVariants.{Two, Or}
use Rattle.tk_descent.proofs.Lists.{holds-append}
use Rattle.tk_descent.proofs.MovesOnTours.Length.{Spans-append, Spans-reverse}
use Rattle.tk_descent.proofs.OfferLists.Made.{mirrored, two_steps}
use Rattle.tk_descent.proofs.OfferLists.Ways.{Ways, ways_on, ways_back, step_in}
use Rattle.tk_descent.proofs.MovesOnTours.Steps.{Apart, turned, rotation-trans, turned_back, distinct-rotation}
use Rattle.tk_descent.proofs.MovesOnTours.Steps.{distinct-parts, apart-ne, holds-first, holds-last, cycle-turn}
use Rattle.tk_descent.proofs.MovesOnTours.Steps.{one_city, distinct-cycle}
use Rattle.tk_descent.proofs.MovesOnTours.Steps.{cycle-same, cycle-reverse, steps_of, Steps, length-rotation}

-- members of a list of offers

listed-left : (xs ys : List Offer) (o : Offer) → IsListed xs o → IsListed (xs ++ ys) o
listed-left [] ys o h = absurd h
listed-left (p ∷ xs) ys o (inl e) = inl e
listed-left (p ∷ xs) ys o (inr h) = inr (listed-left xs ys o h)

listed-right : (xs ys : List Offer) (o : Offer) → IsListed ys o → IsListed (xs ++ ys) o
listed-right [] ys o h = h
listed-right (p ∷ xs) ys o h = inr (listed-right xs ys o h)

listed-near : (f : ℕ → List Offer) (near : List ℕ) (y : ℕ) (o : Offer) → holds near y ≡ true → IsListed (f y) o →
    IsListed (flat_map f near) o
listed-near f [] y o h k = absurd (both_ways false refl h)
listed-near f (z ∷ near) y o h k =
    elim (or_cases (eqb z y) (holds near y) h) [
      | inl e ↦ listed-left (f z) (flat_map f near) o (subst (λ v. IsListed (f v) o) (sym (eqb-true z y e)) k)
      | inr e ↦ listed-right (f z) (flat_map f near) o (listed-near f near y o e k)
    ]

listed_cond : (b : Bool) (o : Offer) → b ≡ false → IsListed (cond b [] (o ∷ [])) o
listed_cond true o h = cc
listed_cond false o h = inl refl

-- the five segments, if the cycle and m are long enough for them

count_of : (a b c : Bool) → c ≡ true → 1 ≤ cond a 5 (cond b 3 (cond c 1 0))
count_of false false false h = cc
count_of _ b c h = omega arith

count_of_two : (a b c : Bool) → b ≡ true → 3 ≤ cond a 5 (cond b 3 (cond c 1 0))
count_of_two false false c h = cc
count_of_two _ b c h = omega arith

count-one : (n m : ℕ) → 3 ≤ n → 1 ≤ segment_count n m
count-one n m h = count_of (leb 5 n && leb 3 m) (leb 4 n && leb 2 m) (leb 3 n) (le-leb 3 n h)

count-two : (n m : ℕ) → 4 ≤ n → 2 ≤ m → 3 ≤ segment_count n m
count-two n m h k =
    count_of_two (leb 5 n && leb 3 m) (leb 4 n && leb 2 m) (leb 3 n)
    (and_from (leb 4 n) (leb 2 m) (le-leb 4 n h) (le-leb 2 m k))

count-three : (n m : ℕ) → 5 ≤ n → 3 ≤ m → segment_count n m ≡ 5
count-three n m h k = cond-true (leb 5 n && leb 3 m) 5 (cond (leb 4 n && leb 2 m) 3 (cond (leb 3 n) 1 0))
    (and_from (leb 5 n) (leb 3 m) (le-leb 5 n h) (le-leb 3 m k))

listed_at : (f : Segment → List Offer) (o : Offer) (k i : ℕ) (ss : List Segment) (s : Segment) → i < k → i < length ss →
    IsListed (f (get_or ss i s)) o → IsListed (flat_map f (take k ss)) o
listed_at f o zero i ss s h l j = absurd (omega arith)
listed_at f o (suc k) i [] s h l j = absurd (omega arith)
listed_at f o (suc k) zero (t ∷ ss) s h l j = listed-left (f t) (flat_map f (take k ss)) o j
listed_at f o (suc k) (suc i) (t ∷ ss) s h l j =
    listed-right (f t) (flat_map f (take k ss)) o (listed_at f o k i ss s (omega arith) (omega arith) j)

-- the 2-opt offers

two_listed : (C near : List ℕ) (m x a b c d : ℕ) → a ≡ x → holds near c ≡ true → Steps C a b c d →
    IsListed (offers C m near x) (Two a b c d)
two_listed C near m x a b c d e h (inl (p, q)) =
    listed-near (offers_between C m x) near c (Two a b c d) h (inl cc)
two_listed C near m x a b c d e h (inr (p, q)) =
    listed-near (offers_between C m x) near c (Two a b c d) h (inr (inl cc))

steps-swap : (C : List ℕ) (a b c d : ℕ) → Steps C a b c d → Steps C c d a b
steps-swap C a b c d (inl (p, q)) = inl (q, p)
steps-swap C a b c d (inr (p, q)) = inr (q, p)

steps_back : (C A B : List ℕ) (a b c d : ℕ) → SameCycle C (A ++ B) → IsDistinct C → Spans A d a → Spans B b c →
    Steps C d c b a
steps_back C A B a b c d h dis hA hB =
    steps_of C (reverse A) (reverse B) d c b a
    (cycle-turn C (reverse B) (reverse A)
    (cycle-same C (reverse (A ++ B)) (reverse B ++ reverse A) (reverse-append A B) (cycle-reverse C (A ++ B) h)))
    dis (Spans-reverse A d a hA) (Spans-reverse B b c hB)

-- a 2-opt move, seen from its other edge, and in the other direction
two_swapped : (m : ℕ) (C D : List ℕ) (a b c d : ℕ) → Made m (Two a b c d) C D → Made m (Two c d a b) C D
two_swapped m C D a b c d (h, k) = (
  record {
    kept = h.turned;
    turned = h.kept;
    cycle = cycle-turn C h.kept h.turned h.cycle;
    is_kept = h.is_turned;
    is_turned = h.is_kept;
  },
  cycle-same D (reverse (h.kept ++ reverse h.turned)) (h.turned ++ reverse h.kept)
      (reverse-append h.kept (reverse h.turned) ∙ ap (λ z. z ++ reverse h.kept) (reverse-reverse h.turned))
      (cycle-reverse D (h.kept ++ reverse h.turned) k),
)

two_mirrored : (m : ℕ) (C D : List ℕ) (a b c d : ℕ) → Made m (Two a b c d) C D → Made m (Two b a d c) C D
two_mirrored m C D a b c d (h, k) = (
  record {
    kept = reverse h.turned;
    turned = reverse h.kept;
    cycle = cycle-same C (reverse (h.kept ++ h.turned)) (reverse h.turned ++ reverse h.kept)
        (reverse-append h.kept h.turned) (cycle-reverse C (h.kept ++ h.turned) h.cycle);
    is_kept = Spans-reverse h.turned b c h.is_turned;
    is_turned = Spans-reverse h.kept d a h.is_kept;
  },
  cycle-same D (reverse h.turned ++ h.kept) (reverse h.turned ++ reverse (reverse h.kept))
      (ap (λ z. reverse h.turned ++ z) (sym (reverse-reverse h.kept)))
      (cycle-turn D h.kept (reverse h.turned) k),
)

two_complete : (C D : List ℕ) (m : ℕ) (near : ℕ → List ℕ) (x a b c d : ℕ) → IsOfferOf near x (Two a b c d) →
    Made m (Two a b c d) C D → Steps C a b c d → Steps C d c b a →
    (p : Offer) × IsListed (offers C m (near x) x) p × HasSameSteps p (Two a b c d) × Made m p C D
two_complete C D m near x a b c d (inl (e, h)) made s t =
    (Two a b c d, two_listed C (near x) m x a b c d e h s, (λ f k. (refl, refl)), made)
two_complete C D m near x a b c d (inr (inl (e, h))) made s t = (
  Two c d a b,
  two_listed C (near x) m x c d a b e h (steps-swap C a b c d s),
  (λ f k. (omega arith, omega (arith, k a c, k b d))),
  two_swapped m C D a b c d made,
)
two_complete C D m near x a b c d (inr (inr (inl (e, h)))) made s t = (
  Two b a d c,
  two_listed C (near x) m x b a d c e h (steps-swap C d c b a t),
  (λ f k. (omega (arith, k a b, k c d), omega arith)),
  two_mirrored m C D a b c d made,
)
two_complete C D m near x a b c d (inr (inr (inr (e, h)))) made s t = (
  Two d c b a,
  two_listed C (near x) m x d c b a e h t,
  (λ f k. (omega (arith, k a b, k c d), omega (arith, k a c, k b d))),
  two_swapped m C D b a d c (two_mirrored m C D a b c d made),
)

-- the Or-opt offers, on a rotation K of the cycle or of its reverse

uncover : (x u v z : ℕ) → x ≢ z → u ≢ z → v ≢ z → ((eqb z x || eqb z u) || eqb z v) ≡ false
uncover x u v z h j k =
    or_from (eqb z x || eqb z u) (eqb z v)
    (or_from (eqb z x) (eqb z u) (ne_eqb z x (λ e. h (sym e))) (ne_eqb z u (λ e. j (sym e))))
    (ne_eqb z v (λ e. k (sym e)))

or_listed : (x y w ay by a e b : ℕ) (s : Segment) → s.before ≡ a → s.last ≡ e → s.after ≡ b → covers x s y ≡ false →
    covers x s w ≡ false → (w ≡ ay) ⊎ (w ≡ by) → IsListed (or_offers x y ay by s) (Or a x e b y w)
or_listed x y w ay by a e b s ha he hb cy cw n =
    let same : Or s.before x s.last s.after y w ≡ Or a x e b y w = cc in
    let here : IsListed (or_offer x y s w) (Or a x e b y w) =
    subst (λ z. IsListed (or_offer x y s w) z) same
    (listed_cond (covers x s y || covers x s w) (Or s.before x s.last s.after y w)
    (or_from (covers x s y) (covers x s w) cy cw)) in
    let at : (z : ℕ) → w ≡ z → IsListed (or_offer x y s z) (Or a x e b y w) = λ z i.
    subst (λ v. IsListed (or_offer x y s v) (Or a x e b y w)) i here in
    elim n [
      | inl i ↦ listed-left (or_offer x y s ay) (or_offer x y s by) (Or a x e b y w) (at ay i)
      | inr i ↦ listed-right (or_offer x y s ay) (or_offer x y s by) (Or a x e b y w) (at by i)
    ]

positive : (X : List ℕ) (p q : ℕ) → Spans X p q → 1 ≤ length X
positive [] p q s = absurd s
positive (a ∷ X) p q s = omega arith

-- a segment from x to e with b after it, by its length
abbrev IsOne : (ℕ → ℕ) → List ℕ → ℕ → ℕ → ℕ → Type 0
IsOne nx K x e b = (e ≡ x) × (nx x ≡ b) × (3 ≤ length K)

abbrev IsTwo : (ℕ → ℕ) → List ℕ → ℕ → ℕ → ℕ → ℕ → Type 0
IsTwo nx K m x e b = (nx x ≡ e) × (nx (nx x) ≡ b) × (4 ≤ length K) × (2 ≤ m)

abbrev IsThree : (ℕ → ℕ) → List ℕ → ℕ → List ℕ → ℕ → ℕ → ℕ → Type 0
IsThree nx K m S x e b = (holds S (nx x) ≡ true) × (nx (nx x) ≡ e) × (nx (nx (nx x)) ≡ b) × (5 ≤ length K) × (3 ≤ m)

-- y and w are neighbours on the cycle, in the rest that a segment leaves
abbrev AreBeside : (C rest : List ℕ) (y w : ℕ) → Type 0
AreBeside C rest y w =
    (holds rest y ≡ true) × (holds rest w ≡ true) × ((w ≡ next_city C y) ⊎ (w ≡ prev_city C y))

module _ {K : List ℕ} {nx pv : ℕ → ℕ} (ways : Ways K nx pv) {m : ℕ} (small : m ≤ 3) {C : List ℕ} {a x e b c d : ℕ}
    (p : Parts m C a x e b c d) (rot : IsRotation K (p.segment ++ p.ahead ++ p.rest)) where
  abbrev S : List ℕ
  S = p.segment

  abbrev others : List ℕ
  others = p.ahead ++ p.rest

  front : Spans (S ++ p.ahead) x c
  front = Spans-append S p.ahead x e b c p.is_segment p.is_ahead

  before_x : pv x ≡ a
  before_x = ways.prev (S ++ p.ahead ++ p.rest) x a rot (Spans-append (S ++ p.ahead) p.rest x c d a front p.is_rest)

  split : IsRotation K (S ++ others)
  split = subst (λ z. IsRotation K z) (append_assoc S p.ahead p.rest) rot

  after_e : nx e ≡ b
  after_e = ways.next (others ++ S) b e (rotation-trans K (S ++ others) (others ++ S) split (turned S others))
      (Spans-append others S b a x e (Spans-append p.ahead p.rest b c d a p.is_ahead p.is_rest) p.is_segment)

  round : IsRotation K (p.rest ++ (S ++ p.ahead))
  round = rotation-trans K (S ++ p.ahead ++ p.rest) (p.rest ++ (S ++ p.ahead)) rot (turned (S ++ p.ahead) p.rest)

  round_ends : Spans (p.rest ++ (S ++ p.ahead)) d c
  round_ends = Spans-append p.rest (S ++ p.ahead) d a x c p.is_rest front

  in_c : holds others c ≡ true
  in_c = holds-append p.ahead p.rest c ∙ or_left (holds p.ahead c) (holds p.rest c) (holds-last p.ahead b c p.is_ahead)

  in_d : holds others d ≡ true
  in_d = holds-append p.ahead p.rest d ∙ or_right (holds p.ahead d) (holds p.rest d) (holds-first p.rest d a p.is_rest)

  -- the two neighbours at which the rest is cut
  along : (holds others c ≡ true) × (holds others d ≡ true) × (d ≡ nx c)
  along = (in_c, in_d, sym (ways.next (p.rest ++ (S ++ p.ahead)) d c round round_ends))

  against : (holds others d ≡ true) × (holds others c ≡ true) × (c ≡ pv d)
  against = (in_d, in_c, sym (ways.prev (p.rest ++ (S ++ p.ahead)) d c round round_ends))

  apart : Apart S others
  apart = (distinct-parts S others (distinct-rotation K (S ++ others) split ways.distinct)).2

  size : length S + 2 ≤ length K
  size =
      omega (
        arith,
        length-rotation K (S ++ p.ahead ++ p.rest) rot,
        length-append (S ++ p.ahead) p.rest,
        length-append S p.ahead,
        positive p.ahead b c p.is_ahead,
        positive p.rest d a p.is_rest,
      )

  steps_inside : (us : List ℕ) (u v : ℕ) (vs : List ℕ) → S ≡ us ++ u ∷ v ∷ vs → nx u ≡ v
  steps_inside us u v vs h =
      step_in ways us (vs ++ others) u v
      (subst (λ z. IsRotation K z) (ap (λ z. z ++ others) h ∙ append_assoc us (u ∷ v ∷ vs) others) split)

  shape : (T : List ℕ) → S ≡ T → Spans T x e → IsOne nx K x e b ⊎ (IsTwo nx K m x e b ⊎ IsThree nx K m S x e b)
  shape [] h s = absurd s
  shape (x1 ∷ []) h s = let k : e ≡ x = sym s.1 ∙ s.0 in
      inl (k, ap nx (sym k) ∙ after_e, omega (arith, size, ap length h))
  shape (x1 ∷ u ∷ []) h s =
      let k : nx x ≡ e = ap nx (sym s.0) ∙ steps_inside [] x1 u [] h ∙ s.1 in
      inr (inl (k, ap nx k ∙ after_e, omega (arith, size, ap length h), omega (arith, p.short, ap length h)))
  shape (x1 ∷ u ∷ v ∷ []) h s =
      let j : nx x ≡ u = ap nx (sym s.0) ∙ steps_inside [] x1 u (v ∷ []) h in
      let k : nx (nx x) ≡ e = ap nx j ∙ steps_inside (x1 ∷ []) u v [] h ∙ s.1 in
      inr (inr (
        ap (holds S) j ∙ ap (λ z. holds z u) h
            ∙ or_right (eqb x1 u) (holds (u ∷ v ∷ []) u) (holds-first (u ∷ v ∷ []) u v (refl, refl)),
        k,
        ap nx k ∙ after_e,
        omega (arith, size, ap length h),
        omega (arith, p.short, ap length h),
      ))
  shape (x1 ∷ u ∷ v ∷ w ∷ T) h s = absurd (omega (arith, p.short, small, ap length h))

  uncovered : (s : Segment) (z : ℕ) → holds S s.middle ≡ true → s.last ≡ e → holds others z ≡ true →
      covers x s z ≡ false
  uncovered s z h k i =
      uncover x s.middle s.last z (apart-ne S others x z apart (holds-first S x e p.is_segment) i)
      (apart-ne S others s.middle z apart h i)
      (apart-ne S others s.last z apart (ap (holds S) k ∙ holds-last S x e p.is_segment) i)

  abbrev at : ℕ → Segment
  at i = get_or (all_segments (next_city C) (prev_city C) x) i (segment_of_one (next_city C) (prev_city C) x)

  module _ (near : List ℕ) (y w : ℕ) (hn : holds near y ≡ true) (beside : AreBeside C others y w) where
    offered : (i : ℕ) → i < segment_count (length C) m → i < 5 → (a2 b2 : ℕ) → (at i).before ≡ a2 →
        holds S (at i).middle ≡ true → (at i).last ≡ e → (at i).after ≡ b2 →
        IsListed (offers C m near x) (Or a2 x e b2 y w)
    offered i many low a2 b2 ha hm he hb =
        let o = Or a2 x e b2 y w in
        let ss = all_segments (next_city C) (prev_city C) x in
        listed-near (offers_between C m x) near y o hn
        (inr (inr (listed_at (or_offers x y (next_city C y) (prev_city C y)) o
        (segment_count (length C) m) i ss (at 0) many low
        (or_listed x y w (next_city C y) (prev_city C y) a2 e b2 (at i) ha he hb (uncovered (at i) y hm he beside.0)
        (uncovered (at i) w hm he beside.1) beside.2))))

-- a segment of one city is its own reverse
alone_swap : (m : ℕ) (C D : List ℕ) (a x b y w : ℕ) → IsDistinct C → Made m (Or a x x b y w) C D →
    Made m (Or a x x b w y) C D
alone_swap m C D a x b y w dis made =
    elim made [
      | inl (p, k) ↦ inr (p, subst (λ z. SameCycle D (p.ahead ++ z ++ p.rest)) (sym (alone p)) k)
      | inr (p, k) ↦ inl (p, subst (λ z. SameCycle D (p.ahead ++ z ++ p.rest)) (alone p) k)
    ]
  where
    alone : {c d : ℕ} (p : Parts m C a x x b c d) → reverse p.segment ≡ p.segment
    alone p =
        one_city p.segment x p.is_segment
        (distinct-parts p.segment p.ahead (distinct-parts (p.segment ++ p.ahead) p.rest
        (distinct-cycle C (p.segment ++ p.ahead ++ p.rest) p.cycle dis)).0).0

turn_back : (m : ℕ) (C D : List ℕ) (a x e b y w : ℕ) → IsDistinct C → e ≡ x → Made m (Or a x e b y w) C D →
    Made m (Or b x e a y w) C D
turn_back m C D a x e b y w dis h made =
    subst (λ z. Made m (Or b x z a y w) C D) (sym h)
    (alone_swap m C D b x a w y dis
    (mirrored m C D a x x b y w (subst (λ z. Made m (Or a x z b y w) C D) h made)))

module _ (C : List ℕ) (dis : IsDistinct C) (near : List ℕ) (m : ℕ) (small : m ≤ 3) (a x e b y w : ℕ)
    (hn : holds near y ≡ true) (D : List ℕ) (whole : Made m (Or a x e b y w) C D) where
  abbrev Answer : Type 0
  Answer = (o : Offer) × IsListed (offers C m near x) o × HasSameSteps o (Or a x e b y w) × Made m o C D

  module _ {c d : ℕ} (p : Parts m C a x e b c d) (beside : AreBeside C (p.ahead ++ p.rest) y w) where
    first : holds p.segment x ≡ true
    first = holds-first p.segment x e p.is_segment

    ahead : IsRotation C (p.segment ++ p.ahead ++ p.rest) → Answer
    ahead rot =
        let ways = ways_on C dis in
        let before = before_x ways small p rot in
        let put = offered ways small p rot near y w hn beside in (
          Or a x e b y w,
          elim (shape ways small p rot p.segment refl p.is_segment) [
            | inl h ↦ put 0 (count-one (length C) m h.2) (omega arith) a b before first (sym h.0) h.1
            | inr (inl h) ↦
                put 1 (omega (arith, count-two (length C) m h.2 h.3)) (omega arith) a b before first h.0 h.1
            | inr (inr h) ↦
                put 3 (omega (arith, count-three (length C) m h.3 h.4)) (omega arith) a b before h.0 h.1 h.2
          ],
          (λ f k. (refl, refl)),
          whole,
        )

    back : IsRotation (reverse C) (p.segment ++ p.ahead ++ p.rest) → Answer
    back rot =
        let ways = ways_back C dis in
        let before = before_x ways small p rot in
        let put = offered ways small p rot near y w hn beside in
        let same : length (reverse C) ≡ length C = length-reverse C in
        elim (shape ways small p rot p.segment refl p.is_segment) [
          | inl h ↦ (
            Or b x e a y w,
            put 0 (count-one (length C) m (omega (arith, h.2, same))) (omega arith) b a h.1 first (sym h.0) before,
            (λ f k. turn_alone f k h.0),
            turn_back m C D a x e b y w dis h.0 whole,
          )
          | inr (inl h) ↦ (
            Or a x e b y w,
            put 2 (omega (arith, count-two (length C) m (omega (arith, h.2, same)) h.3)) (omega arith) a b before first
                h.0 h.1,
            (λ f k. (refl, refl)),
            whole,
          )
          | inr (inr h) ↦ (
            Or a x e b y w,
            put 4 (omega (arith, count-three (length C) m (omega (arith, h.3, same)) h.4)) (omega arith) a b before h.0
                h.1 h.2,
            (λ f k. (refl, refl)),
            whole,
          )
        ]
      where
        turn_alone : (f : ℕ → ℕ → ℕ) → ((u v : ℕ) → f u v ≡ f v u) → e ≡ x →
            (removed f (Or b x e a y w) ≡ removed f (Or a x e b y w))
            × (added f (Or b x e a y w) ≡ added f (Or a x e b y w))
        turn_alone f k h =
            (omega (arith, ap (λ z. f z a) h, ap (λ z. f z b) h, k a x, k b x), omega (arith, k a b))

  or_first : Made m (Or a x e b y w) C D → Answer
  or_first (inl (p, k)) =
      elim (p.cycle) [
        | inl rot ↦ let s = along (ways_on C dis) small p rot in ahead p (s.0, s.1, inl s.2) rot
        | inr r ↦
            let rot = turned_back C (p.segment ++ p.ahead ++ p.rest) r in
            let s = along (ways_back C dis) small p rot in
            back p (s.0, s.1, inr s.2) rot
      ]
  or_first (inr (p, k)) =
      elim (p.cycle) [
        | inl rot ↦ let s = against (ways_on C dis) small p rot in ahead p (s.0, s.1, inr s.2) rot
        | inr r ↦
            let rot = turned_back C (p.segment ++ p.ahead ++ p.rest) r in
            let s = against (ways_back C dis) small p rot in
            back p (s.0, s.1, inl s.2) rot
      ]

or_mirror : (a s e b y w : ℕ) (p : Offer) → HasSameSteps p (Or b e s a w y) → HasSameSteps p (Or a s e b y w)
or_mirror a s e b y w p h =
    λ f k. let q = h f k in (omega (arith, q.0, k b e, k s a, k w y), omega (arith, q.1, k b a))

or_complete : (C : List ℕ) (dis : IsDistinct C) (near : ℕ → List ℕ) (m : ℕ) → m ≤ 3 → (x a s e b y w : ℕ) (D : List ℕ) →
    IsOfferOf near x (Or a s e b y w) → Made m (Or a s e b y w) C D →
    (p : Offer) × IsListed (offers C m (near x) x) p × HasSameSteps p (Or a s e b y w) × Made m p C D
or_complete C dis near m small x a s e b y w D (inl (i, h)) made =
    subst (λ z. (p : Offer) × IsListed (offers C m (near z) z) p × HasSameSteps p (Or a s e b y w)
    × Made m p C D) i
    (or_first C dis (near s) m small a s e b y w (subst (λ z. holds (near z) y ≡ true) (sym i) h) D made made)
or_complete C dis near m small x a s e b y w D (inr (i, h)) made =
    let q = or_first C dis (near e) m small b e s a w y (subst (λ z. holds (near z) w ≡ true) (sym i) h) D
    (mirrored m C D a s e b y w made) (mirrored m C D a s e b y w made) in
    subst (λ z. (p : Offer) × IsListed (offers C m (near z) z) p × HasSameSteps p (Or a s e b y w)
    × Made m p C D) i
    (q.0, q.1, or_mirror a s e b y w q.0 q.2, q.3)

pub complete : (C : List ℕ) (near : ℕ → List ℕ) (m x : ℕ) → IsDistinct C → m ≤ 3 → IsComplete C m near x
complete C near m x dis small o D of makes =
    let p = complete_made o D of (made_of m o C D makes) in (p.0, p.1, p.2, makes_of m p.0 C D p.3)
  where
    complete_made : (o : Offer) (D : List ℕ) → IsOfferOf near x o → Made m o C D →
        (p : Offer) × IsListed (offers C m (near x) x) p × HasSameSteps p o × Made m p C D
    complete_made (Two a b c d) D of made =
        two_complete C D m near x a b c d of made (two_steps m C a b c d dis (D, made)).0
        (steps_back C made.0.kept made.0.turned a b c d made.0.cycle dis made.0.is_kept made.0.is_turned)
    complete_made (Or a s e b y w) D of made = or_complete C dis near m small x a s e b y w D of made
