-- The sequence after segments are split, reversed and rotated.
use Rattle.std.proofs.Common.{◌≡◌, ℕ, Bool, true, false, ◌+◌, ◌-◌, ◌<◌, ◌≤◌, ⊎_elim, List, [], ◌∷◌, ◌++◌, length, take}
use Rattle.std.proofs.Common.{drop, refl, sym, ap, ◌∙◌, subst, arith, get_or}
use Rattle.std.specs.Prelude.{reverse, not, if◌then◌else◌}
use Rattle.std.specs.List.{flat_map}
use Rattle.std.proofs.lemmas.Bool.{cases_lt}
use Rattle.std.proofs.lemmas.List.{append-nil, append_assoc, reverse-append, reverse-reverse, take-append-drop}
use Rattle.std.proofs.lemmas.List.{take-take, drop-take, drop-drop, length-append, take_at, drop_at, ext_get_or}
use Rattle.std.proofs.lemmas.List.Concat.{flat_map-append}
use Rattle.tk_tour.specs.Reversal.{begun_at, reversed_front, reversed_places}
use Rattle.tk_tour.proofs.StoredTours.Places.{AtPlace, length-begun_at, get_or-begun_at, begun_at-back}
use Rattle.tk_tour.proofs.StoredTours.Places.{reversed_places-from, length-reversed_places, length-reversed_front}
use Rattle.tk_tour.proofs.StoredTours.TurnedWithin.{turned_within, turned_within-is}
use Rattle.tk_segments.specs.Segments.{stretch, shown_by, shown}
use Rattle.tk_segments.specs.declared.segment.Segment.{Segment}

-- a range in two parts
pub stretch-parts : (lo q hi : ℕ) (xs : List ℕ) → lo ≤ q → q ≤ hi → stretch lo hi xs ≡ stretch lo q xs
    ++ stretch q hi xs
stretch-parts lo q hi xs le1 le2 =
    let a : ℕ = q - lo in
    let b : ℕ = hi - q in
    let ys : List ℕ = drop lo xs in
    let whole : hi - lo ≡ a + b = omega arith in
    let front : take a (take (a + b) ys) ≡ take a ys = take-take a (a + b) ys (omega arith) in
    let back : drop a (take (a + b) ys) ≡ take b (drop q xs) = drop-take a b ys
    ∙ ap (take b) (drop-drop a lo xs ∙ ap (λ v. drop v xs) (omega arith)) in
    ap (λ v. take v ys) whole ∙ sym (take-append-drop a (take (a + b) ys))
    ∙ ap (λ v. v ++ drop a (take (a + b) ys)) front ∙ ap (λ v. take a ys ++ v) back

-- the two parts of a segment, in array order
pub record ArePartsOf (segment low high : Segment) (q : ℕ) : Type 0 where
  pub low_is : (low.low ≡ segment.low) × (low.high ≡ q) × (low.back ≡ segment.back)
  pub high_is : (high.low ≡ q) × (high.high ≡ segment.high) × (high.back ≡ segment.back)
  pub inside : (segment.low ≤ q) × (q ≤ segment.high)

ahead : (order : List ℕ) (r : Segment) → r.back ≡ false → shown_by order r ≡ stretch r.low r.high order
ahead order r e = ap (λ b. if b then reverse (stretch r.low r.high order) else stretch r.low r.high order) e

behind : (order : List ℕ) (r : Segment) → r.back ≡ true → shown_by order r ≡ reverse (stretch r.low r.high order)
behind order r e = ap (λ b. if b then reverse (stretch r.low r.high order) else stretch r.low r.high order) e

whole_stretch : (order : List ℕ) (segment low high : Segment) (q : ℕ) → ArePartsOf segment low high q →
    stretch segment.low segment.high order ≡ stretch low.low low.high order ++ stretch high.low high.high order
whole_stretch order segment low high q h =
    stretch-parts segment.low q segment.high order h.inside.0 h.inside.1
    ∙ ap (λ v. stretch v q order ++ stretch q segment.high order) (sym h.low_is.0)
    ∙ ap (λ v. stretch low.low v order ++ stretch q segment.high order) (sym h.low_is.1)
    ∙ ap (λ v. stretch low.low low.high order ++ stretch v segment.high order) (sym h.high_is.0)
    ∙ ap (λ v. stretch low.low low.high order ++ stretch high.low v order) (sym h.high_is.1)

pub shown_by-ahead : (order : List ℕ) (segment low high : Segment) (q : ℕ) → ArePartsOf segment low high q →
    segment.back ≡ false →
    shown_by order segment ≡ shown_by order low ++ shown_by order high
shown_by-ahead order segment low high q h e =
    ahead order segment e ∙ whole_stretch order segment low high q h
    ∙ ap (λ v. v ++ stretch high.low high.high order) (sym (ahead order low (h.low_is.2 ∙ e)))
    ∙ ap (λ v. shown_by order low ++ v) (sym (ahead order high (h.high_is.2 ∙ e)))

pub shown_by-behind : (order : List ℕ) (segment low high : Segment) (q : ℕ) → ArePartsOf segment low high q →
    segment.back ≡ true →
    shown_by order segment ≡ shown_by order high ++ shown_by order low
shown_by-behind order segment low high q h e =
    behind order segment e ∙ ap reverse (whole_stretch order segment low high q h)
    ∙ reverse-append (stretch low.low low.high order) (stretch high.low high.high order)
    ∙ ap (λ v. v ++ reverse (stretch low.low low.high order)) (sym (behind order high (h.high_is.2 ∙ e)))
    ∙ ap (λ v. shown_by order high ++ v) (sym (behind order low (h.low_is.2 ∙ e)))

-- a segment between others, split in two
pub shown-parted : (order : List ℕ) (us vs : List Segment) (segment one two : Segment) → shown_by order segment ≡
    shown_by order one
    ++ shown_by order two →
    shown order (us ++ one ∷ two ∷ vs) ≡ shown order (us ++ segment ∷ vs)
shown-parted order us vs segment one two e =
    flat_map-append (shown_by order) us (one ∷ two ∷ vs)
    ∙ ap (λ v. shown order us ++ v) (sym (append_assoc (shown_by order one) (shown_by order two) (shown order vs))
    ∙ ap (λ v. v ++ shown order vs) (sym e))
    ∙ sym (flat_map-append (shown_by order) us (segment ∷ vs))

-- one segment reversed
pub record IsTurned (r s : Segment) : Type 0 where
  pub low : s.low ≡ r.low
  pub high : s.high ≡ r.high
  pub back : s.back ≡ not r.back

turn_stretch : (b : Bool) (xs : List ℕ) → (if not b then reverse xs else xs) ≡ reverse (if b then reverse xs else xs)
turn_stretch true xs = sym (reverse-reverse xs)
turn_stretch false xs = refl

pub shown_by-turned : (order : List ℕ) (r s : Segment) → IsTurned r s → shown_by order s ≡ reverse (shown_by order r)
shown_by-turned order r s h =
    ap (λ v. if s.back then reverse (stretch v s.high order) else stretch v s.high order) h.low
    ∙ ap (λ v. if s.back then reverse (stretch r.low v order) else stretch r.low v order) h.high
    ∙ ap (λ b. if b then reverse (stretch r.low r.high order) else stretch r.low r.high order) h.back
    ∙ turn_stretch r.back (stretch r.low r.high order)

-- segments reversed one by one
pub data AreTurned : List Segment → List Segment → Type 0 where
  none : AreTurned [] []
  more : {r s : Segment} {rs ss : List Segment} → IsTurned r s → AreTurned rs ss → AreTurned (r ∷ rs) (s ∷ ss)

pub reverse-flat_map : {X : Type 0} (f : X → List ℕ) (xs : List X) →
    reverse (flat_map f xs) ≡ flat_map (λ x. reverse (f x)) (reverse xs)
reverse-flat_map f [] = refl
reverse-flat_map f (x ∷ xs) =
    reverse-append (f x) (flat_map f xs)
    ∙ ap (λ v. v ++ reverse (f x)) (reverse-flat_map f xs)
    ∙ ap (λ v. flat_map (λ y. reverse (f y)) (reverse xs) ++ v) (sym (append-nil (reverse (f x))))
    ∙ sym (flat_map-append (λ y. reverse (f y)) (reverse xs) (x ∷ []))
    ∙ ap (flat_map (λ y. reverse (f y))) (sym (reverse-append (x ∷ []) xs))

turned_each : (order : List ℕ) (rs ss : List Segment) → AreTurned rs ss →
    shown order ss ≡ flat_map (λ r. reverse (shown_by order r)) rs
turned_each order _ _ AreTurned.none = refl
turned_each order _ _ (AreTurned.more {r} {s} {rs} {ss} h t) =
    ap (λ v. v ++ shown order ss) (shown_by-turned order r s h)
    ∙ ap (λ v. reverse (shown_by order r) ++ v) (turned_each order rs ss t)

-- segments reversed in reverse order show the reverse
pub shown-turned : (order : List ℕ) (rs ss : List Segment) → AreTurned (reverse rs) ss →
    shown order ss ≡ reverse (shown order rs)
shown-turned order rs ss h = turned_each order (reverse rs) ss h ∙ sym (reverse-flat_map (shown_by order) rs)

-- the reversal of a part in the middle
pub reversed_places-midst : (us vs ws : List ℕ) →
    us ++ (reverse vs ++ ws) ≡ reversed_places (length us) (length vs) (us ++ (vs ++ ws))
reversed_places-midst us vs ws =
    let k : ℕ = length us in
    let m : ℕ = length vs in
    let xs : List ℕ = us ++ (vs ++ ws) in
    let e1 : take k xs ≡ us = take_at us (vs ++ ws) k refl in
    let e2 : drop k xs ≡ vs ++ ws = drop_at us (vs ++ ws) k refl in
    let e3 : take m (vs ++ ws) ≡ vs = take_at vs ws m refl in
    let e4 : drop m (vs ++ ws) ≡ ws = drop_at vs ws m refl in
    let le : k + m ≤ length xs = omega (arith, length-append us (vs ++ ws), length-append vs ws) in
    let e : turned_within k m xs ≡ us ++ (reverse vs ++ ws) =
    ap (λ v. v ++ (reverse (take m (drop k xs)) ++ drop m (drop k xs))) e1
    ∙ ap (λ v. us ++ (reverse (take m v) ++ drop m v)) e2 ∙ ap (λ v. us ++ (reverse v ++ drop m (vs ++ ws))) e3
    ∙ ap (λ v. us ++ (reverse vs ++ v)) e4 in
    sym e ∙ turned_within-is k m xs le

-- the reversal of segments is the reversal of the positions that they show
pub shown-turn : (order : List ℕ) (us rs ss ws : List Segment) → AreTurned (reverse rs) ss →
    shown order (us ++ (ss ++ ws)) ≡ reversed_places (length (shown order us)) (length (shown order rs))
    (shown order (us ++ (rs ++ ws)))
shown-turn order us rs ss ws h =
    let f = shown_by order in
    let A : List ℕ = shown order us in
    let B : List ℕ = shown order rs in
    let C : List ℕ = shown order ws in
    let old : shown order (us ++ (rs ++ ws)) ≡ A ++ (B ++ C) = flat_map-append f us (rs ++ ws)
    ∙ ap (λ v. A ++ v) (flat_map-append f rs ws) in
    let new : shown order (us ++ (ss ++ ws)) ≡ A ++ (reverse B ++ C) = flat_map-append f us (ss ++ ws)
    ∙ ap (λ v. A ++ v) (flat_map-append f ss ws) ∙ ap (λ v. A ++ (v ++ C)) (shown-turned order rs ss h) in
    new ∙ reversed_places-midst A B C ∙ ap (reversed_places (length A) (length B)) (sym old)

-- segments rotated to begin with another one show a rotation
pub shown-begun : (order : List ℕ) (us ws : List Segment) →
    shown order (ws ++ us) ≡ begun_at (length (shown order us)) (shown order (us ++ ws))
shown-begun order us ws =
    let f = shown_by order in
    let A : List ℕ = shown order us in
    let C : List ℕ = shown order ws in
    let e : shown order (us ++ ws) ≡ A ++ C = flat_map-append f us ws in
    flat_map-append f ws us
    ∙ sym (ap (begun_at (length A)) e ∙ ap (λ v. v ++ take (length A) (A ++ C)) (drop_at A C (length A) refl)
    ∙ ap (λ v. C ++ v) (take_at A C (length A) refl))

-- the entries of a list rotated to begin at f, and then at i
begun_entry : (xs : List ℕ) (f i p j : ℕ) → f ≤ length xs → i < length xs → p < length xs → AtPlace (length xs) f i p →
    j < length xs →
    get_or (begun_at i (begun_at f xs)) j 0 ≡ get_or (begun_at p xs) j 0
begun_entry xs f i p j lf li lp h lj =
    let n : ℕ = length xs in
    let l : length (begun_at f xs) ≡ n = length-begun_at f xs in
    let go : (q r : ℕ) → q < n → AtPlace n i j q → AtPlace n f q r → AtPlace n p j r →
    get_or (begun_at i (begun_at f xs)) j 0 ≡ get_or (begun_at p xs) j 0 = λ q r lq a b c.
    let P : ℕ → Type 0 = λ v. AtPlace v i j q in
    get_or-begun_at (begun_at f xs) i j q 0 (omega (arith, l)) (omega (arith, l)) (subst P (sym l) a)
    ∙ get_or-begun_at xs f q r 0 lf lq b
    ∙ sym (get_or-begun_at xs p j r 0 (omega arith) lj c) in
    ⊎_elim
    (λ (z1 : f + i < n).
    let e1 : p ≡ f + i = h.0 z1 in
    ⊎_elim
    (λ (z2 : f + i + j < n). go (i + j) (f + i + j) (omega arith) ((λ _. refl), (λ a. omega arith))
    ((λ a. omega arith), (λ a. omega arith)) ((λ a. omega arith), (λ a. omega arith)))
    (λ (z2 : n ≤ f + i + j).
    ⊎_elim
    (λ (z3 : i + j < n). go (i + j) (f + i + j - n) z3 ((λ _. refl), (λ a. omega arith))
    ((λ a. omega arith), (λ a. omega arith)) ((λ a. omega arith), (λ a. omega arith)))
    (λ (z3 : n ≤ i + j). go (i + j - n) (f + i + j - n) (omega arith) ((λ a. omega arith), (λ a. omega arith))
    ((λ a. omega arith), (λ a. omega arith)) ((λ a. omega arith), (λ a. omega arith)))
    (cases_lt (i + j) n))
    (cases_lt (f + i + j) n))
    (λ (z1 : n ≤ f + i).
    let e1 : p + n ≡ f + i = h.1 z1 in
    ⊎_elim
    (λ (z2 : p + j < n).
    ⊎_elim
    (λ (z3 : i + j < n). go (i + j) (p + j) z3 ((λ _. refl), (λ a. omega arith))
    ((λ a. omega arith), (λ a. omega arith)) ((λ _. refl), (λ a. omega arith)))
    (λ (z3 : n ≤ i + j). go (i + j - n) (p + j) (omega arith) ((λ a. omega arith), (λ a. omega arith))
    ((λ a. omega arith), (λ a. omega arith)) ((λ _. refl), (λ a. omega arith)))
    (cases_lt (i + j) n))
    (λ (z2 : n ≤ p + j). go (i + j - n) (p + j - n) (omega arith) ((λ a. omega arith), (λ a. omega arith))
    ((λ a. omega arith), (λ a. omega arith)) ((λ a. omega arith), (λ a. omega arith)))
    (cases_lt (p + j) n))
    (cases_lt (f + i) n)

-- a rotation to f, and then to position i of the result
pub begun_at-compose : (xs : List ℕ) (f i p : ℕ) → f ≤ length xs → i < length xs → p < length xs →
    AtPlace (length xs) f i p →
    begun_at i (begun_at f xs) ≡ begun_at p xs
begun_at-compose xs f i p lf li lp h =
    let l : length (begun_at i (begun_at f xs)) ≡ length xs = length-begun_at i (begun_at f xs)
    ∙ length-begun_at f xs in
    ext_get_or 0 (begun_at i (begun_at f xs)) (begun_at p xs) (l ∙ sym (length-begun_at p xs))
    (λ j lj. begun_entry xs f i p j lf li lp h (omega (arith, l)))

-- a reversal of positions does not depend on where the list begins
pub reversed_places-begun : (xs : List ℕ) (f k p m : ℕ) → f ≤ length xs → k < length xs → p < length xs →
    AtPlace (length xs) f k p → m ≤ length xs →
    begun_at f (reversed_places p m xs) ≡ reversed_places k m (begun_at f xs)
reversed_places-begun xs f k p m lf lk lp h lm =
    let n : ℕ = length xs in
    let R : List ℕ = reversed_places p m xs in
    let lr : length R ≡ n = length-reversed_places p m xs in
    let lx : length (begun_at f xs) ≡ n = length-begun_at f xs in
    let P : ℕ → Type 0 = λ v. AtPlace v f k p in
    let e1 : begun_at k (begun_at f R) ≡ begun_at p R =
    begun_at-compose R f k p (omega (arith, lr)) (omega (arith, lr)) (omega (arith, lr)) (subst P (sym lr) h) in
    let e2 : begun_at p R ≡ reversed_front m (begun_at p xs) =
    begun_at-back n p (reversed_front m (begun_at p xs)) (length-reversed_front m (begun_at p xs)
    ∙ length-begun_at p xs) (omega arith) in
    let e3 : begun_at k (begun_at f xs) ≡ begun_at p xs = begun_at-compose xs f k p lf lk lp h in
    reversed_places-from k m (begun_at f xs) (begun_at f R) (omega (arith, lx)) (length-begun_at f R ∙ lr ∙ sym lx)
    (e1 ∙ e2 ∙ ap (reversed_front m) (sym e3))
