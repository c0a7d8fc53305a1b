-- The paths read off.
use Rattle.std.proofs.Common.{leb, not, ◌&&◌, ◌≡◌, ◌≢◌, ℕ, ◌+◌, ◌≤◌, ◌<◌, Bool, true, false, cond, ◌||◌, eqb, List, []}
use Rattle.std.proofs.Common.{◌∷◌, ◌++◌, length, get_or, refl, sym, ap, ◌∙◌, ◌⊎◌, inl, inr, arith, ⊎_elim, subst}
use Rattle.std.specs.List.{All, IsDistinct as IsDistinctBy, AllByRecursion, list_any}
use Rattle.std.proofs.lemmas.Bool.{eqb-true, eqb-false, eq-eqb, ne_eqb, or_cases, or_left, or_right, or_parts}
use Rattle.std.proofs.lemmas.Bool.{false_from_ne_true, both_ways, cases_lt, and_parts, and_from, not-true}
use Rattle.std.proofs.lemmas.Bool.{not_from_false, leb-true, le-leb}
use Rattle.std.proofs.lemmas.List.{get_or_append_left, get_or_at, length-append}
use Rattle.std.proofs.lemmas.List.Elements.{All-push}
use Rattle.std.proofs.lemmas.Map.Steps.{length-le_from_distinct_below}
use Rattle.tk_distance.specs.Holding.{holds, IsDistinct}
use Rattle.tk_distance.specs.Cities.{IsCity}
use Rattle.tk_starts.specs.Joints.{part, joints_at, IsPartPath, ArePartPaths, first_of}
use Rattle.tk_starts.specs.PathEnds.{IsEnd, IsPathOf, AreEnds, IsWay}
use Rattle.tk_starts.specs.declared.merges.pairs.Pair.{Pair}
use Rattle.tk_starts.proofs.Merging.Parts.PartsJoined.{part-stays}
use Rattle.tk_starts.proofs.Merging.Paths.EndsJoined.{other_end}
use Rattle.tk_starts.proofs.Merging.Paths.JoinTest.{is_end-from}

to_all : (x : ℕ) (xs : List ℕ) → holds xs x ≡ false → AllByRecursion (λ y. eqb x y ≡ false) xs
to_all x [] h = tt
to_all x (y ∷ xs) h = let p = or_parts _ _ h in (ne_eqb x y (λ (e : x ≡ y). eqb-false y x p.0 (sym e)), to_all x xs p.1)

to_distinct : (xs : List ℕ) → IsDistinct xs → IsDistinctBy eqb xs
unfolding IsDistinctBy
to_distinct [] h = tt
to_distinct (x ∷ xs) h = (to_all x xs h.0, to_distinct xs h.1)

to_holds : (xs : List ℕ) (q : ℕ) → list_any (eqb q) xs ≡ true → holds xs q ≡ true
to_holds [] q h = h
to_holds (x ∷ xs) q h =
    ⊎_elim (λ k. or_left _ _ (eq-eqb x q (sym (eqb-true q x k)))) (λ k. or_right _ _ (to_holds xs q k)) (or_cases _ _ h)

short : (n a : ℕ) (xs : List ℕ) → IsDistinct (a ∷ xs) → ((b : ℕ) → holds (a ∷ xs) b ≡ true → IsCity n b) → length xs < n
short n a xs d inside =
    let z : holds (a ∷ xs) 0 ≡ false = false_from_ne_true _ (λ k. omega (arith, (inside 0 k).0)) in
    let l = length-le_from_distinct_below (0 ∷ a ∷ xs) (n + 1) (to_distinct (0 ∷ a ∷ xs) (z, d))
    (λ q h. ⊎_elim (λ k. omega (arith, eqb-true 0 q k)) (λ k. omega (arith, (inside q k).1))
    (or_cases _ _ (to_holds (0 ∷ a ∷ xs) q h))) in
    omega (arith, l)

pub IsWay-from_path : (n : ℕ) (E : List Pair) (one two : ℕ → ℕ) (a z : ℕ) (xs : List ℕ) → IsPathOf n E one two a z xs →
    IsWay n one two a xs
IsWay-from_path n E one two a z xs p =
    record { follows = p.follows; inside = p.inside; short = short n a xs p.distinct p.inside }

no_joint : (b : Bool) (x : ℕ) → cond b 1 0 + x ≡ 0 → (b ≡ false) × (x ≡ 0)
no_joint true x h = absurd (omega (arith, h))
no_joint false x h = (refl, omega (arith, h))

-- a city without joints is a part of its own
pub alone : (E : List Pair) (h b : ℕ) → joints_at E h ≡ 0 → part E b ≡ part E h → b ≡ h
unfolding joints_at part
alone [] h b j e = e
alone (p ∷ E) h b j e =
    let t = no_joint (eqb p.i h || eqb p.j h) (joints_at E h) j in
    let k = or_parts _ _ t.0 in
    let ni : part E h ≢ part E p.i = λ w. eqb-false p.i h k.0 (alone E h p.i t.1 (sym w)) in
    let nj : part E h ≢ part E p.j = λ w. eqb-false p.j h k.1 (alone E h p.j t.1 (sym w)) in
    alone E h b t.1 ((part-stays E p h b ni nj).0 e)

-- the list is part of the part of an end below c that is not the greater of its path
pub record IsBegun (n : ℕ) (E : List Pair) (one two other : ℕ → ℕ) (c : ℕ) (list : List ℕ) : Type 0 where
  pub end : ℕ
  pub city : IsCity n end
  pub below : end < c
  pub ends : IsEnd one two end
  pub smaller : end ≤ other end
  pub inside : (b : ℕ) → holds list b ≡ true → part E b ≡ part E end

IsBegun-later : (n : ℕ) (E : List Pair) (one two other : ℕ → ℕ) (c : ℕ) (list : List ℕ) →
    IsBegun n E one two other c list → IsBegun n E one two other (c + 1) list
IsBegun-later n E one two other c list g =
    record {
      end = g.end;
      city = g.city;
      below = omega (arith, g.below);
      ends = g.ends;
      smaller = g.smaller;
      inside = g.inside;
    }

-- the paths of two such ends share no city
no_clash : (n : ℕ) (load : ℕ → ℕ) (E : List Pair) (one two other weight : ℕ → ℕ) (c b : ℕ) (list : List ℕ) →
    AreEnds n load E one two other weight → IsCity n c → IsEnd one two c → c ≤ other c →
    IsBegun n E one two other c list → holds list b ≡ true → part E b ≡ part E c → ⊥
no_clash n load E one two other weight c b list a r h le g m k =
    let below : g.end < c = g.below in
    ⊎_elim (λ (e : g.end ≡ c). omega (arith, e, below)) (λ (e : g.end ≡ other c). omega (arith, e, below, le))
    (a.only c g.end r g.city h g.ends (sym (g.inside b m) ∙ k))

-- the lists of the smaller ends below c
pub record AreRead (n hub : ℕ) (E : List Pair) (one two other : ℕ → ℕ) (c : ℕ) (lists : List (List ℕ)) : Type 0 where
  pub paths : All (IsPartPath E) lists
  pub sound : (k b : ℕ) → k < length lists → holds (get_or lists k []) b ≡ true → IsCity n b × (b ≢ hub)
  pub found : (e b : ℕ) → IsCity n e → e < c → IsEnd one two e → e ≢ hub → e ≤ other e → part E b ≡ part E e →
      (k : ℕ) × (k < length lists) × (holds (get_or lists k []) b ≡ true)
  pub order : (k : ℕ) → k + 1 < length lists → first_of (get_or lists k []) < first_of (get_or lists (k + 1) [])
  pub below : (k : ℕ) → k < length lists → first_of (get_or lists k []) < c
  pub begun : (k : ℕ) → k < length lists → IsBegun n E one two other c (get_or lists k [])
  pub once : (b k l : ℕ) → k < length lists → l < length lists → holds (get_or lists k []) b ≡ true →
      holds (get_or lists l []) b ≡ true → k ≡ l

-- c is not the smaller end of a path, or it is the hub
pub AreRead-skip : {n hub : ℕ} {E : List Pair} {one two other : ℕ → ℕ} {c : ℕ} {lists : List (List ℕ)} →
    (IsEnd one two c → c ≢ hub → c ≤ other c → ⊥) → AreRead n hub E one two other c lists →
    AreRead n hub E one two other (c + 1) lists
AreRead-skip {n} {hub} {E} {one} {two} {other} {c} never s = record {
  paths = s.paths;
  sound = s.sound;
  found = λ e b r l h ne le k. ⊎_elim (λ w. s.found e b r w h ne le k)
      (λ w. let t : e ≡ c = omega (arith, l, w) in absurd (never (subst (λ (x : ℕ). IsEnd one two x) t h)
      (λ m. ne (t ∙ m)) (subst (λ (x : ℕ). x ≤ other x) t le))) (cases_lt e c);
  order = s.order;
  below = λ k h. let t = s.below k h in omega (arith, t);
  begun = λ k h. IsBegun-later n E one two other c _ (s.begun k h);
  once = s.once;
}

at_left : (lists : List (List ℕ)) (l : List ℕ) (k : ℕ) → k < length lists →
    get_or (lists ++ l ∷ []) k [] ≡ get_or lists k []
at_left lists l k h = get_or_append_left lists (l ∷ []) [] k h

at_last : (lists : List (List ℕ)) (l : List ℕ) (k : ℕ) → k ≡ length lists → get_or (lists ++ l ∷ []) k [] ≡ l
at_last lists l k h = get_or_at lists l [] [] k (sym h)

pushed : (lists : List (List ℕ)) (l : List ℕ) → length (lists ++ l ∷ []) ≡ length lists + 1
pushed lists l = omega (arith, length-append lists (l ∷ []))

-- one of the lists before, or the last
pushed_cases : (lists : List (List ℕ)) (l : List ℕ) (k : ℕ) → k < length (lists ++ l ∷ []) →
    ((k < length lists) × (get_or (lists ++ l ∷ []) k [] ≡ get_or lists k []))
    ⊎ ((k ≡ length lists) × (get_or (lists ++ l ∷ []) k [] ≡ l))
pushed_cases lists l k h =
    ⊎_elim (λ w. inl (w, at_left lists l k w))
    (λ w. let last : k ≡ length lists = omega (arith, h, w, pushed lists l) in inr (last, at_last lists l k last))
    (cases_lt k (length lists))

path_made : (n : ℕ) (E : List Pair) (one two : ℕ → ℕ) (c z : ℕ) (xs : List ℕ) → IsPathOf n E one two c z xs → c ≤ z →
    IsPartPath E (c ∷ xs)
unfolding IsPartPath
path_made n E one two c z xs p le = (p.chain, p.distinct, subst (λ (x : ℕ). c ≤ x) (sym p.last) le, p.whole)

first-cons : (c : ℕ) (xs : List ℕ) → first_of (c ∷ xs) ≡ c
unfolding first_of
first-cons c xs = refl

pub AreRead-push : {n hub : ℕ} {load : ℕ → ℕ} {E : List Pair} {one two other weight : ℕ → ℕ} {c : ℕ}
    {lists : List (List ℕ)} (xs : List ℕ) → AreEnds n load E one two other weight → joints_at E hub ≡ 0 → IsCity n c →
    IsEnd one two c → c ≢ hub → c ≤ other c → IsPathOf n E one two c (other c) xs →
    AreRead n hub E one two other c lists → AreRead n hub E one two other (c + 1) (lists ++ (c ∷ xs) ∷ [])
AreRead-push {n} {hub} {load} {E} {one} {two} {other} {weight} {c} {lists} xs a j r hc ne le p s =
    let l : List ℕ = c ∷ xs in
    let len = pushed lists l in
    let fc = first-cons c xs in
    let which = pushed_cases lists l in
    record {
      paths = All-push (IsPartPath E) lists l s.paths (path_made n E one two c (other c) xs p le);
      sound = λ k b h m. ⊎_elim
          (λ w. s.sound k b w.0 (rw w.1 at m))
          (λ w.
          let q = rw w.1 at m in
          (p.inside b q, λ e. ne (alone E hub c j (sym ((p.whole b).0 q) ∙ ap (part E) e))))
          (which k h);
      found = λ e b re l' h ne' le' k. ⊎_elim
          (λ w.
          let f = s.found e b re w h ne' le' k in
          (f.0, omega (arith, f.1, len), rw (at_left lists l f.0 f.1) f.2))
          (λ w.
          let t : e ≡ c = omega (arith, l', w) in (
            length lists,
            omega (arith, len),
            rw (at_last lists l (length lists) refl) ((p.whole b).1 (k ∙ ap (part E) t)),
          ))
          (cases_lt e c);
      order = λ k h.
          let lt : k < length lists = omega (arith, h, len) in
          let a = ap first_of (at_left lists l k lt) in
          ⊎_elim
          (λ w. omega (arith, a, ap first_of w.1, s.order k w.0))
          (λ w. omega (arith, a, ap first_of w.1, s.below k lt, fc))
          (which (k + 1) h);
      below = λ k h. ⊎_elim
          (λ w. omega (arith, ap first_of w.1, s.below k w.0))
          (λ w. omega (arith, ap first_of w.1, fc))
          (which k h);
      begun = λ k h. ⊎_elim
          (λ w. rw w.1 (IsBegun-later n E one two other c _ (s.begun k w.0)))
          (λ w. rw w.1
          (record { end = c; city = r; below = omega arith; ends = hc; smaller = le; inside = λ b m. (p.whole b).0 m }))
          (which k h);
      once = λ b k m hk hm mk mm.
          let no : (i : ℕ) → i < length lists → holds (get_or lists i []) b ≡ true → holds l b ≡ true → ⊥ =
          λ i w q e. no_clash n load E one two other weight c b (get_or lists i []) a r hc le (s.begun i w) q
          ((p.whole b).0 e) in
          ⊎_elim
          (λ w. ⊎_elim
          (λ v. s.once b k m w.0 v.0 (rw w.1 at mk) (rw v.1 at mm))
          (λ v. absurd (no k w.0 (rw w.1 at mk) (rw v.1 at mm)))
          (which m hm))
          (λ w. ⊎_elim
          (λ v. absurd (no m v.0 (rw v.1 at mm) (rw w.1 at mk)))
          (λ v. w.0 ∙ sym v.0)
          (which m hm))
          (which k hk);
    }

pub AreRead-end : {n hub : ℕ} {load : ℕ → ℕ} {E : List Pair} {one two other weight : ℕ → ℕ} {c : ℕ}
    {lists : List (List ℕ)} → AreEnds n load E one two other weight → joints_at E hub ≡ 0 → n < c →
    AreRead n hub E one two other c lists → ArePartPaths n hub E lists
AreRead-end {hub = hub} {E = E} {other = other} a j l s = record {
  paths = s.paths;
  cities = λ b. (
    λ h. s.sound h.0 b h.1 h.2,
    λ h.
        let v = a.covered b h.0 in
        let o = other_end a v.0 v.1.0 v.1.1 in
        let w = a.back v.0 v.1.0 v.1.1 in
        let away : (x : ℕ) → part E x ≡ part E b → x ≢ hub = λ x e m. h.1 (alone E hub b j (sym e ∙ ap (part E) m)) in
        ⊎_elim
        (λ (g : other v.0 < v.0). s.found (other v.0) b o.0 (omega (arith, o.0, l)) w.0 (away _ (o.1 ∙ v.1.2))
        (omega (arith, g, w.1)) (sym (o.1 ∙ v.1.2)))
        (λ (g : v.0 ≤ other v.0). s.found v.0 b v.1.0 (omega (arith, v.1.0, l)) v.1.1 (away _ v.1.2) g (sym v.1.2))
        (cases_lt (other v.0) v.0),
  );
  once = s.once;
  order = s.order;
}

pub begins : (c hub p q z : ℕ) → true ≡ (not (eqb c hub) && (eqb p 0 || eqb q 0) && leb c z) →
    (c ≢ hub) × ((p ≡ 0) ⊎ (q ≡ 0)) × (c ≤ z)
begins c hub p q z h =
    let a = and_parts _ _ (sym h) in
    let b = and_parts _ _ a.0 in
    (eqb-false c hub (not-true _ b.0), is_end-from p q b.1, leb-true c z a.1)

pub begins_not : (c hub p q z : ℕ) → false ≡ (not (eqb c hub) && (eqb p 0 || eqb q 0) && leb c z) → (p ≡ 0) ⊎ (q ≡ 0) →
    c ≢ hub → c ≤ z → ⊥
begins_not c hub p q z h e ne le =
    both_ways _ (sym h)
    (and_from _ _ (and_from _ _ (not_from_false _ (ne_eqb c hub ne))
    (⊎_elim (λ k. or_left _ _ (eq-eqb p 0 k)) (λ k. or_right _ _ (eq-eqb q 0 k)) e)) (le-leb c z le))
