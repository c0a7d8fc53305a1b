-- A part has one path: all that are its path from the lesser end are equal.
use Rattle.std.proofs.Common.{◌≡◌, ◌≢◌, ℕ, Bool, true, false, ◌||◌, ◌&&◌, eqb, List, [], ◌∷◌, refl, sym, ap, ap₂, ◌∙◌}
use Rattle.std.proofs.Common.{◌⊎◌, ◌↔◌, arith, ⊎_elim, subst}
use Rattle.std.proofs.lemmas.Bool.{or_parts, false_from_ne_true, both_ways}
use Rattle.std.proofs.Math.Bool.{or_comm}
use Rattle.tk_distance.specs.Cities.{IsCity}
use Rattle.tk_distance.specs.Holding.{holds, IsDistinct}
use Rattle.tk_starts.specs.Joints.{part, joined, IsChain, IsPartPath, last_from}
use Rattle.tk_starts.specs.PathEnds.{AreBoth, Follows, IsEnd}
use Rattle.tk_starts.specs.declared.merges.pairs.Pair.{Pair}
use Rattle.tk_starts.proofs.Merging.Paths.EndsJoined.{other_end}
use Rattle.tk_starts.proofs.Merging.Paths.NeighbourArrays.{IsBeside, AreBeside, HasArrays, end_both}
use Rattle.tk_starts.proofs.Merging.Paths.PathLists.{holds-here, holds-later, holds-cases, holds-last, AreBoth-flip}
use Rattle.tk_starts.proofs.Merging.Paths.PathLists.{both_last}

joined-turned : (E : List Pair) (a b : ℕ) → joined E a b ≡ joined E b a
unfolding joined
joined-turned [] a b = refl
joined-turned (e ∷ E) a b =
    ap₂ (λ (x y : Bool). x || y) (or_comm (eqb e.i a && eqb e.j b) (eqb e.i b && eqb e.j a)) (joined-turned E a b)

-- ---- an end stands first or last

-- an end has one neighbour
one_beside : (one two : ℕ → ℕ) (d a y : ℕ) → IsEnd one two d → IsBeside one two d a → IsBeside one two d y → a ≡ y
one_beside one two d a y e h k =
    both_last _ _ 0 a y (AreBoth-flip _ _ a 0 (end_both _ _ a e h)) (AreBoth-flip _ _ y 0 (end_both _ _ y e k))

end_is_last : (E : List Pair) (one two : ℕ → ℕ) → AreBeside E one two → (d : ℕ) → IsEnd one two d →
    (a : ℕ) (xs : List ℕ) → IsChain E a xs → IsDistinct (a ∷ xs) → holds xs d ≡ true → last_from a xs ≡ d
unfolding IsChain
end_is_last E one two s d e a [] h k m = absurd (both_ways _ refl m)
end_is_last E one two s d e a (x ∷ []) h k m = ⊎_elim (λ w. w) (λ w. absurd (both_ways _ refl w)) (holds-cases x d [] m)
end_is_last E one two s d e a (x ∷ y ∷ ys) h k m =
    ⊎_elim
    (λ (w : x ≡ d).
    let before : IsBeside one two d a = subst (λ (z : ℕ). IsBeside one two z a) w (s x a (joined-turned E x a ∙ h.0)) in
    let next : IsBeside one two d y = subst (λ (z : ℕ). IsBeside one two z y) w (s x y h.1.0) in
    let same : a ≡ y = one_beside one two d a y e before next in
    absurd (both_ways _ k.0
    (subst (λ (z : ℕ). holds (x ∷ y ∷ ys) z ≡ true) (sym same) (holds-later x y (y ∷ ys) (holds-here y ys)))))
    (λ w. end_is_last E one two s d e x (y ∷ ys) h.1 k.1 w)
    (holds-cases x d (y ∷ ys) m)

-- a path that ends where it begins has one city
alone : (d : ℕ) (xs : List ℕ) (b : ℕ) → IsDistinct (d ∷ xs) → last_from d xs ≡ d → holds (d ∷ xs) b ≡ true → d ≡ b
alone d [] b k e h = ⊎_elim (λ w. w) (λ w. absurd (both_ways _ refl w)) (holds-cases d b [] h)
alone d (x ∷ xs) b k e h = absurd (both_ways _ k.0 (subst (λ (z : ℕ). holds (x ∷ xs) z ≡ true) e (holds-last x xs)))

-- the cities of a list are those of the part of its first city
abbrev IsWhole : List Pair → ℕ → List ℕ → Type 0
IsWhole E a xs = (b : ℕ) → (holds (a ∷ xs) b ≡ true) ↔ (part E b ≡ part E a)

begins_at_end : (n : ℕ) (load : ℕ → ℕ) (E : List Pair) (k : HasArrays n load E) (a : ℕ) (xs : List ℕ) → IsChain E a xs →
    IsDistinct (a ∷ xs) → IsWhole E a xs → IsCity n a → IsEnd k.one k.two a
begins_at_end n load E k a xs chain distinct whole r =
    let v = k.ends.covered a r in
    let d = v.0 in
    let o = other_end k.ends d v.1.0 v.1.1 in
    let back = k.ends.back d v.1.0 v.1.1 in
    let P = k.ends.paths d v.1.0 v.1.1 in
    ⊎_elim
    (λ (e : a ≡ d). subst (λ (z : ℕ). IsEnd k.one k.two z) (sym e) v.1.1)
    (λ m. ⊎_elim
    (λ (e : a ≡ k.other d). subst (λ (z : ℕ). IsEnd k.one k.two z) (sym e) back.0)
    (λ w.
    let same : k.other d ≡ d = sym (end_is_last E k.one k.two k.beside (k.other d) back.0 a xs chain distinct w)
    ∙ end_is_last E k.one k.two k.beside d v.1.1 a xs chain distinct m in
    let e : d ≡ a = alone d P.0 a P.1.distinct (P.1.last ∙ same) ((P.1.whole a).1 (sym v.1.2)) in
    subst (λ (z : ℕ). IsEnd k.one k.two z) e v.1.1)
    (holds-cases a (k.other d) xs ((whole (k.other d)).1 (o.1 ∙ v.1.2))))
    (holds-cases a d xs ((whole d).1 v.1.2))

-- ---- the way from an end

other_of_both : (p q before d x : ℕ) → AreBoth p q before d → (p ≡ x) ⊎ (q ≡ x) → x ≢ before → x ≡ d
other_of_both p q before d x h k ne = omega arith

abbrev HoldSame : List ℕ → List ℕ → Type 0
HoldSame xs ys = (b : ℕ) → (holds xs b ≡ true) ↔ (holds ys b ≡ true)

held_after : (c : ℕ) (xs ys : List ℕ) → holds xs c ≡ false →
    ((b : ℕ) → holds (c ∷ xs) b ≡ true → holds (c ∷ ys) b ≡ true) → (b : ℕ) → holds xs b ≡ true → holds ys b ≡ true
held_after c xs ys free h b m =
    ⊎_elim
    (λ (e : c ≡ b). absurd (both_ways _ (subst (λ (z : ℕ). holds xs z ≡ false) e free) m))
    (λ k. k)
    (holds-cases c b ys (h b (holds-later c b xs m)))

-- one city is not two
not_two : (c d : ℕ) (ys : List ℕ) → IsDistinct (c ∷ d ∷ ys) → holds (c ∷ []) d ≡ true → ⊥
not_two c d ys k h =
    ⊎_elim
    (λ (e : c ≡ d). both_ways _ k.0 (subst (λ (z : ℕ). holds (d ∷ ys) z ≡ true) (sym e) (holds-here d ys)))
    (λ w. both_ways _ refl w)
    (holds-cases c d [] h)

-- a chain with the cities of the path that the neighbours lead along is that path
same_way : (E : List Pair) (one two : ℕ → ℕ) → AreBeside E one two → (before c : ℕ) (xs ys : List ℕ) → IsChain E c xs →
    IsDistinct (c ∷ xs) → holds xs before ≡ false →
    Follows one two before c ys → IsDistinct (c ∷ ys) → HoldSame (c ∷ xs) (c ∷ ys) → xs ≡ ys
unfolding IsChain Follows
same_way E one two s before c [] [] h k free f l m = refl
same_way E one two s before c [] (d ∷ ys) h k free f l m =
    absurd (not_two c d ys l ((m d).1 (holds-later c d (d ∷ ys) (holds-here d ys))))
same_way E one two s before c (x ∷ xs) [] h k free f l m =
    absurd (not_two c x xs k ((m x).0 (holds-later c x (x ∷ xs) (holds-here x xs))))
same_way E one two s before c (x ∷ xs) (d ∷ ys) h k free f l m =
    let ne : x ≢ before = λ e. both_ways _ free (subst (λ (z : ℕ). holds (x ∷ xs) z ≡ true) e (holds-here x xs)) in
    let e : x ≡ d = other_of_both _ _ before d x f.0 (s c x h.0).1 ne in
    let rest : HoldSame (x ∷ xs) (d ∷ ys) = λ b. (
      held_after c (x ∷ xs) (d ∷ ys) k.0 (λ b. (m b).0) b,
      held_after c (d ∷ ys) (x ∷ xs) l.0 (λ b. (m b).1) b,
    ) in
    subst (λ (z : ℕ). Follows one two c z ys → IsDistinct (z ∷ ys) → HoldSame (x ∷ xs) (z ∷ ys) → x ∷ xs ≡ z ∷ ys) e
    (λ g p q. ap (λ (w : List ℕ). x ∷ w) (same_way E one two s c x xs ys h.1 k.1 (or_parts _ _ k.0).1 g p q))
    f.2 l.1 rest

-- the path of a part is the one that the neighbours lead along
given_path : (n : ℕ) (load : ℕ → ℕ) (E : List Pair) (k : HasArrays n load E) (a : ℕ) (xs : List ℕ) (r : IsCity n a)
    (e : IsEnd k.one k.two a) → IsChain E a xs → IsDistinct (a ∷ xs) → IsWhole E a xs →
    xs ≡ (k.ends.paths a r e).0
given_path n load E k a xs r e chain distinct whole =
    let P = k.ends.paths a r e in
    let none : holds xs 0 ≡ false =
    false_from_ne_true _ (λ h. let z = P.1.inside 0 ((P.1.whole 0).1 ((whole 0).0 (holds-later a 0 xs h))) in
    omega (arith, z.0)) in
    same_way E k.one k.two k.beside 0 a xs P.0 chain distinct none P.1.follows P.1.distinct
    (λ b. (λ h. (P.1.whole b).1 ((whole b).0 h), λ h. (whole b).1 ((P.1.whole b).0 h)))

-- two part paths that hold a city both
pub one_path : (n : ℕ) (load : ℕ → ℕ) (E : List Pair) → HasArrays n load E → (xs ys : List ℕ) → IsPartPath E xs →
    IsPartPath E ys → (c : ℕ) → holds xs c ≡ true → holds ys c ≡ true →
    ((b : ℕ) → holds xs b ≡ true → IsCity n b) → ((b : ℕ) → holds ys b ≡ true → IsCity n b) → xs ≡ ys
unfolding IsPartPath
one_path n load E k [] ys p q c hx hy inside inside' = absurd p
one_path n load E k (a ∷ xs) [] p q c hx hy inside inside' = absurd q
one_path n load E k (a ∷ xs) (b ∷ ys) p q c hx hy inside inside' =
    let r = inside a (holds-here a xs) in
    let t = inside' b (holds-here b ys) in
    let ea = begins_at_end n load E k a xs p.0 p.1 p.3 r in
    let eb = begins_at_end n load E k b ys q.0 q.1 q.3 t in
    let la : last_from a xs ≡ k.other a = ap (last_from a) (given_path n load E k a xs r ea p.0 p.1 p.3)
    ∙ (k.ends.paths a r ea).1.last in
    let lb : last_from b ys ≡ k.other b = ap (last_from b) (given_path n load E k b ys t eb q.0 q.1 q.3)
    ∙ (k.ends.paths b t eb).1.last in
    let same : b ≡ a = ⊎_elim
    (λ w. w)
    (λ (w : b ≡ k.other a). let back : k.other b ≡ a = ap k.other w ∙ (k.ends.back a r ea).1 in
    omega (arith, p.2, q.2, la, lb, w, back))
    (k.ends.only a b r t ea eb (sym ((q.3 c).0 hy) ∙ (p.3 c).0 hx)) in
    subst (λ (z : ℕ). IsChain E z ys → IsDistinct (z ∷ ys) → IsWhole E z ys → a ∷ xs ≡ z ∷ ys) (sym same)
    (λ u v w. ap (λ (l : List ℕ). a ∷ l) (given_path n load E k a xs r ea p.0 p.1 p.3
    ∙ sym (given_path n load E k a ys r ea u v w)))
    q.0 q.1 q.3
