-- Lists that contain no city twice: their cycle can be cut at two edges in only one way.
use Rattle.std.proofs.Common.{◌≡◌, ℕ, ◌+◌, ◌≤◌, ⊎_elim, inl, inr, List, [], ◌∷◌, ◌++◌, refl, sym, ap, ◌∙◌, arith, eqb}
use Rattle.std.proofs.Common.{cond}
use Rattle.std.specs.Prelude.{reverse}
use Rattle.std.proofs.lemmas.List.{append-nil, append_assoc, reverse-append, reverse-reverse}
use Rattle.std.proofs.lemmas.List.Sums.{sum_by-append, sum_by-cons}
use Rattle.std.proofs.lemmas.List.Sorted.{sum_by-IsPermutation, IsPermutation-reverse}
use Rattle.std.proofs.lemmas.Bool.{eq-eqb}
use Rattle.tk_tour.specs.Tour.{IsRotation, SameCycle, IsPath, occurrences}
use Rattle.tk_tour.specs.Moves.{ReplacesSteps}
use Rattle.tk_tour.proofs.Cycle.{cuts_meet, IsRotation-trans, IsRotation-sym, SameCycle-trans, SameCycle-sym}
use Rattle.tk_tour.proofs.Cycle.{SameCycle-append, SameCycle-either_side, IsPath-reverse}

pub occurrences-append : (c : ℕ) (xs ys : List ℕ) → occurrences c (xs ++ ys) ≡ occurrences c xs + occurrences c ys
unfolding occurrences
occurrences-append c xs ys = sum_by-append (λ x. cond (eqb x c) 1 0) xs ys

pub occurrences-cons : (c : ℕ) (xs : List ℕ) → occurrences c (c ∷ xs) ≡ 1 + occurrences c xs
unfolding occurrences
occurrences-cons c xs =
    sum_by-cons (λ x. cond (eqb x c) 1 0) c xs ∙ ap (λ b. cond b 1 0 + occurrences c xs) (eq-eqb c c refl)

pub occurrences-reverse : (c : ℕ) (xs : List ℕ) → occurrences c (reverse xs) ≡ occurrences c xs
unfolding occurrences
occurrences-reverse c xs = sum_by-IsPermutation (λ x. cond (eqb x c) 1 0) xs (reverse xs) (IsPermutation-reverse xs)

pub occurrences-at : (c : ℕ) (xs ys : List ℕ) → occurrences c (xs ++ c ∷ ys) ≡ 1 + occurrences c xs + occurrences c ys
occurrences-at c xs ys = omega (arith, occurrences-append c xs (c ∷ ys), occurrences-cons c ys)

pub occurrences-rotation : (c : ℕ) {xs ys : List ℕ} → IsRotation xs ys → occurrences c ys ≡ occurrences c xs
occurrences-rotation c {xs} {ys} h =
    let e1 : occurrences c xs ≡ occurrences c (h.front ++ h.back) = ap (occurrences c) h.before in
    let e2 : occurrences c ys ≡ occurrences c (h.back ++ h.front) = ap (occurrences c) h.after in
    omega (arith, occurrences-append c h.front h.back, occurrences-append c h.back h.front)

pub occurrences-cycle : (c : ℕ) {xs ys : List ℕ} → SameCycle xs ys → occurrences c ys ≡ occurrences c xs
occurrences-cycle c {xs} {ys} h =
    ⊎_elim (λ f. occurrences-rotation c f) (λ f. sym (occurrences-reverse c ys) ∙ occurrences-rotation c f) h

-- no city occurs twice
abbrev pub HoldsOnce : List ℕ → Type 0
HoldsOnce xs = (c : ℕ) → occurrences c xs ≤ 1

pub HoldsOnce-cycle : {xs ys : List ℕ} → HoldsOnce xs → SameCycle xs ys → HoldsOnce ys
HoldsOnce-cycle once h = λ c. omega (arith, once c, occurrences-cycle c h)

overlap : (c : ℕ) (us ys vs t : List ℕ) → occurrences c (us ++ c ∷ vs) ≤ 1 → c ∷ vs ≡ t ++ c ∷ ys → (t ≡ []) × (vs ≡ ys)
overlap c us ys vs [] once e = (refl, cc)
overlap c us ys vs (x ∷ t) once e =
    let e' : vs ≡ t ++ c ∷ ys = cc in
    let n : occurrences c vs ≡ occurrences c (t ++ c ∷ ys) = ap (occurrences c) e' in
    absurd (omega (arith, once, n, occurrences-at c us vs, occurrences-at c t ys))

-- a city that occurs once cuts the list at only one position
pub one_place : (c : ℕ) (xs ys us vs : List ℕ) → occurrences c (xs ++ c ∷ ys) ≤ 1 → xs ++ c ∷ ys ≡ us ++ c ∷ vs →
    (xs ≡ us) × (ys ≡ vs)
one_place c xs ys us vs once e =
    let once' : occurrences c (us ++ c ∷ vs) ≤ 1 = rw (← e) once in
    let one : (t : List ℕ) × (xs ≡ us ++ t) × (c ∷ vs ≡ t ++ c ∷ ys) → (xs ≡ us) × (ys ≡ vs) = λ h.
    let k = overlap c us ys vs h.0 once' h.2 in
    (h.1 ∙ ap (λ v. us ++ v) k.0 ∙ append-nil us, sym k.1) in
    let two : (t : List ℕ) × (us ≡ xs ++ t) × (c ∷ ys ≡ t ++ c ∷ vs) → (xs ≡ us) × (ys ≡ vs) = λ h.
    let k = overlap c xs vs ys h.0 once h.2 in
    (sym (h.1 ∙ ap (λ v. xs ++ v) k.0 ∙ append-nil xs), k.1) in
    ⊎_elim one two (cuts_meet xs (c ∷ ys) us (c ∷ vs) e)

same_start : (c : ℕ) (front back r s : List ℕ) → occurrences c (front ++ back) ≤ 1 → front ++ back ≡ c ∷ r →
    back ++ front ≡ c ∷ s → front ++ back ≡ back ++ front
same_start c [] back r s once e f = sym (append-nil back)
same_start c (x ∷ front) [] r s once e f = append-nil (x ∷ front)
same_start c (x ∷ front) (y ∷ back) r s once e f =
    let ex : x ≡ c = cc in
    let ey : y ≡ c = cc in
    let n : occurrences c ((x ∷ front) ++ (y ∷ back)) ≡ occurrences c ((c ∷ front) ++ (c ∷ back)) =
    ap (λ v. occurrences c ((v ∷ front) ++ (y ∷ back))) ex ∙ ap (λ v. occurrences c ((c ∷ front) ++ (v ∷ back))) ey in
    absurd (omega (arith, once, n, occurrences-at c (c ∷ front) back, occurrences-cons c front))

-- two rotations of one list that begin with the same city are equal
pub one_rotation : (c : ℕ) (xs ys r s : List ℕ) → HoldsOnce xs → IsRotation xs ys → xs ≡ c ∷ r → ys ≡ c ∷ s → xs ≡ ys
one_rotation c xs ys r s once h e f =
    let o : occurrences c (h.front ++ h.back) ≤ 1 = rw (← h.before) (once c) in
    h.before ∙ same_start c h.front h.back r s o (sym h.before ∙ e) (sym h.after ∙ f) ∙ sym h.after

nil_parts : (xs ys : List ℕ) → [] ≡ xs ++ ys → (xs ≡ []) × (ys ≡ [])
nil_parts [] ys e = (refl, sym e)
nil_parts (x ∷ xs) ys e = cc

abbrev SamePieces : List ℕ → List ℕ → List ℕ → List ℕ → Type 0
SamePieces front back us vs = (us ≡ front) × (vs ≡ back)

same_way : (a b c d : ℕ) (front back us vs : List ℕ) → HoldsOnce (front ++ back) →
    IsPath d front a → IsPath b back c → IsPath d us a → IsPath b vs c →
    IsRotation (front ++ back) (us ++ vs) → SamePieces front back us vs
same_way a b c d front back us vs once pf pb pu pv h =
    let e : front ++ back ≡ us ++ vs =
    one_rotation d (front ++ back) (us ++ vs) (pf.0.0 ++ back) (pu.0.0 ++ vs) once h (ap (λ v. v ++ back) pf.0.1)
    (ap (λ v. v ++ vs) pu.0.1) in
    let e' : front ++ (b ∷ pb.0.0) ≡ us ++ (b ∷ pv.0.0) =
    ap (λ v. front ++ v) (sym pb.0.1) ∙ e ∙ ap (λ v. us ++ v) pv.0.1 in
    let o : occurrences b (front ++ (b ∷ pb.0.0)) ≤ 1 = rw (← pb.0.1) (once b) in
    let k = one_place b front pb.0.0 us pv.0.0 o e' in
    (sym k.0, pv.0.1 ∙ ap (λ v. b ∷ v) (sym k.1) ∙ sym pb.0.1)

-- if the directions differ, the cycle has only two cities
other_way : (a b c d : ℕ) (front back us vs : List ℕ) → HoldsOnce (front ++ back) →
    IsPath d front a → IsPath b back c → IsPath d us a → IsPath b vs c →
    IsRotation (front ++ back) (reverse (us ++ vs)) → SamePieces front back us vs
other_way a b c d front back us vs once pf pb pu pv h =
    let qu = IsPath-reverse pu in
    let qv = IsPath-reverse pv in
    let f1 : List ℕ = pf.1.0 in
    let start : IsRotation (a ∷ (back ++ f1)) (front ++ back) =
    record {
      front = a ∷ back;
      back = f1;
      before = refl;
      after = ap (λ v. v ++ back) pf.1.1 ∙ append_assoc f1 (a
          ∷ []) back;
    } in
    let last : IsRotation (reverse (us ++ vs)) (reverse us ++ reverse vs) =
    record { front = reverse vs; back = reverse us; before = reverse-append us vs; after = refl } in
    let once' : HoldsOnce (a ∷ (back ++ f1)) = HoldsOnce-cycle once (inl (IsRotation-sym start)) in
    let e : a ∷ (back ++ f1) ≡ reverse us ++ reverse vs =
    one_rotation a (a ∷ (back ++ f1)) (reverse us ++ reverse vs) (back ++ f1) (qu.0.0 ++ reverse vs) once'
    (IsRotation-trans start (IsRotation-trans h last)) refl (ap (λ v. v ++ reverse vs) qu.0.1) in
    let r1 : List ℕ = qu.0.0 in
    let r2 : List ℕ = qv.1.0 in
    let e2 : a ∷ (b ∷ (pb.0.0 ++ f1)) ≡ a ∷ ((r1 ++ r2) ++ b ∷ []) =
    ap (λ v. a ∷ (v ++ f1)) (sym pb.0.1) ∙ e ∙ ap (λ v. v ++ reverse vs) qu.0.1 ∙ ap (λ v. a ∷ (r1 ++ v)) qv.1.1
    ∙ ap (λ v. a ∷ v) (sym (append_assoc r1 r2 (b ∷ []))) in
    let e3 : b ∷ (pb.0.0 ++ f1) ≡ (r1 ++ r2) ++ b ∷ [] = cc in
    let o2 : occurrences b (a ∷ (b ∷ (pb.0.0 ++ f1))) ≤ 1 = rw (ap (λ v. a ∷ (v ++ f1)) (sym pb.0.1)) (once' b) in
    let o3 : occurrences b (b ∷ (pb.0.0 ++ f1)) ≤ 1 =
    omega (arith, o2, occurrences-append b (a ∷ []) (b ∷ (pb.0.0 ++ f1))) in
    let k = one_place b [] (pb.0.0 ++ f1) (r1 ++ r2) [] o3 e3 in
    let k1 = nil_parts r1 r2 k.0 in
    let k2 = nil_parts pb.0.0 f1 (sym k.1) in
    let eu : us ≡ a ∷ [] = sym (reverse-reverse us) ∙ ap reverse (qu.0.1 ∙ ap (λ v. a ∷ v) k1.0) in
    let ev : vs ≡ b ∷ [] = sym (reverse-reverse vs) ∙ ap reverse (qv.1.1 ∙ ap (λ v. v ++ b ∷ []) k1.1) in
    (eu ∙ sym (pf.1.1 ∙ ap (λ v. v ++ a ∷ []) k2.1), ev ∙ sym (pb.0.1 ∙ ap (λ v. b ∷ v) k2.0))

-- a cycle is cut at two edges in only one way
pub same_pieces : (a b c d : ℕ) (front back us vs : List ℕ) → HoldsOnce (front ++ back) →
    IsPath d front a → IsPath b back c → IsPath d us a → IsPath b vs c →
    SameCycle (front ++ back) (us ++ vs) → SamePieces front back us vs
same_pieces a b c d front back us vs once pf pb pu pv h =
    ⊎_elim (same_way a b c d front back us vs once pf pb pu pv) (other_way a b c d front back us vs once pf pb pu pv) h

-- therefore, one cut is enough to know the result of a flip
pub ReplacesSteps-from_cut : (a b c d : ℕ) (old new front back : List ℕ) → HoldsOnce old →
    IsPath d front a → IsPath b back c → SameCycle old (front ++ back) → SameCycle new (front ++ reverse back) →
    ReplacesSteps old new a b c d
ReplacesSteps-from_cut a b c d old new front back once pf pb h k = λ us vs pu pv g.
    let s =
    same_pieces a b c d front back us vs (HoldsOnce-cycle once h) pf pb pu pv
    (SameCycle-trans (SameCycle-sym h) g) in
    rw (s.0, s.1) k

-- the edges can be given in the other order, or with their ends exchanged
pub ReplacesSteps-turn : (a b c d : ℕ) (old new : List ℕ) → ReplacesSteps old new c d a b →
    ReplacesSteps old new a b c d
ReplacesSteps-turn a b c d old new f = λ us vs pu pv g.
    let k : SameCycle new (vs ++ reverse us) = f vs us pv pu (SameCycle-trans g (SameCycle-append us vs)) in
    SameCycle-trans k (SameCycle-trans (SameCycle-append vs (reverse us)) (SameCycle-sym (SameCycle-either_side us vs)))

pub ReplacesSteps-mirror : (a b c d : ℕ) (old new : List ℕ) → ReplacesSteps old new b a d c →
    ReplacesSteps old new a b c d
ReplacesSteps-mirror a b c d old new f = λ us vs pu pv g.
    let g2 : SameCycle (us ++ vs) (reverse vs ++ reverse us) =
    inr (record {
      front = us ++ vs;
      back = [];
      before = sym (append-nil (us ++ vs));
      after = ap reverse (sym (reverse-append us vs)) ∙ reverse-reverse (us ++ vs);
    }) in
    let k : SameCycle new (reverse vs ++ reverse (reverse us)) =
    f (reverse vs) (reverse us) (IsPath-reverse pv) (IsPath-reverse pu) (SameCycle-trans g g2) in
    SameCycle-trans (rw (reverse-reverse us) at k) (SameCycle-append (reverse vs) us)
