-- The four flips of a double bridge.
use Rattle.std.proofs.Common.{◌≡◌, ℕ, List, ◌++◌, ap}
use Rattle.std.specs.Prelude.{reverse}
use Rattle.std.proofs.lemmas.List.{append_assoc, reverse-append, reverse-reverse}
use Rattle.tk_tour.specs.Tour.{SameCycle, IsSizedTour}
use Rattle.tk_tour.specs.Moves.{ReplacesSteps, CanFlip, CutInFour}
use Rattle.tk_tour.proofs.Cycle.{turn, same, IsPath-append, IsPath-reverse}
use Rattle.tk_tour.proofs.CycleNeighbours.{CanFlip-from_cut}

ahead : (u : List ℕ) (a1 an b1 bn c1 cn d1 dn : ℕ) (k : CutInFour u a1 an b1 bn c1 cn d1 dn) →
    SameCycle u (k.a ++ (k.b ++ (k.c ++ k.d)))
ahead u a1 an b1 bn c1 cn d1 dn k =
    let e : k.a ++ k.b ++ k.c ++ k.d ≡ k.a ++ (k.b ++ (k.c ++ k.d)) = simp append_assoc in
    same u _ _ e k.cycle

pub after1 : (u t1 : List ℕ) (a1 an b1 bn c1 cn d1 dn : ℕ) (k : CutInFour u a1 an b1 bn c1 cn d1 dn) →
    ReplacesSteps u t1 an b1 dn a1 →
    SameCycle t1 (((reverse k.c ++ reverse k.b) ++ k.a) ++ reverse k.d)
after1 u t1 a1 an b1 bn c1 cn d1 dn k f =
    let h = ahead u a1 an b1 bn c1 cn d1 dn k in
    let f1 = f k.a (k.b ++ (k.c ++ k.d)) k.is_a (IsPath-append k.is_b (IsPath-append k.is_c k.is_d)) h in
    let e1 : k.a ++ reverse (k.b ++ (k.c ++ k.d)) ≡ (k.a ++ reverse k.d) ++ (reverse k.c ++ reverse k.b) =
    simp (reverse-append, append_assoc) in
    let e2 : (reverse k.c ++ reverse k.b) ++ (k.a ++ reverse k.d) ≡ ((reverse k.c ++ reverse k.b) ++ k.a)
    ++ reverse k.d = simp append_assoc in
    same t1 _ _ e2 (turn t1 (k.a ++ reverse k.d) (reverse k.c ++ reverse k.b) (same t1 _ _ e1 f1))

pub after2 : (u t1 t2 : List ℕ) (a1 an b1 bn c1 cn d1 dn : ℕ) (k : CutInFour u a1 an b1 bn c1 cn d1 dn) →
    SameCycle t1 (((reverse k.c ++ reverse k.b) ++ k.a) ++ reverse k.d) → ReplacesSteps t1 t2 an dn d1 cn →
    SameCycle t2 (((reverse k.b ++ k.a) ++ k.d) ++ reverse k.c)
after2 u t1 t2 a1 an b1 bn c1 cn d1 dn k h f =
    let f2 =
    f ((reverse k.c ++ reverse k.b) ++ k.a) (reverse k.d)
    (IsPath-append (IsPath-append (IsPath-reverse k.is_c) (IsPath-reverse k.is_b)) k.is_a)
    (IsPath-reverse k.is_d) h in
    let e1 : ((reverse k.c ++ reverse k.b) ++ k.a) ++ reverse (reverse k.d) ≡ reverse k.c
    ++ ((reverse k.b ++ k.a) ++ k.d) =
    simp (reverse-reverse, append_assoc) in
    turn t2 (reverse k.c) ((reverse k.b ++ k.a) ++ k.d) (same t2 _ _ e1 f2)

pub after3 : (u t2 t3 : List ℕ) (a1 an b1 bn c1 cn d1 dn : ℕ) (k : CutInFour u a1 an b1 bn c1 cn d1 dn) →
    SameCycle t2 (((reverse k.b ++ k.a) ++ k.d) ++ reverse k.c) → ReplacesSteps t2 t3 dn cn c1 bn →
    SameCycle t3 (((k.a ++ k.d) ++ k.c) ++ reverse k.b)
after3 u t2 t3 a1 an b1 bn c1 cn d1 dn k h f =
    let f3 =
    f ((reverse k.b ++ k.a) ++ k.d) (reverse k.c)
    (IsPath-append (IsPath-append (IsPath-reverse k.is_b) k.is_a) k.is_d) (IsPath-reverse k.is_c) h in
    let e1 : ((reverse k.b ++ k.a) ++ k.d) ++ reverse (reverse k.c) ≡ reverse k.b ++ ((k.a ++ k.d) ++ k.c) =
    simp (reverse-reverse, append_assoc) in
    turn t3 (reverse k.b) ((k.a ++ k.d) ++ k.c) (same t3 _ _ e1 f3)

pub after4 : (u t3 t4 : List ℕ) (a1 an b1 bn c1 cn d1 dn : ℕ) (k : CutInFour u a1 an b1 bn c1 cn d1 dn) →
    SameCycle t3 (((k.a ++ k.d) ++ k.c) ++ reverse k.b) → ReplacesSteps t3 t4 cn bn b1 a1 →
    SameCycle t4 (k.a ++ k.d ++ k.c ++ k.b)
after4 u t3 t4 a1 an b1 bn c1 cn d1 dn k h f =
    let f4 = f ((k.a ++ k.d) ++ k.c) (reverse k.b) (IsPath-append (IsPath-append k.is_a k.is_d) k.is_c)
    (IsPath-reverse k.is_b) h in
    let e1 : ((k.a ++ k.d) ++ k.c) ++ reverse (reverse k.b) ≡ k.a ++ k.d ++ k.c ++ k.b =
    ap (λ v. ((k.a ++ k.d) ++ k.c) ++ v) (reverse-reverse k.b) in
    same t4 _ _ e1 f4

pub can1 : (u : List ℕ) (a1 an b1 bn c1 cn d1 dn : ℕ) (k : CutInFour u a1 an b1 bn c1 cn d1 dn) → IsSizedTour u →
    CanFlip u an b1 dn a1
can1 u a1 an b1 bn c1 cn d1 dn k s =
    CanFlip-from_cut u k.a (k.b ++ (k.c ++ k.d)) an b1 dn a1 s.2 k.is_a
    (IsPath-append k.is_b (IsPath-append k.is_c k.is_d)) (ahead u a1 an b1 bn c1 cn d1 dn k)

pub can2 : (u t : List ℕ) (a1 an b1 bn c1 cn d1 dn : ℕ) (k : CutInFour u a1 an b1 bn c1 cn d1 dn) → IsSizedTour t →
    SameCycle t (((reverse k.c ++ reverse k.b) ++ k.a) ++ reverse k.d) → CanFlip t an dn d1 cn
can2 u t a1 an b1 bn c1 cn d1 dn k s h =
    CanFlip-from_cut t ((reverse k.c ++ reverse k.b) ++ k.a) (reverse k.d) an dn d1 cn s.2
    (IsPath-append (IsPath-append (IsPath-reverse k.is_c) (IsPath-reverse k.is_b)) k.is_a) (IsPath-reverse k.is_d) h

pub can3 : (u t : List ℕ) (a1 an b1 bn c1 cn d1 dn : ℕ) (k : CutInFour u a1 an b1 bn c1 cn d1 dn) → IsSizedTour t →
    SameCycle t (((reverse k.b ++ k.a) ++ k.d) ++ reverse k.c) → CanFlip t dn cn c1 bn
can3 u t a1 an b1 bn c1 cn d1 dn k s h =
    CanFlip-from_cut t ((reverse k.b ++ k.a) ++ k.d) (reverse k.c) dn cn c1 bn s.2
    (IsPath-append (IsPath-append (IsPath-reverse k.is_b) k.is_a) k.is_d) (IsPath-reverse k.is_c) h

pub can4 : (u t : List ℕ) (a1 an b1 bn c1 cn d1 dn : ℕ) (k : CutInFour u a1 an b1 bn c1 cn d1 dn) → IsSizedTour t →
    SameCycle t (((k.a ++ k.d) ++ k.c) ++ reverse k.b) → CanFlip t cn bn b1 a1
can4 u t a1 an b1 bn c1 cn d1 dn k s h =
    CanFlip-from_cut t ((k.a ++ k.d) ++ k.c) (reverse k.b) cn bn b1 a1 s.2
    (IsPath-append (IsPath-append k.is_a k.is_d) k.is_c) (IsPath-reverse k.is_b) h
