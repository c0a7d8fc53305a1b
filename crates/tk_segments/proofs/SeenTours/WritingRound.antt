-- A list that is written from position `begin` on, and past its end from its start.
use Rattle.std.proofs.Common.{◌≡◌, ℕ, ◌+◌, ◌-◌, ◌≤◌, List, ◌++◌, length, take, drop, take-add, sym, ap, ◌∙◌, arith}
use Rattle.std.proofs.lemmas.List.{append_assoc, length-append, length-take-le, length-drop, drop-drop}
use Rattle.std.proofs.lemmas.List.{take-append-drop, take-append-le, drop-append-le, take_at, drop_at}
use Rattle.std.proofs.Math.Seq.{take-append-add, drop-append-add}
use Rattle.tk_tour.specs.Reversal.{begun_at}

-- a list after a part of it is overwritten
abbrev pub put_in : ℕ → List ℕ → List ℕ → List ℕ
put_in at part list = take at list ++ (part ++ drop (at + length part) list)

-- a part that is written before position `begin`
pub written_before : (n begin at : ℕ) (list part new : List ℕ) → length list ≡ n → begin ≤ n →
    at + length part ≤ begin →
    new ≡ put_in (at + (n - begin)) part list → begun_at (n - begin) new ≡ put_in at part (begun_at (n - begin) list)
written_before n begin at list part new l lb le h =
    let m : ℕ = n - begin in
    let x : ℕ = length part in
    let P : List ℕ = take m list in
    let Q : List ℕ = drop m list in
    let lp : length P ≡ m = length-take-le m list (omega (arith, l)) in
    let lq : length Q ≡ begin = omega (arith, length-drop m list, l, lb) in
    let a1 : at + m ≡ m + at = omega arith in
    let a2 : at + m + x ≡ m + (at + x) = omega arith in
    let rest : List ℕ = take at Q ++ (part ++ drop (at + x) Q) in
    let is : new ≡ P ++ rest =
    h ∙ ap (λ u. u ++ (part ++ drop (at + m + x) list)) (ap (λ u. take u list) a1 ∙ take-add m at list)
    ∙ ap (λ u. (P ++ take at Q) ++ (part ++ u)) (ap (λ u. drop u list) a2 ∙ sym (drop-drop (at + x) m list))
    ∙ append_assoc P (take at Q) (part ++ drop (at + x) Q) in
    ap (begun_at m) is
    ∙ ap (λ u. u ++ take m (P ++ rest)) (drop_at P rest m lp)
    ∙ ap (λ u. rest ++ u) (take_at P rest m lp)
    ∙ append_assoc (take at Q) (part ++ drop (at + x) Q) P
    ∙ ap (λ u. take at Q ++ u) (append_assoc part (drop (at + x) Q) P)
    ∙ ap (λ u. u ++ (part ++ (drop (at + x) Q ++ P))) (sym (take-append-le at Q P (omega (arith, lq, le))))
    ∙ ap (λ u. take at (Q ++ P) ++ (part ++ u)) (sym (drop-append-le (at + x) Q P (omega (arith, lq, le))))

-- a part that is written after it
pub written_after : (n begin at : ℕ) (list part new : List ℕ) → length list ≡ n → begin ≤ at → at + length part ≤ n →
    new ≡ put_in (at - begin) part list → begun_at (n - begin) new ≡ put_in at part (begun_at (n - begin) list)
written_after n begin at list part new l le fits h =
    let m : ℕ = n - begin in
    let e : ℕ = at - begin in
    let x : ℕ = length part in
    let P : List ℕ = take m list in
    let Q : List ℕ = drop m list in
    let lp : length P ≡ m = length-take-le m list (omega (arith, l)) in
    let lq : length Q ≡ begin = omega (arith, length-drop m list, l, le, fits) in
    let whole : list ≡ P ++ Q = sym (take-append-drop m list) in
    let rest : List ℕ = take e P ++ (part ++ drop (e + x) P) in
    let lr : length rest ≡ m =
    omega (
      arith,
      length-append (take e P) (part ++ drop (e + x) P),
      length-append part (drop (e + x) P),
      length-take-le e P (omega (arith, lp, le, fits)),
      length-drop (e + x) P,
      lp,
      le,
      fits,
    ) in
    let is : new ≡ rest ++ Q =
    h ∙ ap (λ u. take e u ++ (part ++ drop (e + x) u)) whole
    ∙ ap (λ u. u ++ (part ++ drop (e + x) (P ++ Q))) (take-append-le e P Q (omega (arith, lp, le, fits)))
    ∙ ap (λ u. take e P ++ (part ++ u)) (drop-append-le (e + x) P Q (omega (arith, lp, le, fits)))
    ∙ ap (λ u. take e P ++ u) (sym (append_assoc part (drop (e + x) P) Q))
    ∙ sym (append_assoc (take e P) (part ++ drop (e + x) P) Q) in
    let a1 : length Q + e ≡ at = omega (arith, lq, le) in
    let a2 : length Q + (e + x) ≡ at + x = omega (arith, lq, le) in
    ap (begun_at m) is
    ∙ ap (λ u. u ++ take m (rest ++ Q)) (drop_at rest Q m lr)
    ∙ ap (λ u. Q ++ u) (take_at rest Q m lr)
    ∙ sym (append_assoc Q (take e P) (part ++ drop (e + x) P))
    ∙ ap (λ u. u ++ (part ++ drop (e + x) P)) (sym (take-append-add Q P e) ∙ ap (λ u. take u (Q ++ P)) a1)
    ∙ ap (λ u. take at (Q ++ P) ++ (part ++ u)) (sym (drop-append-add Q P (e + x)) ∙ ap (λ u. drop u (Q ++ P)) a2)

-- two parts that are written one after another
pub written_both : (at : ℕ) (list one two mid new : List ℕ) → at + length one ≤ length list → mid ≡ put_in at one list →
    new ≡ put_in (at + length one) two mid →
    new ≡ put_in at (one ++ two) list
written_both at list one two mid new fits f g =
    let d : ℕ = length one in
    let x : ℕ = length two in
    let A : List ℕ = take at list in
    let C : List ℕ = drop (at + d) list in
    let l : length (A ++ one) ≡ at + d =
    omega (arith, length-append A one, length-take-le at list (omega (arith, fits))) in
    let is : mid ≡ (A ++ one) ++ C = f ∙ sym (append_assoc A one C) in
    let z : at + d + x ≡ length (A ++ one) + x = omega (arith, l) in
    let w : at + d + x ≡ at + length (one ++ two) = omega (arith, length-append one two) in
    g ∙ ap (λ u. take (at + d) u ++ (two ++ drop (at + d + x) u)) is
    ∙ ap (λ u. u ++ (two ++ drop (at + d + x) ((A ++ one) ++ C))) (take_at (A ++ one) C (at + d) l)
    ∙ ap (λ u. (A ++ one) ++ (two ++ u)) (ap (λ u. drop u ((A ++ one) ++ C)) z ∙ drop-append-add (A ++ one) C x
    ∙ drop-drop x (at + d) list ∙ ap (λ u. drop u list) w)
    ∙ append_assoc A one (two ++ drop (at + length (one ++ two)) list)
    ∙ ap (λ u. A ++ u) (sym (append_assoc one two (drop (at + length (one ++ two)) list)))
