-- The two or three flips of an Or-opt move. If s, p and q are the three parts of the cycle, s ++ p ++ q becomes
-- p ++ reverse s ++ q by two of them, and p ++ s ++ q by a third.
use Rattle.std.proofs.Common.{◌≡◌, ◌⊎◌, ℕ, List, ◌++◌, sym, ap, ◌∙◌, inl, inr, length, arith}
use Rattle.std.specs.Prelude.{reverse}
use Rattle.std.proofs.lemmas.List.{append_assoc, reverse-append, reverse-reverse}
use Rattle.tk_tour.specs.Tour.{SameCycle, IsPath, IsSizedTour}
use Rattle.tk_tour.specs.Moves.{ReplacesSteps, CanFlip, CutInThree, OrMove, TwoOptMove}
use Rattle.tk_tour.proofs.Cycle.{IsRotation-refl, turn, same, IsPath-append, IsPath-reverse}
use Rattle.tk_tour.proofs.CycleNeighbours.{CanFlip-from_cut}

itself : (xs : List ℕ) → SameCycle xs xs
itself xs = inl (IsRotation-refl xs)

module _ {old : List ℕ} {a x e b c d : ℕ} (k : CutInThree old a x e b c d) where
  -- the path that the first flip reverses, and those that the second and the third keep
  both : IsPath x (k.segment ++ k.ahead) c
  both = IsPath-append k.is_segment k.is_ahead

  turned_rest : IsPath e (reverse k.segment ++ k.rest) a
  turned_rest = IsPath-append (IsPath-reverse k.is_segment) k.is_rest

  rest_ahead : IsPath d (k.rest ++ k.ahead) c
  rest_ahead = IsPath-append k.is_rest k.is_ahead

  -- first, the segment and the path ahead of it are reversed together
  begun : SameCycle old (k.rest ++ (k.segment ++ k.ahead))
  begun = turn old (k.segment ++ k.ahead) k.rest k.cycle

  pub first_cut : IsSizedTour old → CanFlip old a x c d
  first_cut tour = CanFlip-from_cut old k.rest (k.segment ++ k.ahead) a x c d tour.2 k.is_rest both begun

  first_after : (t : List ℕ) → SameCycle t (k.rest ++ reverse (k.segment ++ k.ahead)) →
      SameCycle t ((reverse k.segment ++ k.rest) ++ reverse k.ahead)
  first_after t h =
      let eq : k.rest ++ reverse (k.segment ++ k.ahead) ≡ (k.rest ++ reverse k.ahead) ++ reverse k.segment =
      ap (λ v. k.rest ++ v) (reverse-append k.segment k.ahead)
      ∙ sym (append_assoc k.rest (reverse k.ahead) (reverse k.segment)) in
      same t _ _ (sym (append_assoc (reverse k.segment) k.rest (reverse k.ahead)))
      (turn t (k.rest ++ reverse k.ahead) (reverse k.segment) (same t _ _ eq h))

  pub first_flip : (t : List ℕ) → ReplacesSteps old t a x c d →
      SameCycle t ((reverse k.segment ++ k.rest) ++ reverse k.ahead)
  first_flip t f = first_after t (f k.rest (k.segment ++ k.ahead) k.is_rest both begun)

  -- then, the path is reversed back
  pub second_cut : (t : List ℕ) → IsSizedTour t → SameCycle t ((reverse k.segment ++ k.rest) ++ reverse k.ahead) →
      CanFlip t a c b e
  second_cut t tour h =
      CanFlip-from_cut t (reverse k.segment ++ k.rest) (reverse k.ahead) a c b e tour.2 turned_rest
      (IsPath-reverse k.is_ahead) h

  pub second_flip : (t new : List ℕ) → SameCycle t ((reverse k.segment ++ k.rest) ++ reverse k.ahead) →
      ReplacesSteps t new a c b e → SameCycle new (k.ahead ++ reverse k.segment ++ k.rest)
  second_flip t new h f =
      let h' = f (reverse k.segment ++ k.rest) (reverse k.ahead) turned_rest (IsPath-reverse k.is_ahead) h in
      let eq : (reverse k.segment ++ k.rest) ++ reverse (reverse k.ahead) ≡ (reverse k.segment ++ k.rest) ++ k.ahead =
      ap (λ v. (reverse k.segment ++ k.rest) ++ v) (reverse-reverse k.ahead) in
      same new _ _ (sym (append_assoc k.ahead (reverse k.segment) k.rest))
      (turn new (reverse k.segment ++ k.rest) k.ahead (same new _ _ eq h'))

  -- last, the segment is reversed back
  between : (t : List ℕ) → SameCycle t (k.ahead ++ reverse k.segment ++ k.rest) →
      SameCycle t ((k.rest ++ k.ahead) ++ reverse k.segment)
  between t h =
      same t _ _ (sym (append_assoc k.rest k.ahead (reverse k.segment)))
      (turn t (k.ahead ++ reverse k.segment) k.rest h)

  pub third_cut : (t : List ℕ) → IsSizedTour t → SameCycle t (k.ahead ++ reverse k.segment ++ k.rest) →
      CanFlip t c e x d
  third_cut t tour h =
      CanFlip-from_cut t (k.rest ++ k.ahead) (reverse k.segment) c e x d tour.2 rest_ahead
      (IsPath-reverse k.is_segment) (between t h)

  pub third_flip : (t new : List ℕ) → SameCycle t (k.ahead ++ reverse k.segment ++ k.rest) →
      ReplacesSteps t new c e x d → SameCycle new (k.ahead ++ k.segment ++ k.rest)
  third_flip t new h f =
      let h' = f (k.rest ++ k.ahead) (reverse k.segment) rest_ahead (IsPath-reverse k.is_segment) (between t h) in
      let eq : (k.rest ++ k.ahead) ++ reverse (reverse k.segment) ≡ k.rest ++ (k.ahead ++ k.segment) =
      ap (λ v. (k.rest ++ k.ahead) ++ v) (reverse-reverse k.segment) ∙ append_assoc k.rest k.ahead k.segment in
      turn new k.rest (k.ahead ++ k.segment) (same new _ _ eq h')

  -- a segment that lies between y and w has moved
  moved : (new : List ℕ) (y w : ℕ) →
      (IsPath b k.ahead y × IsPath w k.rest a × SameCycle new (k.ahead ++ k.segment ++ k.rest))
      ⊎ (IsPath b k.ahead w × IsPath y k.rest a × SameCycle new (k.ahead ++ reverse k.segment ++ k.rest)) →
      OrMove (length k.segment) old new a x e b y w
  moved new y w after = record {
    segment = k.segment;
    ahead = k.ahead;
    rest = k.rest;
    short = omega arith;
    is_segment = k.is_segment;
    before = k.cycle;
    after = after;
  }

  pub OrMove-reversed : (new : List ℕ) → SameCycle new (k.ahead ++ reverse k.segment ++ k.rest) →
      OrMove (length k.segment) old new a x e b d c
  OrMove-reversed new h = moved new d c (inr (k.is_ahead, k.is_rest, h))

  pub OrMove-straight : (new : List ℕ) → SameCycle new (k.ahead ++ k.segment ++ k.rest) →
      OrMove (length k.segment) old new a x e b c d
  OrMove-straight new h = moved new c d (inl (k.is_ahead, k.is_rest, h))

  -- these three flips as 2-opt moves of lists
  pub turns_both : TwoOptMove old (k.rest ++ reverse (k.segment ++ k.ahead)) a x c d
  turns_both = record {
    kept = k.rest;
    turned = k.segment ++ k.ahead;
    is_kept = k.is_rest;
    is_turned = both;
    before = begun;
    after = itself (k.rest ++ reverse (k.segment ++ k.ahead));
  }

  pub turns_path_back : TwoOptMove (k.rest ++ reverse (k.segment ++ k.ahead))
      (k.ahead ++ reverse k.segment ++ k.rest) a c b e
  turns_path_back =
      let new : List ℕ = k.ahead ++ reverse k.segment ++ k.rest in
      record {
        kept = reverse k.segment ++ k.rest;
        turned = reverse k.ahead;
        is_kept = turned_rest;
        is_turned = IsPath-reverse k.is_ahead;
        before = first_after _ (itself (k.rest ++ reverse (k.segment ++ k.ahead)));
        after = same new _ _ (ap (λ v. (reverse k.segment ++ k.rest) ++ v) (sym (reverse-reverse k.ahead)))
            (turn new k.ahead (reverse k.segment ++ k.rest)
            (same new _ _ (append_assoc k.ahead (reverse k.segment) k.rest) (itself new)));
      }

  pub turns_segment_back : TwoOptMove (k.ahead ++ reverse k.segment ++ k.rest) (k.ahead ++ k.segment ++ k.rest) c e x d
  turns_segment_back =
      let new : List ℕ = k.ahead ++ k.segment ++ k.rest in
      let eq : k.rest ++ (k.ahead ++ k.segment) ≡ (k.rest ++ k.ahead) ++ reverse (reverse k.segment) =
      sym (append_assoc k.rest k.ahead k.segment)
      ∙ ap (λ v. (k.rest ++ k.ahead) ++ v) (sym (reverse-reverse k.segment)) in
      record {
        kept = k.rest ++ k.ahead;
        turned = reverse k.segment;
        is_kept = rest_ahead;
        is_turned = IsPath-reverse k.is_segment;
        before = between _ (itself (k.ahead ++ reverse k.segment ++ k.rest));
        after = same new _ _ eq (turn new (k.ahead ++ k.segment) k.rest (itself new));
      }
