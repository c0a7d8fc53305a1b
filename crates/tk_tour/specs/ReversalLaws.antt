-- Sequences of reversals.
use Rattle.std.proofs.Common.{◌≡◌, ℕ, ◌+◌, ◌*◌, ◌/◌, ◌<◌, ◌≤◌, List, length, sym, subst, arith}
use Rattle.tk_tour.specs.Reversal.{AreReversed, reversed_places}
use Rattle.tk_tour.specs.Reversal.AreReversed.{none, more}

counted : (old new : List ℕ) (flips swaps flips' swaps' : ℕ) → flips ≡ flips' → swaps ≡ swaps' →
    AreReversed old new flips swaps → AreReversed old new flips' swaps'
counted old new flips swaps flips' swaps' f s h =
    subst (λ (v : ℕ). AreReversed old new flips' v) s (subst (λ (v : ℕ). AreReversed old new v swaps) f h)

pub AreReversed-one : (xs ys : List ℕ) (k count : ℕ) → ys ≡ reversed_places k count xs → k < length xs →
    2 * count ≤ length xs →
    AreReversed xs ys 1 (count / 2)
AreReversed-one xs ys k count is first half =
    subst (λ (v : List ℕ). AreReversed xs v 1 (count / 2)) (sym is)
    (counted xs (reversed_places k count xs) (0 + 1) (0 + count / 2) 1 (count / 2) (omega arith) (omega arith)
    (more k count none first half))

-- the reversals from one list to a second, and from there to a third
pub AreReversed-append : (xs ys zs : List ℕ) (f s g t : ℕ) → AreReversed xs ys f s → AreReversed ys zs g t →
    AreReversed xs zs (f + g) (s + t)
AreReversed-append xs ys _ f s _ _ h none = counted xs ys f s (f + 0) (s + 0) (omega arith) (omega arith) h
AreReversed-append xs ys _ f s _ _ h (more {new} {flips} {swaps} k count before first half) =
    counted xs (reversed_places k count new) (f + flips + 1) (s + swaps + count / 2) (f + (flips + 1))
    (s + (swaps + count / 2))
    (omega arith) (omega arith) (more k count (AreReversed-append xs ys new f s flips swaps h before) first half)
