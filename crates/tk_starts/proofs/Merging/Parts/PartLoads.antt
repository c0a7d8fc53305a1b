-- No part is over the capacity.
use Rattle.std.proofs.Common.{◌≡◌, ◌≢◌, ℕ, ◌+◌, ◌≤◌, true, eqb, List, [], ◌∷◌, sym, ap, arith, ⊎_elim, subst}
use Rattle.std.proofs.lemmas.Bool.{eq-eqb, both_ways, cases_eq, and_parts, not-true, leb-true}
use Rattle.tk_distance.specs.Cities.{IsCity}
use Rattle.tk_starts.specs.Joints.{part, part_load, may_join, joints}
use Rattle.tk_starts.specs.declared.merges.pairs.Pair.{Pair}
use Rattle.tk_starts.proofs.Merging.Parts.PartsJoined.{part-second, part-other, part-first, part_load-joined}
use Rattle.tk_starts.proofs.Merging.Parts.PartsJoined.{part_load-stays}
use Rattle.tk_starts.proofs.Merging.Pairs.PairsMerged.{joints_keep, part_load-single, part-none}

-- the parts of the cities but the hub are within the capacity
abbrev pub AreWithin : (ℕ → ℕ) → ℕ → ℕ → ℕ → List Pair → Type 0
AreWithin load n hub capacity E = (c : ℕ) → IsCity n c → c ≢ hub → part_load load E n (part E c) ≤ capacity

within_joined : (load : ℕ → ℕ) (n hub capacity : ℕ) (E : List Pair) (p : Pair) → may_join load n capacity E p ≡ true →
    AreWithin load n hub capacity E → AreWithin load n hub capacity (p ∷ E)
unfolding may_join
within_joined load n hub capacity E p h w c r ne =
    let a = and_parts _ _ h in
    let b = and_parts _ _ a.0 in
    let apart : part E p.i ≢ part E p.j =
    λ e. both_ways (eqb (part E p.i) (part E p.j)) (not-true _ b.1) (eq-eqb _ _ e) in
    let fits : part_load load (p ∷ E) n (part E p.i) ≤ capacity =
    omega (
      arith,
      part_load-joined load E p n apart,
      leb-true (part_load load E n (part E p.i) + part_load load E n (part E p.j)) capacity a.1,
    ) in
    let P : ℕ → Type 0 = λ x. part_load load (p ∷ E) n x ≤ capacity in
    ⊎_elim
    (λ (k : part E c ≡ part E p.j). subst P (sym (part-second E p c k)) fits)
    (λ (nj : part E c ≢ part E p.j). ⊎_elim
    (λ (k : part E c ≡ part E p.i). subst P (sym (part-first E p c apart k)) fits)
    (λ (ni : part E c ≢ part E p.i). subst P (sym (part-other E p c nj))
    (omega (arith, part_load-stays load E p n (part E c) ni nj, w c r ne)))
    (cases_eq (part E c) (part E p.i)))
    (cases_eq (part E c) (part E p.j))

pub parts_within : (load : ℕ → ℕ) (n hub capacity : ℕ) (pairs : List Pair) →
    ((c : ℕ) → IsCity n c → c ≢ hub → load c ≤ capacity) →
    AreWithin load n hub capacity (joints load n capacity [] pairs)
parts_within load n hub capacity pairs h =
    joints_keep (AreWithin load n hub capacity) load n capacity pairs []
    (λ p E _ h w. within_joined load n hub capacity E p h w)
    (λ c r ne. omega (arith, h c r ne, ap (part_load load [] n) (part-none c), part_load-single load n c r.0 r.1))
