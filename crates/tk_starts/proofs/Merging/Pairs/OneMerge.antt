-- What the distances and the near lists determine of the savings merges.
use Rattle.std.proofs.Common.{◌≡◌, ℕ, ◌+◌, ◌<◌, true, List, [], ◌∷◌, length, map, get_or, refl, sym, ◌∙◌, arith}
use Rattle.std.proofs.Common.{subst}
use Rattle.std.specs.List.{AllPairs, Contains}
use Rattle.tk_distance.specs.Holding.{holds}
use Rattle.tk_starts.specs.Joints.{joints, IsPartPath, first_of, ArePartPaths}
use Rattle.tk_starts.specs.SavingPairs.{Before}
use Rattle.tk_starts.specs.SavingsMerges.{PairsAgree, ListsAgree}
use Rattle.tk_starts.specs.declared.merges.pairs.Pair.{Pair}
use Rattle.std.proofs.lemmas.List.{get_or-map, get_or_default, length-map}
use Rattle.std.proofs.lemmas.List.Kept.{AllPairs-from_increasing}
use Rattle.tk_starts.proofs.Merging.Parts.HubApart.{all_within}
use Rattle.tk_starts.proofs.Merging.Paths.NeighbourArrays.{HasArrays, HasArrays-joints}
use Rattle.tk_starts.proofs.Merging.Paths.OnePath.{one_path}
use Rattle.tk_starts.proofs.Merging.Lists.OrderedLists.{same_ordered}
use Rattle.tk_starts.proofs.Merging.Paths.PathLists.{holds-here}

Before-one_way : (p q : Pair) → Before p q → Before q p → ⊥
Before-one_way p q h k = omega arith

pub pairs_agree : PairsAgree
pairs_agree dist near n hub xs ys f g =
    same_ordered Before Before-one_way xs ys f.order g.order
    (λ p. (λ k. (g.all p).1 ((f.all p).0 k), λ k. (f.all p).1 ((g.all p).0 k)))

-- the first city of each list is below those of all later ones
abbrev Rises : List ℕ → List ℕ → Type 0
Rises xs ys = first_of xs < first_of ys

lists_rise : (lists : List (List ℕ)) →
    ((k : ℕ) → k + 1 < length lists → first_of (get_or lists k []) < first_of (get_or lists (k + 1) [])) →
    AllPairs Rises lists
lists_rise lists h i j d l m =
    let long = length-map lists first_of in
    let at : (k : ℕ) (d : List ℕ) → k < length lists → get_or (map first_of lists) k 0 ≡ first_of (get_or lists k d) =
    λ k d w. get_or-map first_of lists k d 0 w in
    let s =
    AllPairs-from_increasing (map first_of lists)
    (λ k w. omega (
      arith,
      h k (omega (arith, long, w)),
      at k [] (omega (arith, long, w)),
      at (k + 1) [] (omega (arith, long, w)),
    )) i j 0 l (omega (arith, long, m)) in
    omega (arith, s, at i d (omega (arith, l, m)), at j d m)

holds-first : (E : List Pair) (xs : List ℕ) → IsPartPath E xs → holds xs (first_of xs) ≡ true
unfolding IsPartPath first_of
holds-first E [] h = absurd h
holds-first E (a ∷ xs) h = holds-here a xs

-- a list of the one is a list of the other
held_too : (n hub : ℕ) (load : ℕ → ℕ) (E : List Pair) → HasArrays n load E → (lists others : List (List ℕ)) →
    ArePartPaths n hub E lists → ArePartPaths n hub E others →
    (xs : List ℕ) → Contains lists xs → Contains others xs
held_too n hub load E arrays lists others a b xs (k, l, e) =
    let p = a.paths k [] l in
    let c = first_of (get_or lists k []) in
    let h = holds-first E (get_or lists k []) p in
    let (i, t, u) = (b.cities c).1 ((a.cities c).0 (k, l, h)) in
    let same : get_or lists k [] ≡ get_or others i [] =
    one_path n load E arrays _ _ p (b.paths i [] t) c h u (λ d w. ((a.cities d).0 (k, l, w)).0)
    (λ d w. ((b.cities d).0 (i, t, w)).0) in
    (i, t, get_or_default others i xs [] t ∙ (sym same ∙ (get_or_default lists k [] xs l ∙ e)))

pub lists_agree : ListsAgree
lists_agree dist near n hub load capacity lists others s t =
    let E = joints load n capacity [] s.0 in
    let a = s.1.1 in
    let same : t.0 ≡ s.0 = pairs_agree dist near n hub t.0 s.0 t.1.0 s.1.0 in
    let b : ArePartPaths n hub E others =
    subst (λ (x : List Pair). ArePartPaths n hub (joints load n capacity [] x) others) same t.1.1 in
    let arrays = HasArrays-joints n load capacity s.0 (all_within dist near n hub n s.0 refl s.1.0) in
    same_ordered Rises (λ xs ys h k. omega (arith, h, k)) lists others (lists_rise lists a.order)
    (lists_rise others b.order)
    (λ xs. (held_too n hub load E arrays lists others a b xs, held_too n hub load E arrays others lists b a xs))
