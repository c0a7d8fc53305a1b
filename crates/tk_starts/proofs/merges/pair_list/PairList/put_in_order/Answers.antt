use Rattle.std.proofs.Common.{ℕ, List, map, subst, sym}
use Rattle.std.specs.List.{AllPairs, Contains}
use Rattle.std.specs.List.Sorted.{IsStrictlyIncreasing}
use Rattle.std.proofs.lemmas.List.Filters.{dedup_is}
use Rattle.std.proofs.lemmas.List.Kept.{Contains-dedup, Contains-dedup_nat, Contains-from_dedup}
use Rattle.std.proofs.lemmas.List.Kept.{IsStrictlySortedBy-dedup}
use Rattle.std.proofs.lemmas.List.Sorted.{Contains-permutation, IsPermutation-sym}
use Rattle.std.proofs.lemmas.Map.Keys.{Less-from_sorted, IsStrictlyIncreasing-dedup}
use Rattle.tk_starts.specs.contracts.merges.pairs.PairEq.TheImpl.Laws.{laws-law}
use Rattle.tk_starts.specs.contracts.merges.pairs.PairOrd.TheImpl.Laws.{total-law, matches_eq-law}
use Rattle.tk_starts.specs.PairKeys.{pair_at, IsKey, IsWide}
use Rattle.tk_starts.specs.SavingPairs.{Before}
use Rattle.tk_starts.specs.declared.merges.pairs.Pair.{Pair}
use Rattle.tk_starts.proofs.Merging.Pairs.KeyLists.{keys_rise, pairs_joined, wide_first, still_all, contains_mapped}
use Rattle.tk_starts.proofs.Merging.Pairs.KeyLists.{contains_both}
use Rattle.tk_starts.proofs.Merging.Pairs.PairsFound.{Before-from_less, same_pair}
use Rattle.tk_starts.proofs.merges.pair_list.PairList.put_in_order.Goals as goal

pub invariant_of-self : goal.invariant_of-self
invariant_of-self c =
    let is = dedup_is _ _ _ c.dedup.ensures.filtered in
    let keys_are = dedup_is _ _ _ c.dedup-2.ensures.filtered in (
      still_all IsWide c.self.inside.wide.items c.dedup.new.self.items
          (λ p h. Contains-permutation _ _ p (IsPermutation-sym _ _ c.sort_unstable.ensures.permutation)
          (Contains-from_dedup _ _ p (subst (λ (x : List Pair). Contains x p) is h)))
          c.self.invariant.0,
      still_all IsKey c.self.inside.keys.items c.dedup-2.new.self.items
          (λ k h. Contains-permutation _ _ k (IsPermutation-sym _ _ c.sort_unstable-2.ensures.permutation)
          (Contains-from_dedup _ _ k (subst (λ (x : List ℕ). Contains x k) keys_are h)))
          c.self.invariant.1,
    )

pub returns-clause-order : goal.returns-clause-order
returns-clause-order c =
    let is = dedup_is _ _ _ c.dedup.ensures.filtered in
    let keys_are = dedup_is _ _ _ c.dedup-2.ensures.filtered in
    let s = IsStrictlySortedBy-dedup total-law matches_eq-law c.sort_unstable.new.self.items
    c.sort_unstable.ensures.sorted in
    let wide =
    subst (λ (x : List Pair). AllPairs Before x) (sym is)
    (λ i j d l m. Before-from_less _ _ (Less-from_sorted _ _ i j d s l m)) in
    let rise =
    subst (λ (x : List ℕ). IsStrictlyIncreasing x) (sym keys_are)
    (IsStrictlyIncreasing-dedup _ c.sort_unstable-2.ensures.sorted) in
    pairs_joined Before c.dedup.new.self.items (map pair_at c.dedup-2.new.self.items) wide
    (keys_rise c.dedup-2.new.self.items (invariant_of-self c).1 rise)
    (wide_first c.dedup.new.self.items c.dedup-2.new.self.items (invariant_of-self c).0)

pub returns-clause-all : goal.returns-clause-all
returns-clause-all c p =
    let is = dedup_is _ _ _ c.dedup.ensures.filtered in
    let keys_are = dedup_is _ _ _ c.dedup-2.ensures.filtered in
    let moved = c.sort_unstable.ensures.permutation in
    let keys_moved = c.sort_unstable-2.ensures.permutation in
    rw (← c.self.view_is) (
      contains_both _ _ c.self.inside.wide.items (map pair_at c.self.inside.keys.items) p
          (λ h. Contains-permutation _ _ p (IsPermutation-sym _ _ moved)
          (Contains-from_dedup _ _ p (subst (λ (x : List Pair). Contains x p) is h)))
          (contains_mapped pair_at _ c.self.inside.keys.items
          (λ k h. Contains-permutation _ _ k (IsPermutation-sym _ _ keys_moved)
          (Contains-from_dedup _ _ k (subst (λ (x : List ℕ). Contains x k) keys_are h))) p),
      contains_both c.self.inside.wide.items (map pair_at c.self.inside.keys.items) c.dedup.new.self.items
          (map pair_at c.dedup-2.new.self.items) p
          (λ h. subst (λ (x : List Pair). Contains x p) (sym is)
          (Contains-dedup laws-law same_pair _ p (Contains-permutation _ _ p moved h)))
          (contains_mapped pair_at c.self.inside.keys.items c.dedup-2.new.self.items
          (λ k h. subst (λ (x : List ℕ). Contains x k) (sym keys_are)
          (Contains-dedup_nat _ k (Contains-permutation _ _ k keys_moved h))) p),
    )
