-- No joint touches the hub.
use Rattle.std.proofs.Common.{take, map, ◌≡◌, ℕ, ◌≤◌, List, [], ◌∷◌, length, get_or, refl, sym, ap, ◌∙◌}
use Rattle.std.proofs.Common.{arith, subst}
use Rattle.std.specs.List.{All, flat_map}
use Rattle.std.proofs.lemmas.List.Elements.{All-contains_itself}
use Rattle.tk_distance.specs.Cities.{IsCity}
use Rattle.tk_starts.specs.SavingPairs.{AreSavingPairs}
use Rattle.tk_starts.specs.Joints.{joints_at, joints, ArePartPaths}
use Rattle.tk_starts.specs.PathEnds.{IsPairWithin, AreJoined, load_of}
use Rattle.std.proofs.lemmas.List.{take_all}
use Rattle.std.proofs.lemmas.List.Folds.{flat_map-map}
use Rattle.tk_starts.specs.SavingsMerges.{AreSavingsLists}
use Rattle.tk_starts.specs.declared.merges.pairs.Pair.{Pair}
use Rattle.tk_starts.proofs.Merging.Pairs.PairsMerged.{joints_keep}
use Rattle.tk_starts.proofs.Merging.Paths.EndsJoined.{joints_at-no}

joints_at-none : (c : ℕ) → joints_at [] c ≡ 0
unfolding joints_at
joints_at-none c = refl

pub hub_apart : (dist : ℕ → ℕ → ℕ) (near : ℕ → List ℕ) (n hub : ℕ) (pairs : List Pair) (load : ℕ → ℕ) (capacity : ℕ) →
    AreSavingPairs dist near n hub pairs → joints_at (joints load n capacity [] pairs) hub ≡ 0
hub_apart dist near n hub pairs load capacity a =
    joints_keep (λ E. joints_at E hub ≡ 0) load n capacity pairs []
    (λ p E c _ k. let h = ((a.all p).0 c).0 in
    joints_at-no E p hub (λ e. h.first.1 (sym e)) (λ e. h.second.1 (sym e)) ∙ k)
    (joints_at-none hub)

pub all_within : (dist : ℕ → ℕ → ℕ) (near : ℕ → List ℕ) (n hub m : ℕ) (pairs : List Pair) → m ≡ n →
    AreSavingPairs dist near n hub pairs → All (IsPairWithin m) pairs
all_within dist near n hub m pairs e a k d l =
    let h = ((a.all _).0 (All-contains_itself pairs k d l)).0 in (
      subst (λ (x : ℕ). IsCity x (get_or pairs k d).i) (sym e) h.first.0,
      subst (λ (x : ℕ). IsCity x (get_or pairs k d).j) (sym e) h.second.0,
      λ w. omega (arith, w, h.rising),
    )

pub finished : (dist : ℕ → ℕ → ℕ) (near : ℕ → List ℕ) (n hub m k : ℕ) (pairs xs : List Pair) (load : ℕ → ℕ)
    (capacity : ℕ) (a b c d : List ℕ) (lists : List (List ℕ)) → m ≡ n → k ≡ n → xs ≡ pairs →
    AreSavingPairs dist near n hub pairs → AreJoined m load (joints load m capacity [] xs) a b c d →
    ((load : ℕ → ℕ) (E : List Pair) → AreJoined k load E a b c d → joints_at E hub ≡ 0 → ArePartPaths k hub E lists) →
    AreSavingsLists dist near n hub load capacity lists
finished dist near n hub m k pairs xs load capacity a b c d lists e f g h j r =
    let s = subst (λ (x : List Pair). AreJoined m load (joints load m capacity [] x) a b c d) g j in
    let t = subst (λ (x : ℕ). AreJoined x load (joints load x capacity [] pairs) a b c d) e s in
    let u = subst (λ (x : ℕ). AreJoined x load (joints load n capacity [] pairs) a b c d) (sym f) t in
    let v = subst (λ (x : ℕ). ArePartPaths x hub (joints load n capacity [] pairs) lists) f
    (r load _ u (hub_apart dist near n hub pairs load capacity h)) in
    (pairs, (h, v))

pub tour_made : {X : Type 0} (dist : ℕ → ℕ → ℕ) (near : ℕ → List ℕ) (n : ℕ) (loads none : List ℕ) (tour : List ℕ)
    (f : X → List ℕ) (items xs : List X) (k : ℕ) → loads ≡ none → items ≡ xs → length items ≤ k →
    AreSavingsLists dist near n 1 (load_of loads) 0 (map f xs) → tour ≡ 1 ∷ flat_map f (take k items) →
    (lists : List (List ℕ))
    × (AreSavingsLists dist near n 1 (load_of none) 0 lists × (tour ≡ 1 ∷ flat_map (λ (x : List ℕ). x) lists))
tour_made dist near n loads none tour f items xs k e g l h t =
    let same = subst (λ (x : List ℕ). AreSavingsLists dist near n 1 (load_of x) 0 (map f xs)) e h in
    let flat = ap (flat_map f) (take_all k items l ∙ g) ∙ sym (flat_map-map (λ (x : List ℕ). x) f xs) in
    (map f xs, (same, t ∙ ap (λ (x : List ℕ). 1 ∷ x) flat))
