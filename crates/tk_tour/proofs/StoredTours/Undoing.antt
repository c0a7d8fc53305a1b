-- A journal with one more flip, or with one fewer.
use Rattle.std.proofs.Common.{◌≡◌, ℕ, ◌+◌, ◌-◌, ◌*◌, ◌/◌, ◌<◌, ◌≤◌, Some, List, [], ◌∷◌, ◌++◌, length, refl, ap, ◌∙◌}
use Rattle.std.proofs.Common.{⊎_elim, arith}
use Rattle.std.proofs.lemmas.Bool.{cases_lt}
use Rattle.std.proofs.lemmas.List.Elements.{All-push, All-pop, All-same}
use Rattle.std.proofs.lemmas.List.Sums.{sum_by-append}
use Rattle.tk_tour.specs.Reversal.{reversed_places}
use Rattle.tk_tour.specs.Journal.{undone, swaps_to_undo, AreFlipsOf}
use Rattle.tk_tour.specs.declared.store.Flip.{Flip}
use Rattle.tk_tour.proofs.StoredTours.Places.{reversed_places-twice}

pub undone_push : (fs : List Flip) (f : Flip) (order : List ℕ) →
    undone (fs ++ f ∷ []) order ≡ undone fs (reversed_places (f.first - 1) f.count order)
undone_push [] f order = refl
undone_push (g ∷ fs) f order = ap (λ v. reversed_places (g.first - 1) g.count v) (undone_push fs f order)

-- recording a flip leaves the order before the flips unchanged
pub undone_flip : (fs : List Flip) (f : Flip) (old new : List ℕ) → new ≡ reversed_places (f.first - 1) f.count old →
    f.first - 1 ≤ length old → f.count ≤ length old → undone (fs ++ f ∷ []) new ≡ undone fs old
undone_flip fs f old new e l k =
    undone_push fs f new ∙ ap (λ v. undone fs (reversed_places (f.first - 1) f.count v)) e
    ∙ ap (undone fs) (reversed_places-twice (f.first - 1) f.count old l k)

pub swaps_to_undo-push : (fs gs : List Flip) (f : Flip) → gs ≡ fs ++ f ∷ [] →
    swaps_to_undo gs ≡ swaps_to_undo fs + f.count / 2
swaps_to_undo-push fs gs f e = omega (arith, ap swaps_to_undo e, sum_by-append (λ (g : Flip). g.count / 2) fs (f ∷ []))

pub swaps_to_undo-remembered : (flips slots : ℕ) (fs gs : List Flip) (f : Flip) →
    (flips < slots → gs ≡ fs ++ f ∷ []) → (slots ≤ flips → gs ≡ fs) → swaps_to_undo gs ≤ swaps_to_undo fs + f.count / 2
swaps_to_undo-remembered flips slots fs gs f more full =
    ⊎_elim
    (λ (lt : flips < slots). omega (arith, swaps_to_undo-push fs gs f (more lt)))
    (λ (le : slots ≤ flips). omega (arith, ap swaps_to_undo (full le)))
    (cases_lt flips slots)

pub AreFlipsOf-remembered : (n flips slots : ℕ) (fs gs : List Flip) (f : Flip) → AreFlipsOf n fs →
    (0 < f.first) × (f.first ≤ n) × (2 * f.count ≤ n) →
    (flips < slots → gs ≡ fs ++ f ∷ []) → (slots ≤ flips → gs ≡ fs) → AreFlipsOf n gs
AreFlipsOf-remembered n flips slots fs gs f h k more full =
    let P : Flip → Type 0 = λ g. (0 < g.first) × (g.first ≤ n) × (2 * g.count ≤ n) in
    ⊎_elim
    (λ (lt : flips < slots). All-same P gs (fs ++ f ∷ []) (more lt) (All-push P fs f h k))
    (λ (le : slots ≤ flips). All-same P gs fs (full le) h)
    (cases_lt flips slots)

pub AreFlipsOf-fewer : (n : ℕ) (fs gs : List Flip) (f : Flip) → gs ≡ fs ++ f ∷ [] → AreFlipsOf n gs → AreFlipsOf n fs
AreFlipsOf-fewer n fs gs f e h =
    let P : Flip → Type 0 = λ g. (0 < g.first) × (g.first ≤ n) × (2 * g.count ≤ n) in
    (All-pop P gs fs (Some f) e h).0
