-- One trial of a search.
use Rattle.std.proofs.Common.{◌≡◌, ℕ, ◌+◌, ◌<◌, ◌≤◌, Bool, true, false, List, length, refl, sym, ap, ◌∙◌, subst}
use Rattle.std.proofs.Common.{arith}
use Rattle.std.specs.Prelude.{ℤ, pos, ◌-ℤ◌, ◌↔◌, IsTrue}
use Rattle.std.specs.Int.RustNames.{unsigned_abs}
use Rattle.std.proofs.lemmas.Int.{to_z-of_z, ints}
use Rattle.tk_descent.proofs.WakeExecutions.DescentSteps.{saved_is}
use Rattle.tk_search.specs.Totals.{AddsTrial}
use Rattle.tk_search.specs.declared.trials.totals.Totals.{Totals}
use Rattle.tk_search.specs.declared.trials.totals.TrialReport.{TrialReport}
use lib.Signed.{lt_z}
use mir.Syntax.{w64}
use mir.Val.{SFits, of_z, to_z}

-- the best tour keeps its size
pub same_size : (better : Bool) (old tour new : List ℕ) → (better ≡ true → new ≡ tour) → (better ≡ false → new ≡ old) →
    length tour ≡ length old → length new ≡ length old
same_size true old tour new replaced kept e = ap length (replaced refl) ∙ e
same_size false old tour new replaced kept e = ap length (kept refl)

-- a comparison of two lengths in 64 bits
pub less_of : (a b : ℤ) (x y : ℕ) → SFits w64 a → SFits w64 b → a ≡ pos x → b ≡ pos y →
    IsTrue (lt_z (to_z w64 (of_z w64 a)) (to_z w64 (of_z w64 b))) ↔ (x < y)
less_of a b x y fa fb ea eb =
    rw (to_z-of_z w64 a fa, to_z-of_z w64 b fb, ea, eb) (λ h. grind (arith, ints), λ h. grind (arith, ints))

-- with an equal gain, the totals are the same
pub gain_is : (old new : Totals) (report : TrialReport) (g h : ℕ) → g ≡ h → AddsTrial old new report g →
    AddsTrial old new report h
gain_is old new report g h e k = let P : ℕ → Type 0 = λ v. AddsTrial old new report v in subst P e k

-- the gain of a descent, computed in 64 bits
pub gain_bits : (p a b : ℤ) (x y r : ℕ) → SFits w64 p → SFits w64 a → p ≡ pos x → a ≡ pos y →
    b ≡ to_z w64 (of_z w64 p) →
    r ≡ unsigned_abs (to_z w64 (of_z w64 (to_z w64 (of_z w64 p) -ℤ to_z w64 (of_z w64 a)))) → r ≡ unsigned_abs (b -ℤ a)
gain_bits p a b x y r fp fa ep ea eb h =
    let P : ℤ → Type 0 = λ v. SFits w64 v in
    let fx : SFits w64 (pos x) = subst P ep fp in
    let fy : SFits w64 (pos y) = subst P ea fa in
    let fits : SFits w64 (pos x -ℤ pos y) = omega (arith, ints) in
    let px : to_z w64 (of_z w64 p) ≡ pos x = to_z-of_z w64 p fp ∙ ep in
    let inner : to_z w64 (of_z w64 p) -ℤ to_z w64 (of_z w64 a) ≡ pos x -ℤ pos y =
    ap (λ v. v -ℤ to_z w64 (of_z w64 a)) px ∙ ap (λ v. pos x -ℤ v) (to_z-of_z w64 a fa ∙ ea) in
    h ∙ ap (λ v. unsigned_abs (to_z w64 (of_z w64 v))) inner ∙ ap unsigned_abs (to_z-of_z w64 (pos x -ℤ pos y) fits) ∙
    ap (λ v. unsigned_abs (v -ℤ pos y)) (sym (eb ∙ px)) ∙ ap (λ v. unsigned_abs (b -ℤ v)) (sym ea)

-- each move gains at least one
pub moves_gain : (b a : ℤ) (x y moves : ℕ) → b ≡ pos x → a ≡ pos y → moves + y ≤ x → moves ≤ unsigned_abs (b -ℤ a)
moves_gain b a x y moves eb ea h = omega (arith, h, saved_is b a x y eb ea (omega arith))
