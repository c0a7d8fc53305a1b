-- The bounds on the work of a search, after one more trial.
use Rattle.std.proofs.Common.{◌≡◌, ℕ, zero, suc, ◌+◌, ◌-◌, ◌*◌, ◌/◌, ◌^◌, ◌<◌, ◌≤◌, ⊎_elim, Bool, true, false, refl, ap}
use Rattle.std.proofs.Common.{◌∙◌, arith, pos, ◌≤ℤ◌}
use Rattle.std.specs.Prelude.{if◌then◌else◌}
use Rattle.std.proofs.Math.Nat.{mul-le-mul_left}
use Rattle.std.proofs.lemmas.Bool.{cases_lt}
use Rattle.std.proofs.lemmas.Int.{ints}
use Rattle.tk_search.specs.Totals.{AddsTrial, IsBounded, SettlesTrial, capped}
use Rattle.tk_search.specs.Trials.{IsBoundedTrial, gain_of}
use Rattle.tk_search.specs.declared.trials.descending.SearchRules.{SearchRules}
use Rattle.tk_search.specs.declared.trials.totals.Totals.{Totals}
use Rattle.tk_search.specs.declared.trials.totals.TrialReport.{TrialReport}

top : (a x : ℕ) → capped (a * x) ≤ a * (2 ^ 128 - 1)
top zero x = omega arith
top (suc a) x = omega arith

-- a saturated product is at most the one factor times the other one saturated
capped_mul : (a k : ℕ) → capped (a * k) ≤ a * capped k
capped_mul a k =
    ⊎_elim
    (λ (lt : 2 ^ 128 - 1 < k).
    let e : a * capped k ≡ a * (2 ^ 128 - 1) = ap (λ v. a * v) (omega arith) in
    omega (arith, top a k, e))
    (λ (le : k ≤ 2 ^ 128 - 1).
    let e : a * capped k ≡ a * k = ap (λ v. a * v) (omega arith) in
    omega (arith, e))
    (cases_lt (2 ^ 128 - 1) k)

-- two bounds with one factor
more : (c A B C X x : ℕ) → X ≤ c * A → x ≤ c * B → capped (A + B) ≤ C → capped (X + x) ≤ c * C
more c A B C X x h k le =
    let sum : X + x ≤ c * (A + B) = omega arith in
    let cap : capped (c * (A + B)) ≤ c * capped (A + B) = capped_mul c (A + B) in
    let last : c * capped (A + B) ≤ c * C = mul-le-mul_left c le in
    omega arith

module _ {n width shortest : ℕ} {rules : SearchRules} {old new : Totals} {report : TrialReport}
    (adds : AddsTrial old new report (gain_of report)) (bound : IsBounded n width rules shortest old) where
  -- the number of better results after the trial
  better_is : (b : Bool) → report.better ≡ b → new.better ≡ capped (old.better + (if b then 1 else 0))
  better_is b e = adds.better ∙ ap (λ v. capped (old.better + (if v then 1 else 0))) e

  pub tests_first : old.tests ≡ 0 →
      report.descent.tests ≤ 4 * rules.or_segment * width * (n + 6 * report.descent.moves) →
      new.tests ≤ 4 * rules.or_segment * width * (n + 8 * (new.trials - 1) + 6 * new.moves)
  tests_first none h =
      let b : old.tests ≤ 4 * rules.or_segment * width * 0 = omega arith in
      let le : capped (0 + (n + 6 * report.descent.moves)) ≤ n + 8 * (new.trials - 1) + 6 * new.moves =
      omega (arith, adds.trials, adds.moves) in
      omega (
        arith,
        adds.tests,
        more (4 * rules.or_segment * width) 0 (n + 6 * report.descent.moves)
            (n + 8 * (new.trials - 1) + 6 * new.moves) old.tests report.descent.tests b h le,
      )

  pub tests_kicked : 1 ≤ old.trials →
      old.tests ≤ 4 * rules.or_segment * width * (n + 8 * (old.trials - 1) + 6 * old.moves) →
      report.descent.tests ≤ 4 * rules.or_segment * width * (8 + 6 * report.descent.moves) →
      new.tests ≤ 4 * rules.or_segment * width * (n + 8 * (new.trials - 1) + 6 * new.moves)
  tests_kicked begun b h =
      let le : capped (n + 8 * (old.trials - 1) + 6 * old.moves + (8 + 6 * report.descent.moves)) ≤ n + 8 *
      (new.trials - 1) + 6 * new.moves = omega (arith, adds.trials, adds.moves) in
      omega (
        arith,
        adds.tests,
        more (4 * rules.or_segment * width) (n + 8 * (old.trials - 1) + 6 * old.moves)
            (8 + 6 * report.descent.moves) (n + 8 * (new.trials - 1) + 6 * new.moves) old.tests
            report.descent.tests b h le,
      )

  tests_swept : old.tests ≤ 4 * rules.or_segment * width * (n * old.passes + 6 * old.moves) →
      report.descent.tests ≤ 4 * rules.or_segment * width * (n * report.passes + 6 * report.descent.moves) →
      new.tests ≤ 4 * rules.or_segment * width * (n * new.passes + 6 * new.moves)
  tests_swept b h =
      let e : n * new.passes ≡ n * capped (old.passes + report.passes) = ap (λ v. n * v) adds.passes in
      let le : capped (n * old.passes + 6 * old.moves + (n * report.passes + 6 * report.descent.moves)) ≤ n *
      new.passes + 6 * new.moves = omega (arith, e, capped_mul n (old.passes + report.passes), adds.moves) in
      omega (
        arith,
        adds.tests,
        more (4 * rules.or_segment * width) (n * old.passes + 6 * old.moves)
            (n * report.passes + 6 * report.descent.moves) (n * new.passes + 6 * new.moves) old.tests
            report.descent.tests b h le,
      )

  swaps_more : new.swaps < 2 ^ 64 → report.descent.swaps ≤ 3 * (n / 4) * report.descent.moves →
      new.swaps ≤ old.swaps + n + report.descent.swaps →
      new.swaps ≤ 3 * (n / 4) * new.moves + n * new.trials
  swaps_more small h k =
      let q : ℕ = 3 * (n / 4) in
      let em : q * new.moves ≡ q * capped (old.moves + report.descent.moves) = ap (λ v. q * v) adds.moves in
      let et : n * new.trials ≡ n * capped (old.trials + 1) = ap (λ v. n * v) adds.trials in
      let cm = capped_mul q (old.moves + report.descent.moves) in
      let ct = capped_mul n (old.trials + 1) in
      let b : old.swaps ≤ q * old.moves + n * old.trials = bound.swaps in
      let d : q * (old.moves + report.descent.moves) ≡ q * old.moves + q * report.descent.moves = omega arith in
      let f : n * (old.trials + 1) ≡ n * old.trials + n = omega arith in
      let s : report.descent.swaps ≤ q * report.descent.moves = h in
      omega arith

  copied_more : {flips swaps : ℕ} → SettlesTrial n flips swaps old new report → flips ≤ 4 + 3 * report.descent.moves →
      new.copied ≤ n * new.better + 3 * (new.moves + new.trials)
  copied_more {flips} k few = by report.better refl
    where
      small : new.copied < 2 ^ 65
      small = k.limits.2

      b : old.copied ≤ n * old.better + 3 * (old.moves + old.trials)
      b = bound.copied

      back : report.better ≡ false → new.copied ≤ old.copied + (3 + 3 * report.descent.moves)
      back e =
          ⊎_elim
          (λ (lost : n < flips). omega (arith, (k.restored e lost).1.most, few))
          (λ (room : flips ≤ n). omega (arith, (k.undone e room).1))
          (cases_lt n flips)

      by : (b : Bool) → report.better ≡ b → new.copied ≤ n * new.better + 3 * (new.moves + new.trials)
      by true e =
          let to : new.copied ≤ old.copied + n = (k.taken e).1.most in
          let eb : n * new.better ≡ n * capped (old.better + 1) = ap (λ v. n * v) (better_is true e) in
          let cb = capped_mul n (old.better + 1) in
          let d : n * (old.better + 1) ≡ n * old.better + n = omega arith in
          omega (arith, small, b, to, eb, cb, d, adds.moves, adds.trials)
      by false e =
          let eb : n * new.better ≡ n * capped (old.better + 0) = ap (λ v. n * v) (better_is false e) in
          let cb = capped_mul n (old.better + 0) in
          let d : n * (old.better + 0) ≡ n * old.better = omega arith in
          omega (arith, small, b, back e, eb, cb, d, adds.moves, adds.trials)

  moves_more : report.descent.moves ≤ gain_of report → new.moves ≤ new.gained
  moves_more h = omega (arith, adds.moves, adds.gained, bound.moves)

  better_more : {shorter : ℕ} → (report.better ≡ true → shorter < shortest) →
      (report.better ≡ false → shorter ≡ shortest) → pos (shorter + new.better) ≤ℤ new.start
  better_more {shorter} less same = by report.better refl
    where
      by : (b : Bool) → report.better ≡ b → pos (shorter + new.better) ≤ℤ new.start
      by true e = omega (arith, ints, bound.better, adds.start, less e, better_is true e)
      by false e = omega (arith, ints, bound.better, adds.start, same e, better_is false e)

  -- all bounds after one more trial
  pub bounded_more : {awake shorter flips swaps : ℕ} → SettlesTrial n flips swaps old new report →
      flips ≤ 4 + 3 * report.descent.moves → new.swaps ≤ old.swaps + n + report.descent.swaps →
      IsBoundedTrial n width awake rules report →
      (report.better ≡ true → shorter < shortest) → (report.better ≡ false → shorter ≡ shortest) →
      (rules.sweep ≡ false → new.tests ≤ 4 * rules.or_segment * width * (n + 8 * (new.trials - 1) + 6 * new.moves)) →
      IsBounded n width rules shorter new
  bounded_more k few more b less same tests = record {
    tests = tests;
    swept = λ e. tests_swept (bound.swept e) (b.swept_tests e);
    swaps = swaps_more k.limits.0 b.swaps more;
    undo_swaps = k.limits.1;
    moves = moves_more b.moves;
    better = better_more less same;
    copied = copied_more k few;
  }
