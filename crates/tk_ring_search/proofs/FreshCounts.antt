-- Descents whose tests are counted from 0.
use Rattle.std.proofs.Common.{◌≡◌, ℕ, ◌-◌, Bool, List, subst, arith}
use Rattle.tk_descent.specs.Descents.{DescentUnder, DescentState, SweepingUnder, DescentInput}
use Rattle.tk_descent.specs.declared.descent.Report.{Report}
use Rattle.tk_descent.specs.declared.offer.Offer.{Offer}
use Rattle.tk_descent.specs.declared.sweep.SweptReport.{SweptReport}

abbrev pub after_tests : DescentState → ℕ → DescentState
after_tests s tests = record { tour = s.tour; awake = s.awake; tests = tests; swaps = s.swaps; flips = s.flips }

abbrev pub by_distance : DescentInput → (ℕ → ℕ → ℕ) → DescentInput
by_distance by distance = record { distance = distance; near = by.near; or_segment = by.or_segment }

module _ (fits : List ℕ → Type 0) (may : List ℕ → Offer → Bool) (by : DescentInput) (distance : ℕ → ℕ → ℕ)
    (from to : DescentState)
    (same : by.distance ≡ distance) (none : from.tests ≡ 0) where
  pub fresh_once : (report : Report) → DescentUnder fits may by from to report →
      DescentUnder fits may (by_distance by distance) (after_tests from 0) (after_tests to report.tests) report
  fresh_once report h =
      let A : ℕ → Type 0 = λ t. DescentUnder fits may by from (after_tests to t) report in
      let B : ℕ → Type 0 = λ t. DescentUnder fits may by (after_tests from t) (after_tests to report.tests) report in
      let D : (ℕ → ℕ → ℕ) → Type 0 = λ d.
      DescentUnder fits may (by_distance by d) (after_tests from 0) (after_tests to report.tests) report in
      let e : to.tests ≡ report.tests = omega (arith, h.reported.tests, none) in
      subst D same (subst B none (subst A e h))

  pub fresh_swept : (report : SweptReport) → SweepingUnder fits may by from to report →
      SweepingUnder fits may (by_distance by distance) (after_tests from 0) (after_tests to report.descent.tests) report
  fresh_swept report h =
      let A : ℕ → Type 0 = λ t. SweepingUnder fits may by from (after_tests to t) report in
      let B : ℕ → Type 0 = λ t.
      SweepingUnder fits may by (after_tests from t) (after_tests to report.descent.tests) report in
      let D : (ℕ → ℕ → ℕ) → Type 0 = λ d.
      SweepingUnder fits may (by_distance by d) (after_tests from 0) (after_tests to report.descent.tests) report in
      let e : to.tests ≡ report.descent.tests = omega (arith, h.reported.tests, none) in
      subst D same (subst B none (subst A e h))
