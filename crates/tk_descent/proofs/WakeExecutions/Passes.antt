-- Passes one after another.
use Rattle.std.proofs.Common.{◌≡◌, ℕ, ◌+◌, ◌-◌, ◌*◌, ◌/◌, ◌≤◌, Bool, List, [], length, refl, sym, ◌∙◌, ap, arith}
use Rattle.std.proofs.Common.{subst, ℤ, pos, FitsSigned, w64, to_z, of_z}
use Rattle.std.proofs.lemmas.Int.{to_z-of_z}
use Rattle.tk_problem.specs.declared.limits.TheConstants.{CITY_LIMIT}
use Rattle.tk_near.specs.Near.{NearLists}
use Rattle.tk_tour.specs.Counters.{saturated}
use Rattle.tk_tour.specs.Tour.{tour_length}
use Rattle.tk_descent.proofs.MovesOnTours.Paths.{IsRound, IsTable}
use Rattle.tk_descent.specs.Awake.{woken_each, one_to}
use Rattle.tk_descent.specs.Descents.{IsReported, DescentState, DescentInput}
use Rattle.tk_descent.specs.declared.descent.Report.{Report}
use Rattle.tk_descent.specs.declared.offer.Offer.{Offer}
use Rattle.tk_descent.specs.Machine.{ExecutionUnder}
use Rattle.tk_descent.specs.Sweeps.{PassUnder, MovingUnder, SweepsUnder}
use Rattle.tk_descent.specs.WakeMachine.{IsLocalOptimumUnder}
use Rattle.tk_descent.proofs.WakeExecutions.WokenQueue.{woken_all, one_to-holds}
use Rattle.tk_descent.proofs.WakeExecutions.Machines.{IsRuleOn, still_optimum}
use Rattle.tk_descent.proofs.WakeExecutions.DescentSteps.{fits_length, length_fits}

pub all_awake : (Q V : List ℕ) (n k : ℕ) → Q ≡ woken_each V (one_to n) → V ≡ [] → n ≡ k → Q ≡ one_to k
all_awake Q V n k h e same = h ∙ ap (λ z. woken_each z (one_to n)) e ∙ woken_all n ∙ ap one_to same

pub pass_of : {may : List ℕ → Offer → Bool} (d e : ℕ → ℕ → ℕ) (near : ℕ → List ℕ) (m : ℕ) (C D Q : List ℕ)
    (looks moves tests : ℕ) → e ≡ d → Q ≡ one_to (length C) → ExecutionUnder may e near m C Q D [] looks moves tests →
    PassUnder may d near m C D looks moves tests
pass_of {may} d e near m C D Q looks moves tests same front r =
    subst (λ z. ExecutionUnder may z near m C (one_to (length C)) D [] looks moves tests) same
    (subst (λ z. ExecutionUnder may e near m C z D [] looks moves tests) front r)

pub pass_optimum : (fits : List ℕ → Type 0) (may : List ℕ → Offer → Bool) (d : ℕ → ℕ → ℕ) (near : ℕ → List ℕ) (m : ℕ)
    (C D : List ℕ) (looks moves tests : ℕ) → IsRuleOn fits may → IsTable d → m ≤ 3 → IsRound C → fits C →
    PassUnder may d near m C D looks moves tests → moves ≡ 0 → IsLocalOptimumUnder fits d near m D
pass_optimum fits may d near m C D looks moves tests rule is small tour fit r z =
    still_optimum fits may rule d near m C (one_to (length C)) D looks moves tests is small tour.distinct fit
    (λ c h. let k = (tour.members c).0 h in one_to-holds (length C) c k.0 k.1) r z

pub after_bits : (d e : ℕ → ℕ → ℕ) (C : List ℕ) (z : ℤ) → IsTable d → e ≡ d → length C ≤ CITY_LIMIT →
    z ≡ pos (tour_length e C) → to_z w64 (of_z w64 z) ≡ pos (tour_length d C)
after_bits d e C z is same few h =
    let k : z ≡ pos (tour_length d C) = h ∙ ap (λ y. pos (tour_length y C)) same in
    to_z-of_z w64 z (subst (λ y. FitsSigned w64 y) (sym k) (length_fits (tour_length d C) (fits_length d C is few))) ∙ k

more_tests : (b l q k made t u : ℕ) → t ≤ b * (l + 6 * k) → u ≤ b * (q + 6 * made) →
    t + u ≤ b * (l + q + 6 * (k + made))
more_tests b l q k made t u h j = omega arith

more_swaps : (q k made r s : ℕ) → r ≤ 3 * q * k → s ≤ 3 * q * made → r + s ≤ 3 * q * (k + made)
more_swaps q k made r s h j = omega arith

-- a report, with the distances and the number of looks replaced by equal ones
pub IsReported-by : {d e : ℕ → ℕ → ℕ} {near : NearLists} {m looks n : ℕ} {from to : DescentState} {report : Report} → e
    ≡ d →
    looks ≡ n → IsReported (record { distance = e; near = near; or_segment = m }) from to looks report →
    IsReported (record { distance = d; near = near; or_segment = m }) from to n report
IsReported-by {d} {e} {near} {m} {looks = looks} {from = from} {to = to} {report = report} same size h =
    subst (λ z. IsReported (record { distance = d; near = near; or_segment = m }) from to z report) size
    (subst (λ z. IsReported (record { distance = z; near = near; or_segment = m }) from to looks report) same h)

-- the report of two descents, one after the other
pub IsReported-more : {by : DescentInput} {from to : DescentState} {tour asleep woken : List ℕ}
    {tests swaps flips looks more every : ℕ} {one two all : Report} →
    IsReported by from (record { tour = tour; awake = asleep; tests = tests; swaps = swaps; flips = flips }) looks one →
    IsReported by (record { tour = tour; awake = woken; tests = tests; swaps = swaps; flips = flips }) to more two →
    length tour ≡ length from.tour → every ≡ looks + more →
    all.before ≡ pos (tour_length by.distance from.tour) → all.after ≡ pos (tour_length by.distance to.tour) →
    all.moves ≡ one.moves + two.moves → all.looks ≤ one.looks + two.looks → all.tests ≡ to.tests - from.tests →
    all.swaps ≡ to.swaps - from.swaps → IsReported by from to every all
IsReported-more {by} {from} {looks = looks} {more = more} {every = every} {one = one} {two = two} {all = all} h k size
    most before after moves looked tests swaps =
    let wide = more_tests (4 * by.or_segment * by.near.width) looks more one.moves two.moves one.tests two.tests
    h.tests_most k.tests_most in
    let same : looks + more + 6 * (one.moves + two.moves) ≡ every + 6 * all.moves = omega (arith, most, moves) in
    let taken = more_swaps (length from.tour / 4) one.moves two.moves one.swaps two.swaps h.swaps_most
    (subst (λ z. two.swaps ≤ 3 * (z / 4) * two.moves) size k.swaps_most) in
    record {
      before = before;
      after = after;
      moves = omega (arith, h.moves, k.moves, moves);
      looks_most = omega (arith, h.looks_most, k.looks_most, most, moves, looked);
      tests_most = subst (λ z. all.tests ≤ 4 * by.or_segment * by.near.width * z) same
          (omega (arith, wide, h.tests, k.tests, h.rises.0, k.rises.0, tests));
      tests = tests;
      swaps_most = subst (λ z. all.swaps ≤ 3 * (length from.tour / 4) * z) (sym moves)
          (omega (arith, taken, h.swaps, k.swaps, h.rises.1, k.rises.1, swaps));
      swaps = swaps;
      flips_most = omega (arith, h.flips_most, k.flips_most, moves);
      rises = (omega (arith, h.rises.0, k.rises.0), omega (arith, h.rises.1, k.rises.1));
    }

pub swept : {may : List ℕ → Offer → Bool} (d : ℕ → ℕ → ℕ) (near : ℕ → List ℕ) (m : ℕ) (T C D : List ℕ)
    (passes looks moves tests more made tried all every : ℕ) → MovingUnder may d near m T C passes looks moves tests →
    PassUnder may d near m C D more made tried → made ≡ 0 →
    all ≡ saturated (looks + more) → every ≡ saturated (tests + tried) →
    SweepsUnder may d near m T D (passes + 1) all (moves + made) every
swept {may} d near m T C D passes looks moves tests more made tried all every chain last none sum count =
    let same : moves + made ≡ moves = omega arith in
    subst (λ z. SweepsUnder may d near m T D (passes + 1) all z every) (sym same) (record {
      tour = C;
      moving = passes;
      looked = looks;
      more = more;
      tested = tests;
      tried = tried;
      chain = chain;
      last = subst (λ z. PassUnder may d near m C D more z tried) none last;
      passes_are = refl;
      looks_are = sum;
      tests_are = count;
    })

-- a counter after a pass, from its value before the first pass
pub count_pass : (before t u tests tried : ℕ) → t ≡ saturated (before + tests) → u ≡ saturated (t + tried) →
    u ≡ saturated (before + saturated (tests + tried))
count_pass before t u tests tried h j = omega (arith, h, j)

-- a counter that starts at 0 has the number of tests of the passes
pub fresh_sweep : {may : List ℕ → Offer → Bool} (d : ℕ → ℕ → ℕ) (near : ℕ → List ℕ) (m : ℕ) (T D : List ℕ)
    (passes looks moves tests before after r : ℕ) → SweepsUnder may d near m T D passes looks moves tests →
    after ≡ saturated (before + tests) → r ≡ after - before → before ≡ 0 →
    SweepsUnder may d near m T D passes looks moves r
fresh_sweep {may} d near m T D passes looks moves tests before after r s h j z =
    let same : tests ≡ r = omega (arith, h, j, s.tests_are) in
    subst (λ v. SweepsUnder may d near m T D passes looks moves v) same s
