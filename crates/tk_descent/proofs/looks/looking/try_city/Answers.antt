use Rattle.std.proofs.Common.{◌≡◌, ◌+◌, ◌≤◌, ℕ, ℤ, pos, ◌+ℤ◌, ◌-ℤ◌, FitsSigned, to_z, of_z, w64, [], ◌∷◌, arith}
use Rattle.std.proofs.lemmas.Int.{ints}
use Rattle.tk_problem.specs.declared.limits.TheConstants.{DISTANCE_LIMIT}
use Rattle.tk_descent.specs.declared.offer.Offer.TheVariants.{Two}
use Rattle.tk_descent.proofs.OfferLists.Count.{first_counted}
use Rattle.tk_descent.proofs.OfferLists.Searching.{Searched-on, Searched-stop}
use Rattle.tk_descent.proofs.looks.looking.try_city.Goals as goal

sum_fits : (s t : ℤ) (p q : ℕ) → s ≡ pos p → t ≡ pos q → p ≤ DISTANCE_LIMIT → q ≤ DISTANCE_LIMIT →
    FitsSigned w64 (to_z w64 (of_z w64 s) +ℤ to_z w64 (of_z w64 t))
sum_fits s t p q first second low near = omega (arith, ints)

margin_fits : (s t r : ℤ) (p q k : ℕ) → s ≡ pos p → t ≡ pos q → r ≡ pos k →
    p ≤ DISTANCE_LIMIT → q ≤ DISTANCE_LIMIT → k ≤ DISTANCE_LIMIT →
    FitsSigned w64 (to_z w64 (of_z w64 (to_z w64 (of_z w64 s) +ℤ to_z w64 (of_z w64 t))) -ℤ to_z w64 (of_z w64 r))
margin_fits s t r p q k first second third low near across = omega (arith, ints)

margin_is : (s t r : ℤ) (p q k : ℕ) → s ≡ pos p → t ≡ pos q → r ≡ pos k →
    p ≤ DISTANCE_LIMIT → q ≤ DISTANCE_LIMIT → k ≤ DISTANCE_LIMIT →
    to_z w64 (of_z w64 (to_z w64 (of_z w64 (to_z w64 (of_z w64 s) +ℤ to_z w64 (of_z w64 t)))
    -ℤ to_z w64 (of_z w64 r))) ≡ pos (p + q) -ℤ pos k
margin_is s t r p q k first second third low near across = omega (arith, ints)

pub overflow_add-margin : goal.overflow_add-margin
overflow_add-margin g c =
    let near = g.met.M.Metric.distance_limit c.args.metric.now in
    sum_fits _ _ _ _ c.requires.from.3 c.requires.beside.3 (near _ _) (near _ _)

pub overflow_sub-margin : goal.overflow_sub-margin
overflow_sub-margin g c =
    let near = g.met.M.Metric.distance_limit c.args.metric.now in
    margin_fits _ _ _ _ _ _ c.requires.from.3 c.requires.beside.3 c.requires.across
    (near _ _) (near _ _) (near _ _)

pub overflow_add-margin-2 : goal.overflow_add-margin-2
overflow_add-margin-2 g c =
    let near = g.met.M.Metric.distance_limit c.args.metric.now in
    sum_fits _ _ _ _ c.requires.from.4 c.requires.beside.4 (near _ _) (near _ _)

pub overflow_sub-margin-2 : goal.overflow_sub-margin-2
overflow_sub-margin-2 g c =
    let near = g.met.M.Metric.distance_limit c.args.metric.now in
    margin_fits _ _ _ _ _ _ c.requires.from.4 c.requires.beside.4 c.requires.across
    (near _ _) (near _ _) (near _ _)

pub try_two-requires-clause-margin : goal.try_two-requires-clause-margin
try_two-requires-clause-margin g c =
    let near = g.met.M.Metric.distance_limit c.args.metric.now in
    margin_is _ _ _ _ _ _ c.requires.from.3 c.requires.beside.3 c.requires.across (near _ _) (near _ _) (near _ _)

pub try_two-requires-2-clause-margin : goal.try_two-requires-2-clause-margin
try_two-requires-2-clause-margin g c =
    let near = g.met.M.Metric.distance_limit c.args.metric.now in
    margin_is _ _ _ _ _ _ c.requires.from.4 c.requires.beside.4 c.requires.across (near _ _) (near _ _) (near _ _)

pub try_two-requires-2-clause-room : goal.try_two-requires-2-clause-room
try_two-requires-2-clause-room g c =
    omega (
      arith,
      c.requires.room,
      first_counted (g.M.Metric.distance c.args.metric.now) (Two c.args.x.now.city c.args.x.now.after
          c.args.y.now.city c.args.y.now.after) _ _ _ c.in_default.ensures,
    )

pub try_segments-requires-clause-room : goal.try_segments-requires-clause-room
try_segments-requires-clause-room g c =
    let d = g.M.Metric.distance c.args.metric.now in
    let x = c.args.x.now in
    let y = c.args.y.now in
    omega (
      arith,
      c.requires.room,
      first_counted d (Two x.city x.after y.city y.after) _ _ _ c.in_default.ensures,
      first_counted d (Two x.city x.before y.city y.before) _ _ _ c.in_default-try_two.ensures,
    )

pub returns-in-Some : goal.returns-in-Some
returns-in-Some g c =
    let x = c.args.x.now in
    let y = c.args.y.now in
    Searched-stop (g.M.Metric.distance c.args.metric.now) (Two x.city x.after y.city y.after ∷ []) _ _ _ _
    c.in-Some.ensures

pub returns-in-Some-try_two : goal.returns-in-Some-try_two
returns-in-Some-try_two g c =
    let d = g.M.Metric.distance c.args.metric.now in
    let x = c.args.x.now in
    let y = c.args.y.now in
    Searched-on d (Two x.city x.after y.city y.after ∷ []) _ _ _ _ _ c.in_default.ensures
    (Searched-stop d (Two x.city x.before y.city y.before ∷ []) _ _ _ _ c.in-Some-try_two.ensures)

pub returns : goal.returns
returns g c =
    let d = g.M.Metric.distance c.args.metric.now in
    let x = c.args.x.now in
    let y = c.args.y.now in
    Searched-on d (Two x.city x.after y.city y.after ∷ []) _ _ _ _ _ c.in_default.ensures
    (Searched-on d (Two x.city x.before y.city y.before ∷ []) _ _ _ _ _ c.in_default-try_two.ensures
    c.try_segments.ensures)
