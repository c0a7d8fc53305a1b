use Rattle.std.proofs.Common.{◌≡◌, ℕ, ◌<◌, ap, length, arith}
use Rattle.tk_descent.specs.Offers.{IsSegmentIn}
use Rattle.tk_descent.proofs.OfferLists.Searching.{all_of_five}
use Rattle.tk_descent.proofs.looks.segments.segments_of.Goals as goal

pub returns-clause-inside : goal.returns-clause-inside
returns-clause-inside g c =
    let a = c.neighbourhood-neighbourhood.ensures in
    let on : length c.neighbourhood-neighbourhood.result.after ≡ 3 = ap length a.neighbourhood.after in
    let back : length c.neighbourhood-neighbourhood.result.before ≡ 3 = ap length a.neighbourhood.before in
    let after = λ (k : ℕ) (lt : k < 3). a.after k 0 (omega (arith, lt, on)) in
    let before = λ (k : ℕ) (lt : k < 3). a.before k 0 (omega (arith, lt, back)) in
    all_of_five (IsSegmentIn (length (g.S.TourStore.cities c.args.tour.now))) _ _ _ _ _
    (before 0 (omega arith), c.requires, after 0 (omega arith))
    (before 0 (omega arith), after 0 (omega arith), after 1 (omega arith))
    (after 0 (omega arith), before 0 (omega arith), before 1 (omega arith))
    (before 0 (omega arith), after 1 (omega arith), after 2 (omega arith))
    (after 0 (omega arith), before 1 (omega arith), before 2 (omega arith))
