-- The first of the shortest tours, when one more comes.
use Rattle.std.proofs.Common.{ℕ, ◌<◌, ◌≤◌, List, [], ◌∷◌, ◌++◌, refl, sym, ap, ◌∙◌, subst, arith, append_assoc}
use Rattle.std.specs.List.{All}
use Rattle.std.proofs.lemmas.List.Elements.{All-append, All-cons, All-nil}
use Rattle.tk_tour.specs.Tour.{tour_length}
use Rattle.tk_search.specs.SearchLaws.{IsFirstShortest}

-- it is the only one
pub first_of_one : (dist : ℕ → ℕ → ℕ) (tour : List ℕ) → IsFirstShortest dist (tour ∷ []) tour
first_of_one dist tour = record { before = []; behind = []; stands = refl; longer = All-nil _; least = All-nil _ }

-- it is shorter
pub first_replaced : (dist : ℕ → ℕ → ℕ) (tours : List (List ℕ)) (old new : List ℕ) → IsFirstShortest dist tours old →
    tour_length dist new < tour_length dist old → IsFirstShortest dist (tours ++ new ∷ []) new
first_replaced dist tours old new f less =
    let Longer : List ℕ → Type 0 = λ tour. tour_length dist new < tour_length dist tour in
    let front : All Longer f.before = λ k d lt. omega (arith, less, f.longer k d lt) in
    let back : All Longer f.behind = λ k d lt. omega (arith, less, f.least k d lt) in
    let all : All Longer (f.before ++ old ∷ f.behind) =
    All-append Longer f.before (old ∷ f.behind) front (All-cons Longer old f.behind less back) in
    record {
      before = tours;
      behind = [];
      stands = refl;
      longer = subst (All Longer) (sym f.stands) all;
      least = All-nil _;
    }

-- it is not
pub first_kept : (dist : ℕ → ℕ → ℕ) (tours : List (List ℕ)) (old new : List ℕ) → IsFirstShortest dist tours old →
    tour_length dist old ≤ tour_length dist new → IsFirstShortest dist (tours ++ new ∷ []) old
first_kept dist tours old new f le =
    let Least : List ℕ → Type 0 = λ tour. tour_length dist old ≤ tour_length dist tour in
    record {
      before = f.before;
      behind = f.behind ++ new ∷ [];
      stands = ap (λ v. v ++ new ∷ []) f.stands ∙ append_assoc f.before (old ∷ f.behind) (new ∷ []);
      longer = f.longer;
      least = All-append Least f.behind (new ∷ []) f.least (All-cons Least new [] le (All-nil _));
    }
