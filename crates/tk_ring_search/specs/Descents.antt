-- The descents of a search between routes.
use Rattle.std.specs.Prelude.{◌≡◌, ℕ, ◌*◌, true, false, List, [], length, Bool, if◌then◌else◌}
use Rattle.tk_descent.specs.Descents.{DescentUnder, IsReported, DescentState, SweepingUnder, DescentInput}
use Rattle.tk_descent.specs.declared.descent.Report.{Report}
use Rattle.tk_descent.specs.declared.offer.Offer.{Offer}
use Rattle.tk_rings.specs.Capacities.{IsFitting, is_allowed}
use Rattle.tk_tour.specs.Tour.{IsTour}
use Rattle.tk_ring_search.specs.Given.{Given}

-- the ring fits
abbrev pub Fits : Given → List ℕ → Type 0
Fits given ring = IsFitting given.capacity given.demands ring

-- the ring fits after the move of an offer
abbrev pub may_be_made : Given → List ℕ → Offer → Bool
may_be_made given = is_allowed given.capacity given.demands

abbrev pub terms_of : Given → DescentInput
terms_of given = record { distance = given.distance; near = given.near; or_segment = given.or_segment }

-- how many looks a descent begins with: at each element in each pass if it is swept, and else at those that are awake
abbrev pub looks_at_first : Given → DescentState → ℕ → ℕ
looks_at_first given from passes = if given.sweep then length from.tour * passes else length from.awake

-- A descent to a ring that fits, by moves after which the ring fits. If it is swept, it ends with a local optimum;
-- otherwise it is one pass.
pub record DescendsRing (given : Given) (from to : DescentState) (report : Report) (passes : ℕ) : Type 0 where
  pub swept : given.sweep ≡ true →
      SweepingUnder (Fits given) (may_be_made given) (terms_of given) from to
      (record { descent = report; passes = passes })
  pub once : given.sweep ≡ false →
      DescentUnder (Fits given) (may_be_made given) (terms_of given) from to report × (passes ≡ 1)
  pub reported : IsReported (terms_of given) from to (looks_at_first given from passes) report
  pub asleep : to.awake ≡ []
  pub tour : IsTour (length from.tour) to.tour
  pub fitting : Fits given to.tour
