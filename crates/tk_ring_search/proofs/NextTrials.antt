-- The next trial, from what the calls of its function ensure.
use Rattle.std.proofs.Common.{◌≡◌, ℕ, ◌≤◌, length, refl, sym, ◌∙◌, subst}
use Rattle.rand_core.specs.Stream.{Stream}
use Rattle.tk_rings.specs.LoadedRings.{cities_in, swaps_in}
use Rattle.tk_tour.specs.declared.store.TourStore.{Ghosts}
use Rattle.tk_tour.specs.declared.undo.UndoStore as undo
use Rattle.tk_ring_search.specs.Best.{best_of}
use Rattle.tk_ring_search.specs.Drawing.{IsFirstFit, Misses, most_draws}
use Rattle.tk_ring_search.specs.Given.{Given}
use Rattle.tk_ring_search.specs.Searching.{IsKickedDescent, IsStanding, TrialCase, kicks}
use Rattle.tk_ring_search.specs.Searching.{idles, searching}
use Rattle.tk_ring_search.specs.Totals.{AddsTrial}
use Rattle.tk_ring_search.specs.declared.kicks.kick.Kick.{Kick}
use Rattle.tk_ring_search.specs.declared.trials.judging.Outcome.TheVariants.{Idle}
use Rattle.tk_ring_search.specs.declared.trials.state.State.{State}
use Rattle.tk_ring_search.specs.declared.trials.totals.RingTotals.{RingTotals}
use Rattle.tk_ring_search.specs.declared.trials.totals.RingTrial.{RingTrial}

module _ {S : Type 0} {u : undo.Ghosts S} {s : Ghosts S} where
  -- the state with other totals
  abbrev pub with_totals : State S u s → RingTotals → State S u s
  with_totals state totals = record {
    ring = state.ring;
    best = state.best;
    waking = state.waking;
    steps = state.steps;
    cost = state.cost;
    shortest = state.shortest;
    totals = totals;
  }

  pub stands_with : (size : ℕ) (given : Given) (state : State S u s) (totals : RingTotals) →
      IsStanding size given state → IsStanding size given (with_totals state totals)
  stands_with size given state totals h = record {
    elements = h.elements;
    lists = h.lists;
    queue = h.queue;
    asleep = h.asleep;
    steps = h.steps;
    segment = h.segment;
    demands = h.demands;
    count = h.count;
    settled = h.settled;
    flips = h.flips;
    slots = h.slots;
    fits = h.fits;
    best_fits = h.best_fits;
    cost = h.cost;
    shortest = h.shortest;
  }

  -- what is known of the state after a trial, but for its totals
  pub record Tried (size : ℕ) (given : Given) (old self : State S u s) (totals : RingTotals) (words rest : Stream)
      (trial : RingTrial) : Type 0 where
    pub done : TrialCase (searching given old) words (searching given (with_totals self totals)) rest trial
    pub totals_are : self.totals ≡ old.totals
    pub stands : IsStanding size given self
    pub few : trial.draws ≤ 1000

  -- a state and a report by other names
  pub renamed : (size : ℕ) (given : Given) (old self made : State S u s) (totals : RingTotals) (words rest : Stream)
      (trial report : RingTrial) → self ≡ made → trial ≡ report →
      Tried size given old made totals words rest report → Tried size given old self totals words rest trial
  renamed size given old self made totals words rest trial report es et h =
      let P : State S u s → Type 0 = λ v. Tried size given old v totals words rest trial in
      let Q : RingTrial → Type 0 = λ t. Tried size given old made totals words rest t in
      subst P (sym es) (subst Q (sym et) h)

  pub idle_tried : (size : ℕ) (given : Given) (old : State S u s) (totals : RingTotals) (words rest : Stream)
      (draws : ℕ) (report : RingTrial) → IsStanding size given old → totals.swaps ≡ swaps_in old.ring →
      old.totals.swaps ≡ swaps_in old.ring → report.draws ≡ draws → report.outcome ≡ Idle →
      (report.descent.before ≡ old.cost) × (report.descent.after ≡ old.cost) →
      (report.descent.moves ≡ 0) × (report.descent.looks ≡ 0) × (report.descent.tests ≡ 0)
      × (report.descent.swaps ≡ 0) × (report.passes ≡ 0) →
      Misses given.capacity given.demands (cities_in old.ring) words draws rest
      × (draws ≡ most_draws (length (cities_in old.ring))) → draws ≤ 1000 →
      Tried size given old old totals words rest report
  idle_tried size given old totals words rest draws report h es before ed eo lengths counts missed few =
      let M : ℕ → Type 0 = λ k. Misses given.capacity given.demands (cities_in old.ring) words k rest in
      record {
        done = idles (record {
          missed = subst M (sym ed) missed.0;
          draws = ed ∙ missed.1;
          outcome = eo;
          before = lengths.0 ∙ h.cost;
          after = lengths.1 ∙ h.cost;
          counts = counts;
          same = (refl, refl, es ∙ sym before);
        });
        totals_are = refl;
        stands = h;
        few = subst (λ k. k ≤ 1000) (sym ed) few;
      }

  pub kicked_tried : (size : ℕ) (given : Given) (old made : State S u s) (totals : RingTotals) (words rest : Stream)
      (draws : ℕ) (kick : Kick) (report : RingTrial) → totals.swaps ≡ swaps_in made.ring → report.draws ≡ draws →
      IsFirstFit given.capacity given.demands (cities_in old.ring) words draws kick rest →
      IsKickedDescent (searching given old) kick (swaps_in made.ring) (cities_in made.ring) (best_of made.best) report →
      made.totals ≡ old.totals → IsStanding size given made → draws ≤ 1000 →
      Tried size given old made totals words rest report
  kicked_tried size given old made totals words rest draws kick report es ed fit descent same h few =
      let F : ℕ → Type 0 = λ k. IsFirstFit given.capacity given.demands (cities_in old.ring) words k kick rest in
      let D : ℕ → Type 0 = λ k. IsKickedDescent (searching given old) kick k (cities_in made.ring) (best_of made.best)
      report in
      record {
        done = kicks (record { kick = kick; drawn = subst F (sym ed) fit; descent = subst D (sym es) descent });
        totals_are = same;
        stands = h;
        few = subst (λ k. k ≤ 1000) (sym ed) few;
      }

-- the totals after a trial by other names
pub adds_as : (n m : ℕ) (old self new : RingTotals) (trial : RingTrial) → n ≡ m → self ≡ old →
    AddsTrial n self new trial → AddsTrial m old new trial
adds_as n m old self new trial en es h =
    let P : ℕ → Type 0 = λ k. AddsTrial k old new trial in
    let Q : RingTotals → Type 0 = λ t. AddsTrial n t new trial in
    subst P en (subst Q es h)
