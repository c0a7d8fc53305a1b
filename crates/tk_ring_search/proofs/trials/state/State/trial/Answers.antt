use Rattle.std.proofs.Common.{◌≡◌, ℕ, ◌≤◌, length, refl, sym, ◌∙◌, ap, arith}
use Rattle.tk_rings.specs.LoadedRings.{cities_in, swaps_in}
use Rattle.tk_ring_search.specs.Drawing.{most_draws}
use Rattle.tk_ring_search.specs.Given.{given_of}
use Rattle.tk_ring_search.specs.declared.trials.state.State.{State}
use Rattle.tk_ring_search.specs.declared.trials.totals.RingTrial.{RingTrial}
use Rattle.tk_ring_search.proofs.NextTrials.{Tried, adds_as, idle_tried, kicked_tried, renamed, stands_with}
use Rattle.tk_ring_search.proofs.trials.state.State.trial.Goals as goal
use Rattle.tk_ring_search.proofs.trials.state.State.trial.Goals.{in-Some, in-None}

few_most : (n : ℕ) → most_draws n ≤ 1000
few_most n = grind arith

pub descend_kicked-trial-requires-clause-kick : goal.descend_kicked-trial-requires-clause-kick
descend_kicked-trial-requires-clause-kick g c =
    let fit = rw c.in-Some.is at c.draw_fitting-drawn.ensures.kick in fit.is_kick

pub with_trial-self-requires-clause-draws : goal.with_trial-self-requires-clause-draws
with_trial-self-requires-clause-draws g c =
    let few = few_most (length (cities_in c.args.self.now.ring)) in
    let most = c.draw_fitting-drawn.ensures.few in
    elim c.match-drawn.branch [
      | in-Some w ↦ omega (
        arith,
        few,
        most,
        w.descend_kicked-trial.ensures.draws,
        ap (λ (t : RingTrial). t.draws)
            w.trial-is,
      )
      | in-None w ↦ omega (arith, few, most, w.idle-trial.ensures.draws, ap (λ (t : RingTrial). t.draws) w.trial-is)
    ]

pub returns : goal.returns
returns g c =
    let size = g.M.Metric.size_of c.args.terms.now.metric.now in
    let given = given_of g.M.Metric c.args.terms.now in
    let old = c.args.self.now in
    let h = c.requires.holds in
    let d = c.draw_fitting-drawn.ensures in
    let n : ℕ = length (cities_in old.ring) in
    let few : c.draw_fitting-drawn.result.draws ≤ 1000 = omega (arith, d.few, few_most n) in
    let words = g.R.Rng.stream c.args.rng.now in
    let rest = g.R.Rng.stream c.draw_fitting-drawn.new.rng in
    let totals = c.with_trial-self.result in
    let swaps = c.with_trial-self.ensures.swaps ∙ c.swaps.ensures in
    let tried : Tried size given old c.match-drawn.self totals words rest c.match-drawn.trial =
    elim c.match-drawn.branch [
      | in-Some w ↦
          let k = w.descend_kicked-trial.ensures in
          let made = w.descend_kicked-trial.new.self in
          renamed size given old c.match-drawn.self made totals words rest c.match-drawn.trial
          w.descend_kicked-trial.result w.self-is w.trial-is
          (kicked_tried size given old made totals words rest c.draw_fitting-drawn.result.draws w.in-Some.kick
          w.descend_kicked-trial.result (swaps ∙ ap (λ (v : State _ _ _). swaps_in v.ring) w.self-is) k.draws
          (rw w.in-Some.is at d.kick) k.descent k.totals k.stands few)
      | in-None w ↦
          let k = w.idle-trial.ensures in
          renamed size given old c.match-drawn.self old totals words rest c.match-drawn.trial w.idle-trial.result
          w.self-is w.trial-is
          (idle_tried size given old totals words rest c.draw_fitting-drawn.result.draws w.idle-trial.result h.stands
          (swaps ∙ ap (λ (v : State _ _ _). swaps_in v.ring) w.self-is) h.swaps k.draws k.outcome k.lengths k.counts
          (rw w.in-None.is at d.kick) few)
    ] in
    let count : c.size.result ≡ n = c.size.ensures ∙ tried.stands.count ∙ sym tried.stands.elements
    ∙ h.stands.elements ∙ sym h.stands.count in
    record {
      next = record {
        left = c.requires.left;
        given = refl;
        adds = adds_as c.size.result n old.totals c.match-drawn.self.totals totals c.match-drawn.trial count
            tried.totals_are c.with_trial-self.ensures.adds;
        few = tried.few;
        done = tried.done;
      };
      holds = record {
        stands = stands_with size given c.match-drawn.self totals tried.stands;
        swaps = swaps;
        countable = c.with_trial-self.ensures.countable;
      };
    }
