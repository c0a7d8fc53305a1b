-- The contract of the engine of `plot` on its sources and sinks, in terms of texts.
use Rattle.std.proofs.Common.{◌≡◌, ℕ, Bool, true, List, [], Option, None, Some, Ok, Err, refl, sym, ap, ◌∙◌, subst}
use Rattle.std.specs.Prelude.{MatchOption, is_some, unwrap_or}
use Rattle.std.specs.Io.KnownBytes.{Appends}
use Rattle.tk_text.specs.Placed.{PlacedIs, placed_texts}
use Rattle.tk_text.specs.Problem.{ProblemIs, RoutingIs}
use Rattle.tk_problem_text.specs.declared.placed_problem.GivenPlaces.{GivenPlaces}
use Rattle.tk_text.specs.Solution.{solution_texts}
use Rattle.tk_text.specs.Tour.{tour_texts}
use Rattle.tk_engines.specs.Engine.{EndsByProblem, IsGiven, ReadsSolution, ReadsTour}
use Rattle.tk_words.specs.declared.sources.source.Source as sources
use Rattle.tk_writers.specs.declared.output.sink.Sink as sinks
use Rattle.tk_engines.specs.declared.fault.Fault.{Fault}
use Rattle.tk_engines.specs.declared.fault.Fault.TheVariants as faults
use Rattle.tk_picture.specs.Pictures.{names_fit}
use Rattle.tk_picture.specs.declared.picture.OutputFormat.{OutputFormat}
use Rattle.tk_picture.specs.declared.picture.OutputFormat.TheVariants as forms
use Rattle.tk_plot.specs.Plot.{Claim, Drawn, Nothing, Output, ReadsClaim, ReadsPlaced, Refused, RoutesClaim}
use Rattle.tk_plot.specs.Plot.{TourClaim, WritesOutput, or_wrong_names, plot_task, undrawable, without_places}
use Rattle.tk_plot.specs.declared.plotted.Plotted.{Plotted}
use Rattle.tk_for_c.proofs.TextsSaid.{has_fault, says}
use Rattle.tk_for_c.specs.Answers.{IsStopIn, NeverClashes}
use Rattle.tk_for_c.specs.Plotted.{ClaimSays, IsNameless, IsPlotOf, IsSolutionFault, IsTourFault, line_in}
use Rattle.tk_for_c.specs.Plotted.{picture_in, plot_misfit}
use Rattle.tk_for_c.specs.Texts.{TextSays}

-- the text contains the tour or the routes that were read
pub claim_says : {S : Type 0} (given : Bool) (source : sources.Ghosts S) (old new : S) (text : List ℕ) (p : ProblemIs)
    (c : Claim) → source.left old ≡ Some text → ReadsClaim given source old new p (Ok c) → ClaimSays given text p c
claim_says given source old new text p Nothing e h = h.0
claim_says given source old new text p (TourClaim cities) e h =
    (h.0, h.1, says tour_texts source old new text cities e h.2)
claim_says given source old new text p (RoutesClaim s) e h =
    (h.0, h.1, says solution_texts source old new text s e h.2)

-- the bytes in a buffer that was empty before
pub appended : (old new : Option (List ℕ)) (bs items : List ℕ) → old ≡ Some [] → new ≡ Some items →
    Appends old new bs → items ≡ bs
appended old new bs items e i h =
    subst (λ (n : Option (List ℕ)). Appends (Some []) n bs) i (subst (λ (o : Option (List ℕ)). Appends o new bs) e h)

untouched : (old new : Option (List ℕ)) (items : List ℕ) → old ≡ Some [] → new ≡ Some items → new ≡ old → items ≡ []
untouched old new items e i h = ap (λ (o : Option (List ℕ)). unwrap_or o []) (sym i ∙ h ∙ e)

pub written_of : {W T : Type 0} (outs : sinks.Ghosts W) (reports : sinks.Ghosts T) (out out' : W)
    (reported reported' : T)
    (items lines : List ℕ) (output : Output)
    → outs.taken out ≡ Some [] → outs.taken out' ≡ Some items
    → reports.taken reported ≡ Some [] → reports.taken reported' ≡ Some lines
    → WritesOutput outs reports out out' reported reported' (Ok tt) output →
    (items ≡ picture_in output) × (lines ≡ line_in output)
written_of outs reports out out' reported reported' items lines (Drawn picture) e i f j h = (
  appended (outs.taken out) (outs.taken out') picture items e i h.0.0,
  untouched (reports.taken reported) (reports.taken reported') lines f j h.1.0,
)
written_of outs reports out out' reported reported' items lines (Refused line) e i f j h = (
  untouched (outs.taken out) (outs.taken out') items e i h.0.0,
  appended (reports.taken reported) (reports.taken reported') line lines f j h.1.0,
)

-- the output of the engine, in terms of its texts
pub plot_said : {S C W T : Type 0} (source : sources.Ghosts S) (old new : S) (claims : sources.Ghosts C)
    (claim_old claim_new : C) (outs : sinks.Ghosts W) (out out' : W) (reports : sinks.Ghosts T) (reported reported' : T)
    (form : OutputFormat) (places : Option GivenPlaces) (given : Bool) (answer : Plotted)
    (problem claim items lines : List ℕ)
    → IsGiven (plot_task form places given) (ReadsPlaced source old new places)
    (ReadsClaim given claims claim_old claim_new)
    (WritesOutput outs reports out out' reported reported' (Ok tt)) answer
    → source.left old ≡ Some problem → claims.left claim_old ≡ Some claim
    → outs.taken out ≡ Some [] → outs.taken out' ≡ Some items
    → reports.taken reported ≡ Some [] → reports.taken reported' ≡ Some lines
    → (output : Output) × IsPlotOf form given problem claim answer output × (items ≡ picture_in output)
    × (lines ≡ line_in output)
plot_said source old new claims claim_old claim_new outs out out' reports reported reported' form places given answer
    problem claim items lines h e f g i j k =
    let w = written_of outs reports out out' reported reported' items lines h.text g i j k
    h.written in (
      h.text,
      record {
        p = record { problem = h.problem; places = places };
        c = h.second;
        is_problem = says placed_texts source old new problem (record { problem = h.problem; places = places }) e
            h.read.is_problem;
        is_claim = claim_says given claims claim_old claim_new claim h.problem h.second f
            h.read.is_second;
        is = h.gives;
      },
      w.0,
      w.1,
    )

claim_stop_of : {C : Type 0} (given : Bool) (source : sources.Ghosts C) (old new : C) (problem claim : List ℕ)
    (e : source.left old ≡ Some claim) (p : PlacedIs) (said : TextSays placed_texts problem p)
    (fits : plot_misfit p ≡ None) (v : Fault) → given ≡ true → (o : Option RoutingIs) → p.problem.routing ≡ o
    → MatchOption o (ReadsTour source old new (Err v)) (λ _. ReadsSolution source old new (Err v)) →
    IsStopIn placed_texts plot_misfit NeverClashes (IsTourFault given claim) (IsSolutionFault given claim) problem v
claim_stop_of given source old new problem claim e p said fits v is None r h =
    subst (IsStopIn placed_texts plot_misfit NeverClashes (IsTourFault given claim) (IsSolutionFault given claim)
    problem) (sym h.1) (record {
      p = p;
      is_problem = said;
      fits = fits;
      fact = (is, r, has_fault tour_texts claim source old new h.0 e h.2);
    })
claim_stop_of given source old new problem claim e p said fits v is (Some routing) r h =
    subst (IsStopIn placed_texts plot_misfit NeverClashes (IsTourFault given claim) (IsSolutionFault given claim)
    problem) (sym h.1) (record {
      p = p;
      is_problem = said;
      fits = fits;
      fact = (is, ap is_some r, has_fault solution_texts claim source old new h.0 e h.2);
    })

-- the second text was rejected
pub claim_stop : {C : Type 0} (source : sources.Ghosts C) (old new : C) (problem claim : List ℕ)
    (e : source.left old ≡ Some claim) (given : Bool) (p : PlacedIs) (v : Fault)
    → TextSays placed_texts problem p → plot_misfit p ≡ None → ReadsClaim given source old new p.problem (Err v) →
    IsStopIn placed_texts plot_misfit NeverClashes (IsTourFault given claim) (IsSolutionFault given claim) problem v
claim_stop source old new problem claim e given p v said fits h =
    claim_stop_of given source old new problem claim e p said fits v h.0 p.problem.routing refl h.1

-- without names, only the places of the cities can be missing
names_are_right : (form : OutputFormat) → IsNameless form → (n : ℕ) → names_fit form n ≡ true
names_are_right forms.Svg nameless n = refl
names_are_right (forms.Page parts names) nameless n = rw nameless refl

no_wrong_names : (o : Option Fault) (n : ℕ) → o ≡ or_wrong_names o true n
no_wrong_names None n = refl
no_wrong_names (Some f) n = refl

same_misfit : (form : OutputFormat) → IsNameless form → (places : Option GivenPlaces) (p : ProblemIs) →
    without_places p.weights places ≡ undrawable form places p
same_misfit form nameless places p =
    rw (names_are_right form nameless p.n) (no_wrong_names (without_places p.weights places) p.n)

-- the engine stopped
module _ {S C W T : Type 0} (source : sources.Ghosts S) (old new : S) (claims : sources.Ghosts C)
    (claim_old claim_new : C) (outs : sinks.Ghosts W) (out out' : W) (reports : sinks.Ghosts T)
    (reported reported' : T) (form : OutputFormat) (nameless : IsNameless form) (places : Option GivenPlaces)
    (given : Bool) (problem claim : List ℕ) (e : source.left old ≡ Some problem)
    (f : claims.left claim_old ≡ Some claim) where
  abbrev placed : ProblemIs → PlacedIs
  placed p = record { problem = p; places = places }

  same : (p : ProblemIs) → plot_misfit (placed p) ≡ undrawable form places p
  same p = same_misfit form nameless places p

  pub plot_stop : (v : Fault)
      → EndsByProblem (plot_task form places given) (ReadsPlaced source old new places)
      (ReadsClaim given claims claim_old claim_new) (WritesOutput outs reports out out' reported reported') (Err v)
      → IsStopIn placed_texts plot_misfit NeverClashes (IsTourFault given claim) (IsSolutionFault given claim) problem v
  plot_stop (faults.Problem g) h =
      subst (IsStopIn placed_texts plot_misfit NeverClashes (IsTourFault given claim) (IsSolutionFault given claim)
      problem) (sym h.1) (has_fault placed_texts problem source old new h.0 e h.2)
  plot_stop (faults.Initial g) h = absurd (let clash = h.3 in cc)
  plot_stop (faults.InitialRoutes g) h = absurd (let clash = h.3 in cc)
  plot_stop (faults.Write g) h = tt
  plot_stop faults.NoMemory h = tt
  plot_stop (faults.Tour g) h =
      claim_stop claims claim_old claim_new problem claim f given (placed h.problem) (faults.Tour g)
      (says placed_texts source old new problem (placed h.problem) e h.is_problem) (same h.problem ∙ h.fits) h.refused
  plot_stop (faults.Solution g) h =
      claim_stop claims claim_old claim_new problem claim f given (placed h.problem) (faults.Solution g)
      (says placed_texts source old new problem (placed h.problem) e h.is_problem) (same h.problem ∙ h.fits) h.refused
  plot_stop v h = record {
    p = placed h.problem;
    is_problem = says placed_texts source old new problem (placed h.problem) e h.is_problem;
    misfit_is = same h.problem ∙ h.misfit;
  }
