-- How drawing what is claimed of a problem ends, by where it stopped.
use Rattle.std.proofs.Common.{◌≡◌, ℕ, Bool, true, false, Err, List, Option, Some, None, ap, refl, subst}
use Rattle.std.specs.Prelude.{unwrap_or}
use Rattle.tk_problem_text.specs.declared.placed_problem.GivenPlaces.{GivenPlaces}
use Rattle.tk_problem_text.specs.Problem.{ProblemIs, WeightsAre}
use Rattle.tk_problem_text.specs.Problem as value
use Rattle.tk_words.specs.declared.sources.source.Source as sources
use Rattle.tk_writers.specs.declared.output.sink.Sink as sinks
use Rattle.tk_picture.specs.declared.picture.OutputFormat.{OutputFormat}
use Rattle.tk_engines.specs.Engine.{AtWrite, HasRead, Stopped}
use Rattle.tk_picture.specs.Pictures.{names_fit}
use Rattle.tk_plot.specs.Plot.{PlotsClaim, ReadsClaim, WritesOutput, or_wrong_names, plot_task, undrawable}
use Rattle.tk_plot.specs.Plot.{without_places}
use Rattle.tk_engines.specs.declared.fault.Fault.{Fault}
use Rattle.tk_engines.specs.declared.fault.Fault.TheVariants as faults

-- before anything was written
pub unwritten : {C W T : Type 0} {claims : sources.Ghosts C} {outs : sinks.Ghosts W} {reports : sinks.Ghosts T}
    {form : OutputFormat} {places : Option GivenPlaces} {problem : ProblemIs} {claim claim' : C} {out : W}
    {reported : T} (f : Fault) → AtWrite ⊥ f
    → Stopped (plot_task form places true) (HasRead problem) (ReadsClaim true claims claim claim')
    (WritesOutput outs reports out out reported reported) f
    → PlotsClaim claims outs reports form places problem (claim, out, reported) (claim', out, reported) (Err f)
unwritten (faults.Write f) never ends = elim never [ ]
unwritten _ never ends = record { ends = ends; quiet = ((refl, refl), (refl, refl)); failed = tt }

-- why a problem cannot be drawn
undrawn_by : (w : WeightsAre) (places : Option GivenPlaces) (fit : Bool) (n : ℕ) (f : Fault) (P : Fault → Type 0)
    → or_wrong_names (without_places w places) fit n ≡ Some f → P faults.NoPlaces → P (faults.WrongNames n) → P f
undrawn_by (value.Points kind points) places true n f P h placeless wrong = absurd cc
undrawn_by (value.Points kind points) places false n f P h placeless wrong =
    subst P (ap (λ o. unwrap_or o f) h) wrong
undrawn_by (value.Lower weights) (Some given) true n f P h placeless wrong = absurd cc
undrawn_by (value.Lower weights) (Some given) false n f P h placeless wrong =
    subst P (ap (λ o. unwrap_or o f) h) wrong
undrawn_by (value.Lower weights) None fit n f P h placeless wrong =
    subst P (ap (λ o. unwrap_or o f) h) placeless

pub undrawn : (form : OutputFormat) (places : Option GivenPlaces) (p : ProblemIs) (f : Fault) (P : Fault → Type 0)
    → undrawable form places p ≡ Some f → P faults.NoPlaces → P (faults.WrongNames p.n) → P f
undrawn form places p f P h placeless wrong =
    undrawn_by p.weights places (names_fit form p.n) p.n f P h placeless wrong

-- it stops the engine before the second text
pub undrawn_stops : {C W T : Type 0} (claims : sources.Ghosts C) (outs : sinks.Ghosts W) (reports : sinks.Ghosts T)
    (form : OutputFormat) (places : Option GivenPlaces) (given : Bool) (p : ProblemIs) (claim : C) (out : W)
    (reported : T) (f : Fault) → undrawable form places p ≡ Some f
    → Stopped (plot_task form places given) (HasRead p) (ReadsClaim given claims claim claim)
    (WritesOutput outs reports out out reported reported) f
undrawn_stops claims outs reports form places given p claim out reported f h =
    undrawn form places p f (λ g. undrawable form places p ≡ Some g →
    Stopped (plot_task form places given) (HasRead p) (ReadsClaim given claims claim claim)
    (WritesOutput outs reports out out reported reported) g) h
    (λ m. record { problem = p; is_problem = refl; misfit = m })
    (λ m. record { problem = p; is_problem = refl; misfit = m })
    h
