-- The contracts of the engines of searches on their sources and sinks, in terms of texts.
use Rattle.std.proofs.Common.{◌≡◌, ℕ, Bool, List, [], Option, None, Some, Ok, Err, ◌∙◌, ap, subst, sym}
use Rattle.std.specs.Prelude.{IsSomeAnd}
use Rattle.tk_text.specs.Problem.{ProblemIs, RoutingIs, problem_texts}
use Rattle.tk_text.specs.Texts.{Texts}
use Rattle.tk_words.specs.declared.fault.TextFault.{TextFault}
use Rattle.tk_words.specs.declared.sources.source.Source as sources
use Rattle.tk_writers.specs.declared.output.sink.Sink as sinks
use Rattle.tk_engines.specs.Between.{IsStartFault as HasStartFault}
use Rattle.tk_engines.specs.Engine.{EndsByProblem, IsGiven, ReadsGiven, ReadsProblem, Task, Writing}
use Rattle.tk_engines.specs.ReadProblems.{instance_in}
use Rattle.tk_engines.specs.Solve.{Files, IsInitial, WritesFiles}
use Rattle.tk_engines.specs.declared.fault.Fault.{Fault}
use Rattle.tk_for_c.proofs.PlotTexts.{appended}
use Rattle.tk_for_c.proofs.EngineStops.{stop_of}
use Rattle.tk_for_c.proofs.TextsSaid.{has_fault, says}
use Rattle.tk_for_c.specs.Answers.{IsStop}
use Rattle.tk_for_c.specs.Searches.{IsOutputOf, IsStartClash, IsStartFault, StartSays}
use Rattle.tk_for_c.specs.SolvedRoutes.{IsClashOf}
use Rattle.tk_for_c.specs.Texts.{TextSays}

files_same : (f : Files) (file out : List ℕ) → file ≡ f.file → out ≡ f.out → f ≡ record { file = file; out = out }
files_same f file out e i =
    ap (λ (l : List ℕ). record { file = l; out = f.out }) (sym e)
    ∙ ap (λ (l : List ℕ). record { file = file; out = l }) (sym i)

-- a search for a problem, and for a start that is read if it is given
module _ {V S I : Type 0} (texts : Texts V TextFault) (wrap : TextFault → Fault)
    (task : Task (Option V) (Unit {0}) Files) (given : Bool) (source : sources.Ghosts S) (old new : S)
    (starts : sources.Ghosts I) (start_old start_new : I) (problem start : List ℕ)
    (e : source.left old ≡ Some problem) (f : starts.left start_old ≡ Some start) where
  -- the text contains the start that was read
  start_says : (second : Option V) → ReadsGiven texts wrap given starts start_old start_new (Ok second) →
      StartSays texts given start second
  start_says None h = h.0
  start_says (Some value) h = (h.0, says texts starts start_old start_new start value f h.1)

  -- the output of the engine
  pub search_said : {F W : Type 0} (files : sinks.Ghosts F) (file file' : F) (outs : sinks.Ghosts W) (out out' : W)
      (items lines : List ℕ)
      → IsGiven task (ReadsProblem source old new) (λ _. ReadsGiven texts wrap given starts start_old start_new)
      (WritesFiles files outs file file' out out' (Ok tt)) tt
      → files.taken file ≡ Some [] → files.taken file' ≡ Some items
      → outs.taken out ≡ Some [] → outs.taken out' ≡ Some lines
      → IsOutputOf texts task given problem start (record { file = items; out = lines })
  search_said files file file' outs out out' items lines h g i j k =
      let same = files_same h.text items lines
      (appended (files.taken file) (files.taken file') h.text.file items g i h.written.0.0)
      (appended (outs.taken out) (outs.taken out') h.text.out lines j k h.written.1.0) in
      record {
        q = h.problem;
        second = h.second;
        is_problem = says problem_texts source old new problem h.problem e h.read.is_problem;
        fits = h.read.fits;
        is_start = start_says h.second h.read.is_second;
        together = h.together;
        gives = subst (λ (w : Files). task.Gives h.problem h.second tt w) same h.gives;
      }

  -- the start that was read clashes with the problem
  start_clash : ((q : ProblemIs) (v : Fault) → task.IsClash q None (Some v) → ⊥)
      → (q : ProblemIs) (second : Option V) (v : Fault)
      → ReadsGiven texts wrap given starts start_old start_new (Ok second) → task.IsClash q second (Some v)
      → IsStartClash texts task.IsClash given start q v
  start_clash never q None v h clash = absurd (never q v clash)
  start_clash never q (Some value) v h clash = record {
    is_given = h.0;
    value = value;
    is_start = says texts starts start_old start_new start value f h.1;
    clash = clash;
  }

  -- why the engine stopped
  pub search_stop : (Tour Solution : ProblemIs → TextFault → Type 0) (Writes : Writing Files)
      → ((q : ProblemIs) (v : Fault) → task.IsClash q None (Some v) → ⊥)
      → ((q : ProblemIs) (t : TextFault) → TextSays problem_texts problem q → task.misfit q ≡ None
      → IsStartFault texts given start q t
      → IsStop task.misfit (IsStartClash texts task.IsClash given start) Tour Solution problem (wrap t))
      → (v : Fault) → EndsByProblem task (ReadsProblem source old new)
      (λ _. ReadsGiven texts wrap given starts start_old start_new) Writes (Err v)
      → IsStop task.misfit (IsStartClash texts task.IsClash given start) Tour Solution problem v
  search_stop Tour Solution Writes never stop =
      let Clash = IsStartClash texts task.IsClash given start in
      stop_of task Clash Tour Solution source old new problem e
      (λ _. ReadsGiven texts wrap given starts start_old start_new) Writes
      (λ q v said fits h. subst (IsStop task.misfit Clash Tour Solution problem) (sym h.1.1)
      (stop q h.1.0 said fits (h.0, has_fault texts start starts start_old start_new h.1.0 f h.1.2)))
      (start_clash never)

-- an initial tour that is not given has no fault
pub never_initial : (q : ProblemIs) (v : Fault) → IsInitial q None (Some v) → ⊥
never_initial q v h = cc h

no_start : (q : ProblemIs) (o : Option RoutingIs) (v : Fault)
    → IsSomeAnd o (λ r. HasStartFault (instance_in q r) None (Some v)) → ⊥
no_start q None v h = h
no_start q (Some routing) v h = cc h

-- nor has an initial solution
pub never_start : (q : ProblemIs) (v : Fault) → IsClashOf q None (Some v) → ⊥
never_start q v h = no_start q q.routing v h
