-- How `info` ends.
use Rattle.std.specs.Prelude.{false, List, ℕ, None, Result}
use Rattle.tk_words.specs.declared.sources.source.Source as sources
use Rattle.tk_writers.specs.Puts.{Writes}
use Rattle.tk_writers.specs.declared.output.sink.Sink as sinks
use Rattle.tk_outcomes.specs.Infos.{IsInfo}
use Rattle.tk_outcomes.specs.Lines.InfoLines.{info_lines}
use Rattle.tk_outcomes.specs.declared.info.ProblemInfo.{ProblemInfo}
use Rattle.tk_engines.specs.Engine.{Ends, NoClash, NoText, ReadsProblem, Task, WritesNothing, written_as}
use Rattle.tk_engines.specs.declared.fault.Fault.{Fault}

-- the task of finding out what is known of a problem, which any problem fits
abbrev pub info_outcome_task : Task (Unit {0}) ProblemInfo (Unit {0})
info_outcome_task = record {
  misfit = λ _. None;
  IsClash = NoClash;
  takes_memory = false;
  Gives = λ problem _ info _. IsInfo problem info;
}

-- how this ends, given its source before and after it
abbrev pub FindsInfo : {P : Type 0} → sources.Ghosts P → P → P → Result ProblemInfo Fault → Type 0
FindsInfo problems problem problem' =
    Ends info_outcome_task (ReadsProblem problems problem problem') NoText WritesNothing

-- the task of writing it as lines
abbrev pub info_task : Task (Unit {0}) (Unit {0}) (List ℕ)
info_task = written_as info_outcome_task (λ _. tt) info_lines

-- how this ends, given its source and its sink before and after it
abbrev pub WritesInfo : {P W : Type 0} → sources.Ghosts P → sinks.Ghosts W → P × W → P × W →
    Result (Unit {0}) Fault → Type 0
WritesInfo problems outs (problem, out) (problem', out') =
    Ends info_task (ReadsProblem problems problem problem') NoText (Writes outs out out')
