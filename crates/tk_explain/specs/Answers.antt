-- The fault of a file of a kind, as the library's reader of that kind reports it.
--     fault_of kind text      None if the reader accepts the text
use Rattle.std.specs.Prelude.{ℕ, List, Option, Some, None, Result, Ok, Err}
use Rattle.tk_words.specs.declared.fault.TextFault.{TextFault}
use Rattle.tk_words.specs.Texts.{answer_of}
use Rattle.tk_problem_text.specs.Problem.{problem_texts}
use Rattle.tk_lists.specs.Tour.{tour_texts}
use Rattle.tk_lists.specs.Solution.{solution_texts}
use Rattle.tk_params.specs.declared.fault.ParamFault.{ParamFault}
use Rattle.tk_params.specs.Params.{params_answer}
use Rattle.tk_words.specs.declared.fault.TextKind.TheVariants as text
use Rattle.tk_params.specs.declared.fault.ParamKind.TheVariants as params
use Rattle.tk_explain.specs.declared.read_result.ReadResult.{ReadResult}
use Rattle.tk_explain.specs.declared.read_result.ReadResult.TheVariants as answers
use Rattle.tk_kinds.specs.declared.kind.Kind.{Kind}
use Rattle.tk_kinds.specs.declared.kind.Kind.TheVariants as kinds
use Rattle.tk_diagnosis.specs.declared.fault.FileFault.{FileFault}
use Rattle.tk_diagnosis.specs.declared.fault.FileFault.TheVariants as faults

-- the fault in the answer to a text
abbrev pub text_fault : {V : Type 0} → Result V TextFault → Option FileFault
text_fault (Ok v) = None
text_fault (Err f) = Some (faults.Text f)

-- the fault in the answer to a parameter text
abbrev pub param_fault : {V : Type 0} → Result V ParamFault → Option FileFault
param_fault (Ok v) = None
param_fault (Err f) = Some (faults.Parameters f)

-- the fault that an answer reports
abbrev pub fault_in : ReadResult → Option FileFault
fault_in (answers.Valid sound) = None
fault_in (answers.Invalid fault) = Some fault

-- the fault that a text has as a file of this kind
abbrev pub fault_of : Kind → List ℕ → Option FileFault
fault_of kinds.Problem text = text_fault (answer_of problem_texts text)
fault_of kinds.Tour text = text_fault (answer_of tour_texts text)
fault_of kinds.Solution text = text_fault (answer_of solution_texts text)
fault_of kinds.Parameters text = param_fault (params_answer text)

-- reading failed on this line of a file of this kind
abbrev pub unread_of : Kind → ℕ → FileFault
unread_of kinds.Parameters line = faults.Parameters (record { line = line; kind = params.Read })
unread_of _ line = faults.Text (record { line = line; kind = text.Read })
