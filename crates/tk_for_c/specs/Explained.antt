-- The explanation of a text in memory.
use Rattle.std.specs.Prelude.{◌≡◌, ◌<◌, ℕ, List, Option, None, Some, length}
use Rattle.tk_diagnosis.specs.declared.fault.FileFault.{FileFault}
use Rattle.tk_diagnosis.specs.declared.fault.FileFault.TheVariants as faults
use Rattle.tk_kinds.specs.declared.kind.Kind.{Kind}
use Rattle.tk_kinds.specs.declared.kind.Kind.TheVariants as kinds
use Rattle.tk_explain.specs.Answers.{fault_of}
use Rattle.tk_for_c.specs.HandedOut.{handed_out}
use Rattle.tk_for_c.specs.Outcomes.{param_number, text_number}
use Rattle.tk_for_c.specs.declared.answer.Answer.{Answer}

-- the number of a kind of text
abbrev pub text_kind : Kind → ℕ
text_kind kinds.Problem = 1
text_kind kinds.Tour = 2
text_kind kinds.Solution = 3
text_kind kinds.Parameters = 4

-- an answer with this status, about a text of this kind with a fault on this line, which is 0 for none
abbrev pub about : ℕ → ℕ → ℕ → ℕ → ℕ → Answer
about status text line kind needed = record {
  status = status;
  text = text;
  line = line;
  kind = kind;
  place = 0;
  length = 0;
  needed = needed;
  needed_file = 0;
}

-- the answer about a text of this kind with this fault, whose explanation has `needed` bytes
abbrev pub explained : Kind → Option FileFault → ℕ → Answer
explained kind None needed = about 0 (text_kind kind) 0 0 needed
explained kind (Some (faults.Text f)) needed = about 1 (text_kind kind) f.line (text_number f.kind) needed
explained kind (Some (faults.Parameters f)) needed = about 1 (text_kind kind) f.line (param_number f.kind) needed

-- an explanation was written to the buffer, as much of it as fits, and the answer reports the fault that the text has
-- as one of the kind that it reports
pub record IsExplained (text old new : List ℕ) (answer : Answer) : Type 0 where
  pub kind : Kind
  pub page : List ℕ
  pub some : 0 < length page
  pub bytes : new ≡ handed_out page old
  pub answer_is : answer ≡ explained kind (fault_of kind text) (length page)
