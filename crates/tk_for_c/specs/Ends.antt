-- How a call ends.
--     IsTextEnd Given Refused old new answer      a call that writes texts, or else a message to this buffer
--     IsArrayEnd Given Counts Refused old new answer      a call that fills this array
use Rattle.std.specs.Prelude.{◌≡◌, ◌≤◌, ℕ, List, length}
use Rattle.tk_for_c.specs.Arrays.{IsArrayStatus}
use Rattle.tk_for_c.specs.Outcomes.{with_status}
use Rattle.tk_for_c.specs.Texts.{IsSomeText}
use Rattle.tk_for_c.specs.declared.answer.Answer.{Answer}

-- with status 0 or 1, Given is true of the texts that were written; with status 2, Refused is true of the answer; with
-- status 3, memory ran out. With status 2 or 3, some message was written to the buffer
pub record IsTextEnd (Given Refused : Answer → Type 0) (old new : List ℕ) (answer : Answer) : Type 0 where
  pub given : answer.status ≤ 1 → Given answer
  pub known : answer.status ≤ 3
  pub refused : answer.status ≡ 2 → Refused answer
  pub memory : answer.status ≡ 3 → answer ≡ with_status 3 answer.needed
  pub message : 2 ≤ answer.status → IsSomeText old new answer

-- with status 0, Given is true of the numbers that were written; with status 2, Refused is true of the answer; with
-- status 4, Counts is, which states the number of entries that are needed. With status 2 to 4, the array is unchanged
pub record IsArrayEnd {A : Type 0} (Given : Type 0) (Counts Refused : Answer → Type 0) (old new : List A)
    (answer : Answer) : Type 0 where
  pub given : answer.status ≡ 0 → Given
  pub room : answer.status ≡ 4 → Counts answer
  pub status : IsArrayStatus (length old) answer
  pub kept : 2 ≤ answer.status → new ≡ old
  pub refused : answer.status ≡ 2 → Refused answer
